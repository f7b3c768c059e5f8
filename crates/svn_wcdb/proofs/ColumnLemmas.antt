-- The columns of a record, value by value.
use Rattle.std.proofs.Common.{◌≡◌, ℕ, ◌+◌, ◌<◌, List, length, sym, ap, ◌∙◌, inl, inr, arith}
use Rattle.std.specs.Prelude.{get_or, slice_set}
use Rattle.std.proofs.lemmas.Bool.{cases_eq}
use Rattle.std.proofs.lemmas.Grind.{get_or-set_at}
use Rattle.std.proofs.lemmas.List.{get_or-set_other}
use Rattle.sqlite_value.specs.declared.value.ValueRef.{ValueRef}
use Rattle.sqlite_value.specs.declared.value.ValueRef.TheVariants as lent
use Rattle.sqlite_value.specs.Value.{owned}
use Rattle.svn_wcdb.specs.Columns.{column, AreColumns}

-- one more column was read
pub one_read : (n : ℕ) (values : List ValueRef) (value : ValueRef) (bytes : List ℕ) → AreColumns n values bytes → n < length values
    → owned value ≡ column bytes n → AreColumns (n + 1) (slice_set values n value) bytes
one_read n values value bytes read fits is c h =
    elim (cases_eq c n) as (λ _. owned (get_or (slice_set values n value) c lent.Null) ≡ column bytes c) [
      | inl same ↦ ap owned (get_or-set_at values n c value lent.Null same fits) ∙ is ∙ ap (column bytes) (sym same)
      | inr other ↦ ap owned (get_or-set_other values n c value lent.Null other) ∙ read c (omega (arith, h, other))
    ]
