-- Rows of tables that a test finds equal are the same.
use Rattle.std.proofs.Common.{◌≡◌, Bool, true, List, ◌∙◌, ap, ap₂, ℕ, ◌&&◌}
use Rattle.std.specs.Prelude.{nat_eq, bytes_eq}
use Rattle.std.specs.Cmp.Lexicographic.{pointwise, pointwise_decides, bytes_decides}
use Rattle.std.proofs.lemmas.Bool.{and_parts, eqb-true, eq-eqb}
use Rattle.svn_wcdb.specs.declared.table.TableRow.{TableRow}

abbrev pub row_eq : TableRow → TableRow → Bool
row_eq a b = nat_eq a.rowid b.rowid && bytes_eq a.bytes b.bytes

row_decides : (a b : TableRow) → (row_eq a b ≡ true → a ≡ b) × (a ≡ b → row_eq a b ≡ true)
row_decides a b = (
  λ e.
      let parts = and_parts (nat_eq a.rowid b.rowid) (bytes_eq a.bytes b.bytes) e in
      let one = eqb-true a.rowid b.rowid parts.0 in
      let two = (bytes_decides a.bytes b.bytes).0 parts.1 in
      ap₂ (λ (n : ℕ) (bytes : List ℕ). record { rowid = n; bytes = bytes }) one two,
  λ e. ap (λ x. x && bytes_eq a.bytes b.bytes) (eq-eqb a.rowid b.rowid (ap (λ (row : TableRow). row.rowid) e))
      ∙ (bytes_decides a.bytes b.bytes).1 (ap (λ (row : TableRow). row.bytes) e),
)

pub same_rows : (a b : List TableRow) → pointwise row_eq a b ≡ true → a ≡ b
same_rows a b e = (pointwise_decides row_decides a b).0 e
