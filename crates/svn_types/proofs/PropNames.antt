-- The names of properties are ASCII.
use Rattle.std.proofs.Common.{◌≡◌, ℕ, ◌<◌, Bool, true, false, List, [], ◌∷◌, length, refl, sym, arith}
use Rattle.std.proofs.Common.{Some, None, nat_eq, nat_lt, if◌then◌else◌}
use Rattle.std.proofs.lemmas.Bool.{and_parts}
use Rattle.std.proofs.lemmas.Bool.Decides.{nat_tests}
use Rattle.std.proofs.lemmas.List.Sums.{AllPass-from_list_all}
use Rattle.std.proofs.lemmas.Option.{none-some}
use Rattle.std.proofs.lemmas.Str.{IsUtf8-from_ascii}
use Rattle.std.proofs.lemmas.Str.Ascii.{IsAscii-from_all}
use Rattle.std.specs.List.{list_all}
use Rattle.std.specs.Str.{IsUtf8, IsAscii}
use Rattle.svn_types.specs.declared.fault.PathFault.TheVariants.{EmptyComponent, BadCharacter, NameTooLong}
use Rattle.svn_types.specs.Names.{name_limit, starts_prop_name, continues_prop_name, is_prop_text}
use Rattle.svn_types.specs.NameFaults.{prop_name_fault}

continues_ascii : (b : ℕ) → continues_prop_name b ≡ true → b < 128
continues_ascii b e = grind (arith, nat_tests)

-- what may begin a name may also go on with it
starts_continues : (b : ℕ) → starts_prop_name b ≡ true → continues_prop_name b ≡ true
starts_continues b e = rw e refl

prop_text_all : (bs : List ℕ) → is_prop_text bs ≡ true → list_all continues_prop_name bs ≡ true
prop_text_all [] e = refl
prop_text_all (b ∷ bs) e =
    let parts = and_parts (starts_prop_name b) (list_all continues_prop_name bs) e in
    rw (starts_continues b parts.0, parts.1) refl

prop_text_ascii : (bs : List ℕ) → is_prop_text bs ≡ true → IsAscii bs
prop_text_ascii bs e =
    IsAscii-from_all bs (λ k d h. continues_ascii _ (AllPass-from_list_all continues_prop_name bs (prop_text_all bs e) k d h))

passed_test : (a b c : Bool)
    → (if a then Some EmptyComponent else if b then Some NameTooLong else if c then None else Some BadCharacter) ≡ None → c ≡ true
passed_test true b c e = absurd (none-some _ (sym e))
passed_test false true c e = absurd (none-some _ (sym e))
passed_test false false true e = refl
passed_test false false false e = absurd (none-some _ (sym e))

-- the name of a property is ASCII, and so a text
pub prop_name_is_text : (bs : List ℕ) → prop_name_fault bs ≡ None → IsUtf8 bs
prop_name_is_text bs e =
    IsUtf8-from_ascii bs (prop_text_ascii bs (passed_test (nat_eq (length bs) 0) (nat_lt name_limit (length bs)) (is_prop_text bs) e))
