-- Lists of atoms, read as they were written.
use Rattle.std.proofs.Common.{◌≡◌, ℕ, zero, suc, ◌+◌, ◌^◌, ◌<◌, ◌≤◌, false, List, [], ◌∷◌, ◌++◌, length, Some, Ok, All, refl, ap, ◌∙◌, arith, append_assoc, decimal, length-append}
use Rattle.std.specs.List.{flat_map}
use Rattle.std.specs.Map.{keys_of}
use Rattle.std.proofs.lemmas.List.Elements.{All-head, All-tail}
use Rattle.svn_types.specs.Names.{IsPropName}
use Rattle.svn_types.specs.Props.{with_changes}
use Rattle.law_dump.proofs.GrammarProps.{no_prop_name_fault}
use Rattle.law_dump.proofs.PropSections.{Prop, settings, set_after}
use Rattle.svn_wcdb.specs.Properties.{pair_at, value_at, pairs_at, props_of}
use Rattle.svn_wcdb.specs.Reading.{◌>>=◌}
use Rattle.svn_wcdb.specs.Skels.{is_end, item_at}
use Rattle.svn_wcdb.proofs.SizedAtoms.{sized_atom_read, sized_atom_is_no_end}
use Rattle.svn_wcrows.specs.Laws.{AreProps}
use Rattle.svn_wcrows.specs.Skels.{atom_bytes, pair_bytes, props_bytes}

-- ---- an atom

pub atom_parts : (atom rest : List ℕ) → atom_bytes atom ++ rest ≡ 32 ∷ (decimal (length atom) ++ 32 ∷ (atom ++ rest))
atom_parts atom rest =
    let front = 32 ∷ decimal (length atom) in
    append_assoc (front ++ 32 ∷ []) atom rest ∙ append_assoc front (32 ∷ []) (atom ++ rest)

atom_read : (atom rest : List ℕ) → length atom < 2 ^ 64 → item_at (atom_bytes atom ++ rest) ≡ Some (atom, rest)
atom_read atom rest small = ap item_at (atom_parts atom rest) ∙ sized_atom_read atom rest small

atom_is_no_end : (atom rest : List ℕ) → length atom < 2 ^ 64 → is_end (atom_bytes atom ++ rest) ≡ false
atom_is_no_end atom rest small = ap is_end (atom_parts atom rest) ∙ sized_atom_is_no_end atom rest small

atom_longer : (atom : List ℕ) → length atom + 1 ≤ length (atom_bytes atom)
atom_longer atom =
    let digits : List ℕ = decimal (length atom) in
    omega (arith, length-append ((32 ∷ digits) ++ 32 ∷ []) atom, length-append (32 ∷ digits) (32 ∷ []))

-- ---- properties

pair_read : (pair : Prop) (rest : List ℕ) → IsPropName pair.0 → length (pair_bytes pair) < 2 ^ 64
    → pair_at (item_at (pair_bytes pair ++ rest)) ≡ Ok ((pair.0, Some pair.1), rest)
pair_read pair rest lawful small =
    let name : List ℕ = pair.0 in
    let value : List ℕ = pair.1 in
    let both = length-append (atom_bytes name) (atom_bytes value) in
    let first = atom_read name (atom_bytes value ++ rest) (omega (arith, small, both, atom_longer name)) in
    let second = atom_read value rest (omega (arith, small, both, atom_longer value)) in
    ap (λ l. pair_at (item_at l)) (append_assoc (atom_bytes name) (atom_bytes value) rest) ∙ ap pair_at first
    ∙ ap (value_at name) second ∙ rw (no_prop_name_fault name lawful) refl

pair_is_no_end : (pair : Prop) (rest : List ℕ) → length (pair_bytes pair) < 2 ^ 64 → is_end (pair_bytes pair ++ rest) ≡ false
pair_is_no_end pair rest small =
    let both = length-append (atom_bytes pair.0) (atom_bytes pair.1) in
    ap is_end (append_assoc (atom_bytes pair.0) (atom_bytes pair.1) rest)
    ∙ atom_is_no_end pair.0 (atom_bytes pair.1 ++ rest) (omega (arith, small, both, atom_longer pair.0))

abbrev all_pairs : List Prop → List ℕ
all_pairs all = flat_map pair_bytes all

fewer_pairs : (all : List Prop) → length all ≤ length (all_pairs all)
fewer_pairs [] = omega arith
fewer_pairs (p ∷ all) =
    omega
    (arith, fewer_pairs all, length-append (pair_bytes p) (all_pairs all), length-append (atom_bytes p.0) (atom_bytes p.1), atom_longer p.0)

pairs_read : (all : List Prop) (most : ℕ) → All IsPropName (keys_of all) → length (all_pairs all) < 2 ^ 64 → length all < most
    → pairs_at most (all_pairs all ++ 41 ∷ []) ≡ Ok (settings all)
unfolding pairs_at
pairs_read all zero names small few = absurd (omega (arith, few))
pairs_read [] (suc most) names small few = refl
pairs_read (p ∷ all) (suc most) names small few =
    let rest : List ℕ = all_pairs all ++ 41 ∷ [] in
    let both = length-append (pair_bytes p) (all_pairs all) in
    let fits : length (pair_bytes p) < 2 ^ 64 = omega (arith, small, both) in
    ap (λ l. pairs_at (suc most) l) (append_assoc (pair_bytes p) (all_pairs all) (41 ∷ []))
    ∙ rw (
      pair_is_no_end p rest fits,
      pair_read p rest (All-head IsPropName p.0 (keys_of all) names) fits,
      pairs_read all most (All-tail IsPropName p.0 (keys_of all) names) (omega (arith, small, both)) (omega (arith, few)),
    )
    refl

pub props_read : (props : List Prop) → AreProps props → props_of (Some (props_bytes props)) ≡ Ok props
props_read props are =
    let list : List ℕ = all_pairs props ++ 41 ∷ [] in
    let size = length-append (all_pairs props) (41 ∷ []) in
    ap (λ r. r >>= λ changes. Ok (with_changes [] changes))
    (pairs_read props (length list) are.names (omega (arith, are.fits, size)) (omega (arith, fewer_pairs props, size)))
    ∙ ap Ok (set_after [] props are.ordered)
