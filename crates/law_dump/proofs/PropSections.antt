-- Property sections, read as they were written.
use Rattle.std.proofs.Common.{Less, ◌≡◌, ℕ, ◌+◌, ◌^◌, ◌<◌, ◌≤◌, Bool, true, false, List, [], ◌∷◌, ◌++◌, length, map, Option, Some, None, Ok, All, refl, sym, ap, subst, ◌∙◌, arith, append_assoc, append-nil, codes, decimal, length-append, IsSome}
use Rattle.std.specs.List.{flat_map, AllByRecursion}
use Rattle.std.specs.BTreeMap.{insert_entry}
use Rattle.std.specs.Map.{keys_of}
use Rattle.std.specs.Ordering.{match_ordering}
use Rattle.std.proofs.lemmas.List.Elements.{All-head, All-tail}
use Rattle.std.proofs.lemmas.Map.Keys.{sorted_head, sorted_tail}
use Rattle.svn_lists.proofs.Every.{all_from_places}
use Rattle.svn_lists.proofs.Entries.{all_keys_right}
use Rattle.svn_types.specs.Names.{IsPropName, name_cmp}
use Rattle.svn_types.specs.Pairs.{InNameOrder}
use Rattle.svn_types.specs.Props.{PropChange, with_changes}
use Rattle.svn_types.proofs.NameLemmas.{reversed}
use Rattle.svn_dump.specs.declared.record.PropSection.{PropSection}
use Rattle.svn_dump.specs.declared.record.PropSection.TheVariants as props
use Rattle.svn_dump.specs.Sections.{sized_props_at}
use Rattle.svn_dump.specs.Written.{run, entry, entries, prop_bytes}
use Rattle.law_dump.specs.Laws.{IsPropSection}
use Rattle.law_dump.specs.Grammar.{IsRun, IsChange, IsChanges, IsPropsOf}
use Rattle.law_dump.proofs.GrammarSections.{sized_props_given}
use Rattle.svn_digits.proofs.Decimals.{number_of_decimal}

-- ---- changes that are written are by the grammar

run_is : (letter : ℕ) (bytes : List ℕ) → length bytes < 2 ^ 64 → IsRun letter (run letter bytes) bytes
run_is letter bytes small =
    let head = letter ∷ 32 ∷ decimal (length bytes) in (
      decimal (length bytes),
      append_assoc (head ++ 10 ∷ []) bytes (10 ∷ []) ∙ append_assoc head (10 ∷ []) (bytes ++ 10 ∷ []),
      number_of_decimal (length bytes) small,
    )

length_run : (letter : ℕ) (bytes : List ℕ) → length bytes + 1 ≤ length (run letter bytes)
length_run letter bytes =
    let head = letter ∷ 32 ∷ decimal (length bytes) in
    omega
    (arith, length-append ((head ++ 10 ∷ []) ++ bytes) (10 ∷ []), length-append (head ++ 10 ∷ []) bytes, length-append head (10 ∷ []))

entry_is : (name : List ℕ) (value : Option (List ℕ)) → IsPropName name → length (entry name value) < 2 ^ 64 → IsChange (entry name value) name value
entry_is name None lawful small = (lawful, run_is 68 name (omega (arith, small, length_run 68 name)))
entry_is name (Some value) lawful small =
    let both = length-append (run 75 name) (run 86 value) in (
      lawful,
      run 75 name,
      run 86 value,
      refl,
      run_is 75 name (omega (arith, small, both, length_run 75 name)),
      run_is 86 value (omega (arith, small, both, length_run 86 value)),
    )

-- the entries of changes
abbrev pub change_entries : List PropChange → List ℕ
change_entries changes = flat_map (λ (c : PropChange). entry c.0 c.1) changes

entries_are : (changes : List PropChange) → AllByRecursion (λ (c : PropChange). IsPropName c.0) changes → length (change_entries changes) < 2 ^ 64
    → IsChanges (change_entries changes ++ codes "PROPS-END\n") changes
entries_are [] h small = refl
entries_are (c ∷ changes) h small =
    let both = length-append (entry c.0 c.1) (change_entries changes) in (
      entry c.0 c.1,
      change_entries changes ++ codes "PROPS-END\n",
      append_assoc (entry c.0 c.1) (change_entries changes) (codes "PROPS-END\n"),
      entry_is c.0 c.1 h.0 (omega (arith, small, both)),
      entries_are changes h.1 (omega (arith, small, both)),
    )

-- ---- all properties

abbrev pub Prop : Type 0
Prop = List ℕ × List ℕ

abbrev pub settings : List Prop → List PropChange
settings all = map (λ (p : Prop). (p.0, Some p.1)) all

same_entries : (all : List Prop) → flat_map (λ (p : Prop). entry p.0 (Some p.1)) all ≡ change_entries (settings all)
same_entries [] = refl
same_entries (p ∷ all) = ap (λ (l : List ℕ). entry p.0 (Some p.1) ++ l) (same_entries all)

settings_named : (all : List Prop) → All IsPropName (keys_of all) → AllByRecursion (λ (c : PropChange). IsPropName c.0) (settings all)
settings_named [] h = tt
settings_named (p ∷ all) h =
    (All-head IsPropName p.0 (keys_of all) h, settings_named all (All-tail IsPropName p.0 (keys_of all) h))

settings_set : (all : List Prop) → AllByRecursion (λ (c : PropChange). IsSome c.1) (settings all)
settings_set [] = tt
settings_set (p ∷ all) = (refl, settings_set all)

-- a name after all others is put at the end
put_last : (done : List Prop) (p : Prop) (rest : List Prop) → InNameOrder (done ++ p ∷ rest)
    → insert_entry name_cmp done p.0 p.1 ≡ done ++ p ∷ []
put_last [] p rest sorted = refl
put_last (e ∷ done) p rest sorted =
    let above = sorted_head name_cmp e.0 (keys_of (done ++ p ∷ rest)) sorted in
    let less = (all_keys_right (λ y. name_cmp e.0 y ≡ Less) done (p ∷ rest) above).0 in
    ap (λ o. match_ordering o (p ∷ e ∷ done) ((e.0, p.1) ∷ done) (e ∷ insert_entry name_cmp done p.0 p.1)) (reversed e.0 p.0 Less less)
    ∙ ap (λ (l : List Prop). e ∷ l) (put_last done p rest (sorted_tail name_cmp e.0 (keys_of (done ++ p ∷ rest)) sorted))

pub set_after : (done all : List Prop) → InNameOrder (done ++ all) → with_changes done (settings all) ≡ done ++ all
set_after done [] sorted = sym (append-nil done)
set_after done (p ∷ all) sorted =
    let parts : (done ++ p ∷ []) ++ all ≡ done ++ p ∷ all = append_assoc done (p ∷ []) all in
    ap (λ (l : List Prop). with_changes l (settings all)) (put_last done p all sorted)
    ∙ set_after (done ++ p ∷ []) all (subst InNameOrder (sym parts) sorted) ∙ parts

-- ---- sections

-- the section is of changes
abbrev pub is_delta : PropSection → Bool
is_delta (props.Whole all) = false
is_delta (props.Delta changes) = true

-- a section that is written is by the grammar
pub section_is : (section : PropSection) → IsPropSection section → length (prop_bytes section) < 2 ^ 64
    → IsPropsOf (is_delta section) (prop_bytes section) section
section_is (props.Whole all) h small =
    let same = same_entries all in
    let fits : length (change_entries (settings all)) < 2 ^ 64 =
    omega (arith, small, ap length same, length-append (entries (props.Whole all)) (codes "PROPS-END\n")) in (
      settings all,
      subst (λ (l : List ℕ). IsChanges (l ++ codes "PROPS-END\n") (settings all)) (sym same)
          (entries_are (settings all) (settings_named all h.0) fits),
      settings_set all,
      sym (set_after [] all h.1),
    )
section_is (props.Delta changes) h small =
    entries_are changes (all_from_places (λ (c : PropChange). IsPropName c.0) changes h)
    (omega (arith, small, length-append (change_entries changes) (codes "PROPS-END\n")))

-- a section of so many bytes, and what is after it
pub sized_section_read : (section : PropSection) (limit : ℕ) (rest : List ℕ) → IsPropSection section → length (prop_bytes section) ≤ limit
    → length (prop_bytes section) < 2 ^ 64
    → sized_props_at (is_delta section) limit (length (prop_bytes section)) (prop_bytes section ++ rest) ≡ Ok (section, rest)
sized_section_read section limit rest h fits small =
    sized_props_given (is_delta section) limit (prop_bytes section) section rest (section_is section h small) fits
