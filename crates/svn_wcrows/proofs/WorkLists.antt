-- Lists of the work queue: what was written is taken apart as its item, and as no other.
use Rattle.std.proofs.Common.{◌≡◌, ℕ, ◌*◌, ◌^◌, ◌<◌, ◌≤◌, Bool, true, false, cond, List, [], ◌∷◌, ◌++◌, length, Option, Some, None, option_and_then, All, refl, sym, ap, ◌∙◌, arith, decimal, append_assoc, length-append}
use Rattle.std.specs.Prelude.{bytes_eq, codes}
use Rattle.std.proofs.Math.Seq.{take-append_seam, drop-append_seam}
use Rattle.std.proofs.lemmas.Bool.{le-leb}
use Rattle.std.proofs.lemmas.List.Elements.{All-head, All-tail}
use Rattle.std.proofs.lemmas.Option.{none-some, same_Some}
use Rattle.svn_lists.proofs.Equality.{same_bytes, bytes_eq-same}
use Rattle.svn_lists.proofs.Options.{and_then_parts}
use Rattle.svn_types.specs.Names.{Path, IsName}
use Rattle.svn_types.specs.PathTexts.{path_text}
use Rattle.svn_digits.specs.Numbers.{is_digit}
use Rattle.svn_digits.proofs.Decimals.{spelled, number_of_decimal}
use Rattle.svn_digits.proofs.PathTexts.{below}
use Rattle.law_dump.specs.Laws.{IsPath}
use Rattle.law_dump.proofs.Lacking.{lacks, lacks_by, parts_at}
use Rattle.svn_wcdb.specs.Locks.{path_or_none}
use Rattle.svn_wcdb.specs.Paths.{path_of}
use Rattle.svn_wcrows.specs.declared.work.Work.{Work}
use Rattle.svn_wcrows.specs.declared.work.Work.TheVariants.{MakeDirectory, InstallFile, RemoveFile, RemoveDirectory}
use Rattle.svn_wcrows.specs.Skels.{atom_bytes}
use Rattle.svn_wcrows.specs.Work.{word_of, place_of, flags_of, work_bytes, IsItemOf}
use Rattle.svn_wcrows.specs.WorkAtoms.{split_space, sized, atom_after, item_named, if_same, item_at, item_of_atoms, item_in}
use Rattle.svn_wcrows.proofs.NodeRows.{path_read}
use Rattle.svn_wcrows.proofs.Skels.{atom_parts}

-- ---- an atom

number_lacks_space : (n : ℕ) → n < 2 ^ 64 → lacks 32 (decimal n) ≡ true
number_lacks_space n small = lacks_by is_digit 32 (decimal n) refl (spelled n small).all_digits

split_read : (part more : List ℕ) → lacks 32 part ≡ true → split_space (part ++ 32 ∷ more) ≡ Some (part, more)
unfolding split_space
split_read part more plain = parts_at 32 (λ front back. Some (front, back)) part more plain

sized_read : (atom rest : List ℕ) → length atom < 2 ^ 64 → sized (decimal (length atom), atom ++ rest) ≡ Some (atom, rest)
sized_read atom rest small =
    rw (number_of_decimal (length atom) small, le-leb (length atom) (length (atom ++ rest)) (omega (arith, length-append atom rest)))
    (λ i. Some (take-append_seam atom rest i, drop-append_seam atom rest i))

atom_read : (before atom rest : List ℕ) → lacks 32 before ≡ true → length atom < 2 ^ 64
    → atom_after (before ++ (atom_bytes atom ++ rest)) ≡ Some (atom, rest)
unfolding atom_after
atom_read before atom rest plain small =
    let digits : List ℕ = decimal (length atom) in
    let after : List ℕ = digits ++ 32 ∷ (atom ++ rest) in
    ap (λ (l : List ℕ). atom_after (before ++ l)) (atom_parts atom rest)
    ∙ ap (option_and_then (λ parts. option_and_then sized (split_space parts.1))) (split_read before after plain)
    ∙ ap (option_and_then sized) (split_read digits (atom ++ rest) (number_lacks_space (length atom) small))
    ∙ sized_read atom rest small

-- ---- lengths

word_short : (work : Work) → length (word_of work) < 2 ^ 64
word_short (MakeDirectory path) = omega arith
word_short (InstallFile path) = omega arith
word_short (RemoveFile path) = omega arith
word_short (RemoveDirectory path) = omega arith

below_short : (path : Path) → All IsName path → length (below path) ≤ 256 * length path
below_short [] h = omega arith
below_short (n ∷ path) h =
    let name = All-head IsName n path h in
    omega (arith, name.bounded, below_short path (All-tail IsName n path h), length-append (47 ∷ n) (below path))

text_short : (path : Path) → IsPath path → length (path_text path) < 2 ^ 64
text_short [] h = omega arith
text_short (n ∷ path) h =
    let name = All-head IsName n path h.names in
    omega (arith, h.bounded, name.bounded, below_short path (All-tail IsName n path h.names), length-append n (below path))

-- ---- an item

tail_of : Work → List ℕ
tail_of work = flags_of work ++ codes ")"

work_parts : (work : Work) → work_bytes work ≡ codes "(" ++ (atom_bytes (word_of work) ++ (atom_bytes (path_text (place_of work)) ++ tail_of work))
unfolding work_bytes tail_of
work_parts work =
    let word : List ℕ = atom_bytes (word_of work) in
    let text : List ℕ = atom_bytes (path_text (place_of work)) in
    append_assoc (codes "(" ++ word ++ text) (flags_of work) (codes ")") ∙ append_assoc (codes "(" ++ word) text (flags_of work ++ codes ")")
    ∙ append_assoc (codes "(") word (text ++ (flags_of work ++ codes ")"))

each_named : (work : Work) → item_named (word_of work) (place_of work) ≡ Some work
each_named (MakeDirectory path) = refl
each_named (InstallFile path) = refl
each_named (RemoveFile path) = refl
each_named (RemoveDirectory path) = refl

pub item_read : (work : Work) → IsPath (place_of work) → item_in (work_bytes work) ≡ Some work
unfolding item_in
item_read work lawful =
    let list : List ℕ = work_bytes work in
    let word : List ℕ = word_of work in
    let text : List ℕ = path_text (place_of work) in
    let rest : List ℕ = atom_bytes text ++ tail_of work in
    ap (option_and_then (λ found. option_and_then (λ next. item_of_atoms list found.0 next.0) (atom_after found.1)))
    (ap atom_after (work_parts work) ∙ atom_read (codes "(") word rest refl (word_short work))
    ∙ ap (option_and_then (λ next. item_of_atoms list word next.0)) (atom_read [] text (tail_of work) refl (text_short (place_of work) lawful))
    ∙ ap (λ r. option_and_then (item_at list word) (path_or_none r)) (path_read (place_of work) lawful)
    ∙ ap (option_and_then (if_same list)) (each_named work) ∙ ap (λ b. cond b (Some work) None) (bytes_eq-same list)

same_list : (list : List ℕ) (w work : Work) → if_same list w ≡ Some work → list ≡ work_bytes work
same_list list w work h = by (bytes_eq (work_bytes w) list) refl h
  where
    by : (b : Bool) → bytes_eq (work_bytes w) list ≡ b → cond b (Some w) None ≡ Some work → list ≡ work_bytes work
    by true e k = sym (same_bytes (work_bytes w) list e) ∙ ap work_bytes (same_Some w work k)
    by false e k = absurd (none-some work k)

item_written : (list : List ℕ) (work : Work) → item_in list ≡ Some work → list ≡ work_bytes work
unfolding item_in
item_written list work h =
    let word = and_then_parts (λ found. option_and_then (λ next. item_of_atoms list found.0 next.0) (atom_after found.1)) (atom_after list) work h in
    let text = and_then_parts (λ next. item_of_atoms list word.0.0 next.0) (atom_after word.0.1) work word.2 in
    let path = and_then_parts (item_at list word.0.0) (path_or_none (path_of text.0.0)) work text.2 in
    let item = and_then_parts (if_same list) (item_named word.0.0 path.0) work path.2 in
    same_list list item.0 work item.2

-- what the bytes are taken apart as is the item of their list
pub item_is : (list : List ℕ) (found : Option Work) → found ≡ item_in list → IsItemOf (Some list) found
item_is list None e = λ work lawful same. none-some work (e ∙ ap item_in (same_Some list (work_bytes work) same) ∙ item_read work lawful)
item_is list (Some work) e = ap Some (item_written list work (sym e))

pub same_items : (work other : Work) → IsPath (place_of work) → IsPath (place_of other) → work_bytes work ≡ work_bytes other → work ≡ other
same_items work other h k e = same_Some work other (sym (item_read work h) ∙ ap item_in e ∙ item_read other k)
