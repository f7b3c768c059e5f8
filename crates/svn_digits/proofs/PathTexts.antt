-- Paths as texts: the text of a lawful path is text, and spells the path.
use Rattle.std.proofs.Common.{◌≡◌, ℕ, ◌≤◌, true, false, true≢false, List, [], ◌∷◌, ◌++◌, length, None, IsUtf8, All, refl, sym, ap, ◌∙◌, arith, nat_eq, append-nil}
use Rattle.std.specs.List.{AllByRecursion, list_all, flat_map, onto_first, slice_split}
use Rattle.std.proofs.lemmas.Bool.{and_parts, ne_eqb, le-ltb}
use Rattle.std.proofs.lemmas.List.Elements.{All-head, All-tail}
use Rattle.std.proofs.lemmas.List.Splits.{slice_split-cons_yes, slice_split-cons_no}
use Rattle.std.proofs.lemmas.Str.{IsUtf8-append, IsUtf8-nil}
use Rattle.svn_types.specs.Names.{Path, IsName, is_plain, is_slash, path_of_text, name_limit, depth_limit}
use Rattle.svn_types.specs.NameFaults.{name_fault, names_fault, path_fault}
use Rattle.svn_types.specs.PathTexts.{path_text}

-- ---- no fault

no_name_fault : (n : List ℕ) → IsName n → name_fault n ≡ None
no_name_fault n h =
    let some : nat_eq (length n) 0 ≡ false = ne_eqb (length n) 0 (λ none. omega (arith, none, h.not_empty)) in
    rw (some, h.not_dots, le-ltb name_limit (length n) h.bounded, h.plain) refl

no_names_fault : (path : Path) → AllByRecursion IsName path → names_fault path ≡ None
no_names_fault [] h = refl
no_names_fault (n ∷ path) h = rw (no_name_fault n h.0) (no_names_fault path h.1)

pub no_path_fault : (path : Path) → AllByRecursion IsName path → length path ≤ depth_limit → path_fault path ≡ None
no_path_fault path h few = rw (no_names_fault path h, le-ltb depth_limit (length path) few) refl

-- ---- the names of a text

-- names, and a slash before each
abbrev pub below : Path → List ℕ
below path = flat_map (λ m. 47 ∷ m) path

no_slash : (b : ℕ) → is_plain b ≡ true → is_slash b ≡ false
no_slash b h = ne_eqb b 47 (λ same. true≢false (sym h ∙ ap is_plain same))

-- the first name, up to a slash
first_name : (n more : List ℕ) → list_all is_plain n ≡ true → slice_split is_slash (n ++ 47 ∷ more) ≡ n ∷ slice_split is_slash more
first_name [] more h = slice_split-cons_yes is_slash 47 more refl
first_name (b ∷ n) more h =
    let parts = and_parts (is_plain b) (list_all is_plain n) h in
    slice_split-cons_no is_slash b (n ++ 47 ∷ more) (no_slash b parts.0) ∙ ap (onto_first b) (first_name n more parts.1)

one_name : (n : List ℕ) → list_all is_plain n ≡ true → slice_split is_slash n ≡ n ∷ []
one_name [] h = refl
one_name (b ∷ n) h =
    let parts = and_parts (is_plain b) (list_all is_plain n) h in
    slice_split-cons_no is_slash b n (no_slash b parts.0) ∙ ap (onto_first b) (one_name n parts.1)

names_between : (n : List ℕ) (path : Path) → All IsName (n ∷ path) → slice_split is_slash (n ++ below path) ≡ n ∷ path
names_between n [] h = ap (slice_split is_slash) (append-nil n) ∙ one_name n (All-head IsName n [] h).plain
names_between n (m ∷ path) h =
    first_name n (m ++ below path) (All-head IsName n (m ∷ path) h).plain
    ∙ ap (λ l. n ∷ l) (names_between m path (All-tail IsName n (m ∷ path) h))

pub spelled_path : (path : Path) → All IsName path → path_of_text (path_text path) ≡ path
spelled_path [] h = refl
spelled_path (n ∷ path) h = some n (All-head IsName n path h).not_empty (names_between n path h)
  where
    some : (n : List ℕ) → 1 ≤ length n → slice_split is_slash (n ++ below path) ≡ n ∷ path → path_of_text (n ++ below path) ≡ n ∷ path
    some [] none e = absurd (omega (arith, none))
    some (b ∷ n) long e = e

-- ---- it is text

slash : IsUtf8 (47 ∷ [])
unfolding lib.Utf8.encode
slash = (47 ∷ [], (refl, refl))

utf8_below : (path : Path) → All IsUtf8 path → IsUtf8 (below path)
utf8_below [] h = IsUtf8-nil
utf8_below (n ∷ path) h =
    IsUtf8-append (47 ∷ n) (below path) (IsUtf8-append (47 ∷ []) n slash (All-head IsUtf8 n path h)) (utf8_below path (All-tail IsUtf8 n path h))

pub utf8_path : (path : Path) → All IsUtf8 path → IsUtf8 (path_text path)
utf8_path [] h = IsUtf8-nil
utf8_path (n ∷ path) h = IsUtf8-append n (below path) (All-head IsUtf8 n path h) (utf8_below path (All-tail IsUtf8 n path h))
