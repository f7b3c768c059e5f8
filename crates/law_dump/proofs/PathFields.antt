-- Paths as values of headers.
use Rattle.std.proofs.Common.{◌≡◌, ℕ, ◌≤◌, true, false, List, [], ◌∷◌, ◌++◌, length, Ok, All, refl, ap, ◌∙◌, arith, nat_eq}
use Rattle.std.specs.List.{list_all}
use Rattle.std.proofs.lemmas.List.Elements.{All-head, All-tail}
use Rattle.std.proofs.lemmas.Str.{is_utf8-from_IsUtf8}
use Rattle.svn_lists.proofs.Every.{all_from_places}
use Rattle.svn_types.specs.Names.{Path, IsName, is_plain}
use Rattle.svn_types.specs.PathTexts.{path_text}
use Rattle.svn_digits.proofs.PathTexts.{below, no_path_fault, spelled_path, utf8_path}
use Rattle.svn_dump.specs.Fields.{without_slash, path_of_bytes, path_of}
use Rattle.law_dump.specs.Laws.{IsPath}
use Rattle.law_dump.proofs.Lacking.{lacks, lacks_append, lacks_by, lacks_parts}

below_lacks : (c : ℕ) (path : Path) → is_plain c ≡ false → nat_eq 47 c ≡ false → All IsName path → lacks c (below path) ≡ true
below_lacks c [] foreign other h = refl
below_lacks c (n ∷ path) foreign other h =
    let first = lacks_by is_plain c n foreign (All-head IsName n path h).plain in
    lacks_append c (47 ∷ n) (below path) (rw (other, first) refl) (below_lacks c path foreign other (All-tail IsName n path h))

pub path_lacks_line_feed : (path : Path) → All IsName path → lacks 10 (path_text path) ≡ true
path_lacks_line_feed [] h = refl
path_lacks_line_feed (n ∷ path) h =
    lacks_append 10 n (below path) (lacks_by is_plain 10 n refl (All-head IsName n path h).plain)
    (below_lacks 10 path refl refl (All-tail IsName n path h))

no_slash : (path : Path) → All IsName path → without_slash (path_text path) ≡ path_text path
no_slash [] h = refl
no_slash (n ∷ path) h = some n (All-head IsName n path h).not_empty (All-head IsName n path h).plain
  where
    some : (n : List ℕ) → 1 ≤ length n → list_all is_plain n ≡ true → without_slash (n ++ below path) ≡ n ++ below path
    some [] none plain = absurd (omega (arith, none))
    some (b ∷ n) long plain = rw (lacks_parts 47 b n (lacks_by is_plain 47 (b ∷ n) refl plain)).0 refl

-- the text of a path spells the path
pub path_of_path_text : (path : Path) → IsPath path → path_of (path_text path) ≡ Ok path
path_of_path_text path h =
    ap path_of_bytes (no_slash path h.names)
    ∙ rw (
      is_utf8-from_IsUtf8 (path_text path) (utf8_path path h.texts),
      spelled_path path h.names,
      no_path_fault path (all_from_places IsName path h.names) h.bounded,
    ) refl
