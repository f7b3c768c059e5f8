-- Paths that leave out names at the front of their block.
use Rattle.std.proofs.Common.{◌≡◌, ℕ, ◌+◌, ◌≤◌, List, length, take, drop, IsUtf8, ap, sym, subst, ◌∙◌, arith}
use Rattle.std.proofs.lemmas.List.{length-append, length-drop, length-take-le, drop-drop, take-append-drop}
use Rattle.svn_types.specs.Names.{Path}
use Rattle.svn_types.specs.PathKeys.{path_key}
use Rattle.svn_types.specs.Forms.{path_in, IsCut}
use Rattle.svn_types.specs.declared.cut.Cut.{Cut}
use Rattle.svn_types.proofs.KeyTexts.{text_cut}
use Rattle.svn_types.proofs.PathKeys.{key_cut, key_further, path_key-append}

front_key : (k : ℕ) (p : Path) → length (path_key (take k p)) ≤ length (path_key p)
front_key k p =
    omega (
      arith,
      length-append (path_key (take k p)) (path_key (drop k p)),
      ap length (path_key-append (take k p) (drop k p)),
      ap (λ (q : Path). length (path_key q)) (take-append-drop k p),
    )

-- ---- one block

module _ (names : Path) (cut : Cut) (right : IsCut cut names) where
  module _ (text : List ℕ) (key : text ≡ path_key names) where
    pub cut_within : cut.bytes ≤ length text
    cut_within = omega (arith, right.1, ap length key, front_key cut.names names)

    pub cut_key : drop cut.bytes text ≡ path_key (path_in cut names)
    cut_key = (λ i. drop (right.1 i) (key i)) ∙ key_cut cut.names names

    pub cut_text : IsUtf8 text → IsUtf8 (drop cut.bytes text)
    cut_text utf8 = subst IsUtf8 (sym cut_key) (text_cut cut.names names (subst IsUtf8 key utf8))

-- ---- a block cut further

module _ (all : Path) (cut more : Cut) (count : ℕ) (few : count ≤ length (path_in cut all)) (front : Path)
    (front_is : front ≡ take count (path_in cut all)) (names : more.names ≡ cut.names + length front) where
  further : more.names ≡ cut.names + count
  further = names ∙ ap (λ n. cut.names + n) (ap length front_is ∙ length-take-le count (path_in cut all) few)

  pub cut_further : path_in more all ≡ drop count (path_in cut all)
  cut_further = ap (λ n. drop n all) further ∙ sym (drop-drop count cut.names all)

  pub further_right : IsCut cut all → more.bytes ≡ cut.bytes + length (path_key front) → IsCut more all
  further_right right bytes = (
    omega (arith, further, right.0, few, length-drop cut.names all),
    bytes ∙ (λ i. right.1 i + length (path_key (front_is i))) ∙ key_further cut.names count all
        ∙ (λ i. length (path_key (take (sym further i) all))),
  )
