-- The table of pristine texts.
use Rattle.std.proofs.Common.{◌≡◌, ℕ, List, [], ◌∷◌, length, None, false, refl, ap, ◌∙◌}
use Rattle.std.proofs.lemmas.Bool.{false_from_ne_true}
use Rattle.std.proofs.lemmas.List.Elements.{All-head, All-tail}
use Rattle.std.proofs.lemmas.Map.Entries.{lookup_tail}
use Rattle.std.proofs.lemmas.Map.Text.{is_eq-slice_cmp}
use Rattle.std.proofs.lemmas.Slice.Eq.{bytes_eq-Decides}
use Rattle.std.specs.BTreeMap.{is_at}
use Rattle.std.specs.List.{All}
use Rattle.std.specs.Map.{keys_of}
use Rattle.svn_types.specs.Names.{name_cmp}
use Rattle.svn_types.specs.Pairs.{value_of}
use Rattle.svn_wcdb.specs.Pristines.{Sizes}

-- a key of another length isn't the same
other_key : (bs key : List ℕ) → ¬ (length bs ≡ length key) → is_at (name_cmp bs) key ≡ false
other_key bs key other =
    is_eq-slice_cmp bs key ∙ false_from_ne_true _ (λ t. other (ap (λ (k : List ℕ). length k) ((bytes_eq-Decides bs key).0 t)))

-- where all keys have one length, a text of another has no value
pub no_value : (n : ℕ) (es : Sizes) (bs : List ℕ) → All (λ (k : List ℕ). length k ≡ n) (keys_of es) → ¬ (length bs ≡ n) → value_of es bs ≡ None
no_value n [] bs all other = refl
no_value n (e ∷ es) bs all other =
    lookup_tail (is_at (name_cmp bs)) e es (other_key bs e.0 (λ same. other (same ∙ All-head (λ (k : List ℕ). length k ≡ n) e.0 (keys_of es) all)))
    ∙ no_value n es bs (All-tail (λ (k : List ℕ). length k ≡ n) e.0 (keys_of es) all) other
