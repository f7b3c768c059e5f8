-- A history whose keep are kept as stand-ins has the same nodes at the same places.
use Rattle.std.proofs.Common.{◌≡◌, ℕ, List, [], ◌∷◌, Option, Some, None, refl, sym, ap, ◌∙◌}
use Rattle.std.specs.Prelude.{slice_get, option_and_then}
use Rattle.std.specs.Option.{option_map}
use Rattle.std.proofs.lemmas.Option.{slice_get-map}
use Rattle.svn_types.specs.Names.{Path}
use Rattle.svn_types.specs.Pairs.{value_of}
use Rattle.svn_repo.specs.History.{NodeRow, History, node_at, child_in, walk, look}
use Rattle.svn_live_audit.specs.Kept.{kept_row, kept_history}

pub node_kept : (keep : List ℕ → List ℕ) (h : History) (n : ℕ) → node_at (kept_history keep h) n ≡ option_map (kept_row keep) (node_at h n)
node_kept keep h n = slice_get-map (kept_row keep) h.nodes n

child_kept : (keep : List ℕ → List ℕ) (o : Option NodeRow) (name : List ℕ) → child_in (option_map (kept_row keep) o) name ≡ child_in o name
child_kept keep None name = refl
child_kept keep (Some row) name = refl

below : (keep : List ℕ → List ℕ) (h : History) (p : Path)
    → ((n : ℕ) → walk (node_at (kept_history keep h)) n p ≡ walk (node_at h) n p) → (o : Option ℕ)
    → option_and_then (λ m. walk (node_at (kept_history keep h)) m p) o ≡ option_and_then (λ m. walk (node_at h) m p) o
below keep h p same None = refl
below keep h p same (Some m) = same m

walk_kept : (keep : List ℕ → List ℕ) (h : History) (n : ℕ) (p : Path) → walk (node_at (kept_history keep h)) n p ≡ walk (node_at h) n p
walk_kept keep h n [] = refl
walk_kept keep h n (name ∷ p) =
    ap (λ o. option_and_then (λ m. walk (node_at (kept_history keep h)) m p) (child_in o name)) (node_kept keep h n)
    ∙ ap (option_and_then (λ m. walk (node_at (kept_history keep h)) m p)) (child_kept keep (node_at h n) name)
    ∙ below keep h p (λ m. walk_kept keep h m p) (child_in (node_at h n) name)

pub look_kept : (keep : List ℕ → List ℕ) (h : History) (r : ℕ) (p : Path) → look (kept_history keep h) r p ≡ look h r p
look_kept keep h r p = below keep h p (λ m. walk_kept keep h m p) (slice_get h.roots r)
