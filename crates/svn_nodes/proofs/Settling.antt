-- The last call, in one pass over the nodes: every present node gets the target's revision, in a switch its path under the new root too,
-- and the others go.
use Rattle.std.proofs.Common.{◌≡◌, ℕ, Bool, true, false, cond, List, [], ◌∷◌, refl, sym, ◌∙◌, ap, subst}
use Rattle.std.specs.Prelude.{Some, None}
use Rattle.std.specs.BTreeMap.{is_at}
use Rattle.std.specs.Map.{keys_of}
use Rattle.std.specs.Map.Calls.{RetainsPairs}
use Rattle.std.proofs.lemmas.Map.Keys.{sorted_tail}
use Rattle.svn_types.specs.Names.{Path, path_cmp}
use Rattle.svn_editor.specs.declared.mode.Mode.{Mode}
use Rattle.svn_editor.specs.declared.mode.Mode.TheVariants.{Update, SwitchTo}
use Rattle.svn_model.specs.declared.base_node.BaseNode.{BaseNode}
use Rattle.svn_model.specs.declared.base_node.BaseNode.TheVariants.{File as FileNode, Dir as DirNode, NotPresent}
use Rattle.svn_model.specs.Nodes.{get_in, InPathOrder, is_present}
use Rattle.svn_model.specs.Nodes.{at_revision}
use Rattle.svn_model.specs.Effects.{settled}
use Rattle.svn_nodes.specs.NodeTests.{moved_paths, settled_next, paths_left}
use Rattle.svn_types.proofs.PathLemmas.{same_path}
use Rattle.law_copy.proofs.Lookups.{at_path}
use Rattle.law_copy.proofs.NodeLists.{absent_after}

-- what is kept of a node is what the last call leaves of it, and the nodes after it are then held
pub record Settles {F : Type 0} (mode : Mode) (target : ℕ) (held : F → List (Path × BaseNode) → Type 0) (e : Path × BaseNode)
    (es : List (Path × BaseNode)) (keep : Bool) (node : BaseNode) (after : F) : Type 0 where
  pub kept : cond keep (Some node) None ≡ settled mode target e.0 (Some e.1)
  pub left : held after es

-- the nodes are looked at one after the other
pub retained : {F : Type 0} (T : F → Path → BaseNode → Bool → BaseNode → F → Type 0) (mode : Mode) (target : ℕ)
    (held : F → List (Path × BaseNode) → Type 0)
    → ((f : F) (e : Path × BaseNode) (es : List (Path × BaseNode)) (b : Bool) (w : BaseNode) (g : F) → held f (e ∷ es) → T f e.0 e.1 b w g
    → Settles mode target held e es b w g)
    → (f : F) (es kept : List (Path × BaseNode)) → held f es → InPathOrder es → RetainsPairs T f es kept → (p : Path)
    → get_in kept p ≡ settled mode target p (get_in es p)
retained T mode target held each f [] kept start order h p = ap (λ (l : List (Path × BaseNode)). get_in l p) h
retained T mode target held each f (e ∷ es) kept start order h p =
    let step = each f e es h.0 h.1 h.2 start h.4 in
    ap (λ (l : List (Path × BaseNode)). get_in l p) h.6
    ∙ by (is_at (path_cmp p) e.0) refl h.0 step.kept
    (retained T mode target held each h.2 es h.3 step.left (sorted_tail path_cmp e.0 (keys_of es) order) h.5 p)
  where
    by : (a : Bool) → is_at (path_cmp p) e.0 ≡ a → (b : Bool) → cond b (Some h.1) None ≡ settled mode target e.0 (Some e.1)
        → get_in h.3 p ≡ settled mode target p (get_in es p)
        → get_in (cond b ((e.0, h.1) ∷ h.3) h.3) p ≡ settled mode target p (cond a (Some e.1) (get_in es p))
    by true x b same rest =
        let here : p ≡ e.0 = same_path p e.0 (sym (at_path p e.0) ∙ x) in
        own b ∙ same ∙ ap (λ q. settled mode target q (Some e.1)) (sym here)
      where
        own : (b : Bool) → get_in (cond b ((e.0, h.1) ∷ h.3) h.3) p ≡ cond b (Some h.1) None
        own true = ap (λ a. cond a (Some h.1) (get_in h.3 p)) x
        own false = rest ∙ ap (settled mode target p) (ap (get_in es) (same_path p e.0 (sym (at_path p e.0) ∙ x)) ∙ absent_after e es order)
    by false x true same rest = ap (λ a. cond a (Some h.1) (get_in h.3 p)) x ∙ rest
    by false x false same rest = rest

-- in an update a node keeps its path
pub settled_there : {F : Type 0} (T : F → Path → BaseNode → Bool → BaseNode → F → Type 0) (target : ℕ) (f : F)
    → ((k : Path) (v : BaseNode) (b : Bool) (w : BaseNode) (g : F) → T f k v b w g
    → (b ≡ is_present (Some v)) × (w ≡ at_revision target v) × (g ≡ f))
    → (es kept : List (Path × BaseNode)) → InPathOrder es → RetainsPairs T f es kept → (p : Path)
    → get_in kept p ≡ settled Update target p (get_in es p)
settled_there {F} T target f each es kept order h = retained T Update target (λ (g : F) left. g ≡ f) step f es kept refl order h
  where
    by : (p : Path) (n : BaseNode) → cond (is_present (Some n)) (Some (at_revision target n)) None ≡ settled Update target p (Some n)
    by p (FileNode r q text props) = refl
    by p (DirNode r q complete props) = refl
    by p NotPresent = refl

    step : (x : F) (e : Path × BaseNode) (left : List (Path × BaseNode)) (b : Bool) (w : BaseNode) (g : F) → x ≡ f → T x e.0 e.1 b w g
        → Settles Update target (λ (g : F) left. g ≡ f) e left b w g
    step x e left b w g start t =
        let s = each e.0 e.1 b w g (subst (λ (y : F). T y e.0 e.1 b w g) start t) in
        record { kept = (λ i. cond (s.0 i) (Some (s.1 i)) None) ∙ by e.0 e.1; left = s.2 }

-- in a switch it gets the next of the paths that are left
pub settled_under : {F : Type 0} (T : F → Path → BaseNode → Bool → BaseNode → F → Type 0) (root : Path) (target : ℕ) (target_of : F → ℕ)
    (paths : F → List Path)
    → ((f : F) (k : Path) (v : BaseNode) (b : Bool) (w : BaseNode) (g : F) → T f k v b w g
    → (b ≡ is_present (Some v)) × (w ≡ settled_next (target_of f) (paths f) v) × (target_of g ≡ target_of f)
    × (paths g ≡ paths_left v (paths f)))
    → (f : F) (es kept : List (Path × BaseNode)) → target_of f ≡ target → paths f ≡ moved_paths root es → InPathOrder es
    → RetainsPairs T f es kept → (p : Path) → get_in kept p ≡ settled (SwitchTo root) target p (get_in es p)
settled_under {F} T root target target_of paths each f es kept is next order h =
    retained T (SwitchTo root) target (λ (g : F) left. (target_of g ≡ target) × (paths g ≡ moved_paths root left)) step f es kept
    (is, next) order h
  where
    by : (p : Path) (n : BaseNode) (left : List (Path × BaseNode))
        → (cond (is_present (Some n)) (Some (settled_next target (moved_paths root ((p, n) ∷ left)) n)) None
        ≡ settled (SwitchTo root) target p (Some n))
        × (paths_left n (moved_paths root ((p, n) ∷ left)) ≡ moved_paths root left)
    by p (FileNode r q text props) left = (refl, refl)
    by p (DirNode r q complete props) left = (refl, refl)
    by p NotPresent left = (refl, refl)

    step : (x : F) (e : Path × BaseNode) (left : List (Path × BaseNode)) (b : Bool) (w : BaseNode) (g : F)
        → (target_of x ≡ target) × (paths x ≡ moved_paths root (e ∷ left)) → T x e.0 e.1 b w g
        → Settles (SwitchTo root) target (λ (g : F) left. (target_of g ≡ target) × (paths g ≡ moved_paths root left)) e left b w g
    step x e left b w g start t =
        let s = each x e.0 e.1 b w g t in
        let whole = by e.0 e.1 left in
        record {
          kept = (λ i. cond (s.0 i) (Some ((s.1 ∙ (λ j. settled_next (start.0 j) (start.1 j) e.1)) i)) None) ∙ whole.0;
          left = (s.2 ∙ start.0, s.3 ∙ ap (paths_left e.1) start.1 ∙ whole.1);
        }
