-- What follows where a node is known to be at a path: no fault lies above it, and where it is a fresh node, all above it is fresh already.
use Rattle.std.proofs.Common.{◌≡◌, ℕ, ◌<◌, ◌≤◌, cond, List, [], ◌∷◌, ◌++◌, length, refl, arith, Option, Some, None, sym, ap, subst}
use Rattle.std.proofs.Common.{◌∙◌, inl, inr}
use Rattle.std.specs.List.{slice_get}
use Rattle.std.specs.Option.{option_and_then, option_map, is_some}
use Rattle.std.proofs.lemmas.Bool.{cases_lt}
use Rattle.svn_lists.proofs.Options.{and_then_parts, and_then_every, option_or_next}
use Rattle.svn_types.specs.declared.kind.Kind.TheVariants.{Directory}
use Rattle.svn_repo.specs.declared.store.Node.{Node}
use Rattle.svn_repo.specs.declared.store.Content.{Content}
use Rattle.svn_repo.specs.declared.store.Content.TheVariants.{Text, Listing}
use Rattle.svn_repo.specs.declared.change.CommitFault.TheVariants.{Missing}
use Rattle.svn_types.specs.Names.{Path}
use Rattle.svn_repo.specs.History.{child_in, walk}
use Rattle.svn_repo.specs.Stored.{row_of, rows, kind_of}
use Rattle.svn_repo.specs.Walks.{rest_below}
use Rattle.svn_repo.specs.Trees.{Tree, place_at, touched, touch}
use Rattle.svn_repo.specs.Drafts.{IsClosedIn, IsDraft, IsThawed, tree_in, old_part}
use Rattle.svn_repo.specs.Changes.{above_fault, missing_fault, walk_fault}
use Rattle.svn_repo.proofs.Faults.{above_directory}
use Rattle.svn_repo.proofs.Standing.{stands_at}
use Rattle.svn_repo.proofs.Thawing.{walk_stays, place_fresh, touched_shape}
use Rattle.svn_repo.proofs.Walking.{rest_below_is, walk-append, walk_on}

-- ---- faults

directory_by : (c : Content) (node : Node) (name : List ℕ) (m : ℕ) → c ≡ node.content
    → child_in (Some (row_of (record node { content = c }))) name ≡ Some m → kind_of node.content ≡ Directory
directory_by (Text text) node name m e h = let bad : None ≡ Some m = h in cc
directory_by (Listing entries) node name m e h = ap kind_of (sym e)

parent_by : (nodes : List Node) (n : ℕ) (o : Option Node) (name : List ℕ) (m : ℕ) → slice_get nodes n ≡ o
    → child_in (option_map row_of o) name ≡ Some m → (node : Node) × (slice_get nodes n ≡ Some node) × (kind_of node.content ≡ Directory)
parent_by nodes n None name m e h = let bad : None ≡ Some m = h in cc
parent_by nodes n (Some node) name m e h = (node, e, directory_by node.content node name m refl h)

-- what has a child is a directory
parent_of : (nodes : List Node) (n : ℕ) (name : List ℕ) (m : ℕ) → child_in (rows nodes n) name ≡ Some m
    → (node : Node) × (slice_get nodes n ≡ Some node) × (kind_of node.content ≡ Directory)
parent_of nodes n name m h = parent_by nodes n (slice_get nodes n) name m refl h

-- one name down from a node that has a child under it
above_child : (base : ℕ) (nodes : List Node) (n m : ℕ) (name : List ℕ) (p : Path) → child_in (rows nodes n) name ≡ Some m
    → above_fault (tree_in base nodes n) (name ∷ p) ≡ above_fault (tree_in base nodes m) p
above_child base nodes n m name p e =
    let d = parent_of nodes n name m e in
    above_directory base nodes n d.0 name p d.1 d.2 ∙ ap (λ o. above_fault (old_part base nodes o) p) e

pub above_found : (base : ℕ) (nodes : List Node) (root n : ℕ) (p : Path) → walk (rows nodes) root p ≡ Some n
    → above_fault (tree_in base nodes root) p ≡ None
above_found base nodes root n [] h = refl
above_found base nodes root n (name ∷ p) h =
    let s = and_then_parts (λ m. walk (rows nodes) m p) (child_in (rows nodes root) name) n h in
    above_child base nodes root s.0 name p s.1 ∙ above_found base nodes s.0 n p s.2

-- below a directory that is known there is no fault either
pub above_last : (base : ℕ) (nodes : List Node) (root n : ℕ) (node : Node) (p : Path) (last : List ℕ) → walk (rows nodes) root p ≡ Some n
    → slice_get nodes n ≡ Some node → kind_of node.content ≡ Directory → above_fault (tree_in base nodes root) (p ++ last ∷ []) ≡ None
above_last base nodes root n node [] last h here k =
    let e : root ≡ n = cc in
    above_directory base nodes root node last [] (subst (λ m. slice_get nodes m ≡ Some node) (sym e) here) k
above_last base nodes root n node (name ∷ p) last h here k =
    let s = and_then_parts (λ m. walk (rows nodes) m p) (child_in (rows nodes root) name) n h in
    above_child base nodes root s.0 name (p ++ last ∷ []) s.1 ∙ above_last base nodes s.0 n node p last s.2 here k

-- what the directory has under the last name is what is at the path
pub walk_last : (nodes : List Node) (root n : ℕ) (p : Path) (last : List ℕ) → walk (rows nodes) root p ≡ Some n
    → walk (rows nodes) root (p ++ last ∷ []) ≡ child_in (rows nodes n) last
walk_last nodes root n p last h = walk_on (rows nodes) root n p (last ∷ []) h ∙ and_then_every (child_in (rows nodes n) last)

-- where a node is, nothing is wrong with the way there
pub no_walk_fault : (base : ℕ) (nodes : List Node) (root n : ℕ) (p : Path) → root < length nodes → IsClosedIn nodes
    → walk (rows nodes) root p ≡ Some n → walk_fault (tree_in base nodes root) p ≡ None
no_walk_fault base nodes root n p inside closed h =
    let t : Tree = tree_in base nodes root in
    option_or_next (above_fault t p) (missing_fault (t p)) (above_found base nodes root n p h)
    ∙ ap (λ b. cond b None (Some Missing)) (stands_at base nodes root n p inside closed h)

-- ---- fresh nodes

-- what leads to a fresh node is fresh
fresh_above : (base : ℕ) (nodes : List Node) (root m n : ℕ) (p : Path) → IsDraft base nodes root → base ≤ n
    → walk (rows nodes) m p ≡ Some n → base ≤ m
fresh_above base nodes root m n p draft fresh h = elim (cases_lt m base) [
  | inl old ↦ let below : n < base = walk_stays (λ k. k < base) (rows nodes) (λ k c name b e. draft.old_closed k c name b e) m n p old h in
      absurd (omega arith)
  | inr new ↦ omega arith
]

pub fresh_root : (base : ℕ) (nodes : List Node) (root n : ℕ) (p : Path) → IsDraft base nodes root → base ≤ n
    → walk (rows nodes) root p ≡ Some n → base ≤ root
fresh_root base nodes root n p draft fresh h = fresh_above base nodes root root n p draft fresh h

-- the way to a fresh node is as it would be if it were made anew
pub thawed_already : (base : ℕ) (nodes : List Node) (root n : ℕ) (p : Path) → IsDraft base nodes root → base ≤ n
    → walk (rows nodes) root p ≡ Some n → IsThawed base nodes nodes root root p n
thawed_already base nodes root n p draft fresh h = record {
  draft = draft;
  here = h;
  fresh = fresh;
  tree = λ q. by_rest q (rest_below q p) refl;
}
  where
    t : Tree
    t = tree_in base nodes root

    fresh_place : (q r : Path) → p ≡ q ++ r → t q ≡ option_map touched (t q)
    fresh_place q r e =
        let w : option_and_then (λ m. walk (rows nodes) m r) (walk (rows nodes) root q) ≡ Some n =
        sym (walk-append (rows nodes) root q r) ∙ ap (walk (rows nodes) root) (sym e) ∙ h in
        let s = and_then_parts (λ m. walk (rows nodes) m r) (walk (rows nodes) root q) n w in
        let at : t q ≡ place_at (rows nodes) base s.0 = ap (option_and_then (place_at (rows nodes) base)) s.1 in
        let b : base ≤ s.0 = fresh_above base nodes root s.0 n r draft fresh s.2 in
        at ∙ place_fresh nodes base s.0 b ∙ sym (touched_shape nodes base s.0) ∙ ap (option_map touched) (sym at)

    by_rest : (q : Path) (o : Option Path) → o ≡ rest_below q p → t q ≡ touch t p q
    by_rest q None e = ap (λ o. cond (is_some o) (option_map touched (t q)) (t q)) e
    by_rest q (Some r) e = fresh_place q r (rest_below_is q p r (sym e))
        ∙ ap (λ o. cond (is_some o) (option_map touched (t q)) (t q)) e
