-- Directories whose repository path is their own path, and what is below a directory.
use Rattle.std.proofs.Common.{◌≡◌, Bool, true, false, List, ℕ, ◌++◌, sym, ap, ◌∙◌, Some, true≢false}
use Rattle.std.specs.Cmp.{both_ways}
use Rattle.svn_types.specs.Names.{Path}
use Rattle.svn_types.specs.Paths.{path_eq, is_root, parent, last_name, child}
use Rattle.svn_types.proofs.PathLemmas.{same_path, path_eq-same, is_root-child, parent-child, parent_and_last}
use Rattle.svn_model.specs.declared.base_node.BaseNode.{BaseNode}
use Rattle.svn_model.specs.declared.base_node.BaseNode.TheVariants.{File as FileNode, Dir as DirNode, NotPresent}
use Rattle.svn_model.specs.Nodes.{is_dir, node_path}
use Rattle.svn_wc.specs.Aboves.{has_own_path, mark, KnowsOwnPath, IsBelow}

-- a marked directory's repository path is its path
pub own_path : (p : Path) (n : BaseNode) → has_own_path p n ≡ true → node_path (Some n) ≡ p
own_path p (FileNode r q text props) own = absurd (true≢false (sym own))
own_path p (DirNode r q complete props) own = same_path q p own
own_path p NotPresent own = absurd (true≢false (sym own))

pub marked_path : (known : Bool) (p : Path) (n : BaseNode) → mark known p n ≡ true → node_path (Some n) ≡ p
marked_path true p n marked = absurd (true≢false (sym marked))
marked_path false p n marked = own_path p n marked

pub knows_own_path : (p : Path) (n : BaseNode) (above : BaseNode × Bool) → above ≡ (n, has_own_path p n) → KnowsOwnPath p above
knows_own_path p n above is = λ known.
    ap (λ (a : BaseNode × Bool). node_path (Some a.0)) is ∙ own_path p n (ap (λ (a : BaseNode × Bool). a.1) (sym is) ∙ known)

-- a child of a directory is below it
pub child_is_below : (p : Path) (name : List ℕ) (q : Path) (above : BaseNode × Bool) → KnowsOwnPath p above → q ≡ child p name
    → is_dir (Some above.0) ≡ true → IsBelow q (Some above)
child_is_below p name q above own is dir = (
  ap is_root is ∙ is_root-child p name,
  dir,
  λ known. own known ∙ sym (ap parent is ∙ parent-child p name),
)

-- the path below a directory, where that has its own path as its repository path
pub below_own : (q : Path) (above : BaseNode × Bool) → IsBelow q (Some above) → above.1 ≡ true
    → q ≡ node_path (Some above.0) ++ last_name q
below_own q above below known = sym (ap (λ (p : Path). p ++ last_name q) (below.2 known) ∙ parent_and_last q)

-- a test that is passed exactly by the same path is the test of equal paths
pub tests_path : (b : Bool) (p q : Path) → (b ≡ true → p ≡ q) → (p ≡ q → b ≡ true) → b ≡ path_eq p q
tests_path b p q f g = both_ways b (path_eq p q) (λ e. ap (path_eq p) (sym (f e)) ∙ path_eq-same p) (λ e. g (same_path p q e))
