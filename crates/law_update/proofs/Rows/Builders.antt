-- Copies as they are made without a drive: trees put at a path, paths made not present, and what is refused.
use Rattle.std.specs.Prelude.{◌≡◌, [], ◌∷◌, Some, None, refl}
use Rattle.svn_model.specs.declared.base_node.BaseNode.TheVariants.{NotPresent}
use Rattle.svn_model.specs.Nodes.{WorkingCopy, listed}
use Rattle.svn_model.specs.declared.wc_fault.WcFault.TheVariants.{NoSuchRevision, Missing, NoParent, IsRoot, TooDeep, Twice, BadRoot}
use Rattle.svn_model.specs.Builders.{checkout, placed, forgotten}
use Rattle.svn_model.specs.Refusals.{checkout_fault, place_fault, switch_fault, forget_fault, nodes_fault}
use Rattle.law_update.proofs.Rows.Setting.{a, b, d, e, f, g, s, t, x, y, deep, abc, at, at2, whole, plain}
use Rattle.law_update.proofs.Rows.Plain.{k, k_copy, k_paths, one_file, one_paths, without_x}
use Rattle.law_update.proofs.Rows.Mixed.{mixed, mixed_paths}
use Rattle.law_update.proofs.Rows.Switched.{two, two_paths, a_at_b, renewed_paths, s_at_b, outer_paths, a_at_root, g_at_f}
use Rattle.law_update.proofs.Rows.Whole.{paths, d_at_e}

checked_out : listed k_paths k_copy ≡ ([], whole 1 []) ∷ (at f, plain 1 (at f) a) ∷ []
checked_out = refl

-- revision 0, and a revision that isn't there
first_revision : listed k_paths (checkout k [] 0) ≡ ([], whole 0 []) ∷ []
first_revision = refl

no_revision : listed k_paths (checkout k [] 3) ≡ []
no_revision = refl

-- a file at an older revision
older_file : listed mixed_paths mixed ≡ ([], whole 3 []) ∷ (at d, whole 3 (at d)) ∷ (at2 d x, plain 1 (at2 d x) a)
    ∷ (at y, plain 3 (at y) a) ∷ []
older_file = refl

-- a directory switched to another: what was below it is gone
switched_directory : listed two_paths a_at_b
    ≡ ([], whole 1 []) ∷ (at a, whole 1 (at b)) ∷ (at2 a y, plain 1 (at2 b y) a) ∷ (at b, whole 1 (at b)) ∷ (at2 b y, plain 1 (at2 b y) a)
    ∷ []
switched_directory = refl

-- in a switched directory a tree is put from the parent's repository path
below_switched : listed two_paths (placed two a_at_b (at2 a y) (at2 b y) 2)
    ≡ ([], whole 1 []) ∷ (at a, whole 1 (at b)) ∷ (at2 a y, plain 2 (at2 b y) abc) ∷ (at b, whole 1 (at b)) ∷ (at2 b y, plain 1 (at2 b y) a)
    ∷ []
below_switched = refl

-- and the directory put back
switched_back : listed two_paths (placed two a_at_b (at a) (at a) 1) ≡ listed two_paths (checkout two [] 1)
switched_back = refl

switched_below : listed renewed_paths s_at_b
    ≡ ([], whole 1 []) ∷ (at b, whole 1 (at b)) ∷ (at2 b y, plain 1 (at2 b y) a) ∷ (at d, whole 1 (at d)) ∷ (at2 d s, whole 1 (at b))
    ∷ (d ∷ s ∷ y ∷ [], plain 1 (at2 b y) a) ∷ []
switched_below = refl

switched_to_root : listed outer_paths a_at_root
    ≡ ([], whole 1 []) ∷ (at a, whole 1 []) ∷ (at2 a a, whole 1 (at a)) ∷ (at2 a f, plain 1 (at f) a) ∷ (at f, plain 1 (at f) a) ∷ []
switched_to_root = refl

-- a path that had nothing
new_path : listed ([] ∷ at f ∷ at g ∷ []) g_at_f ≡ ([], whole 1 []) ∷ (at f, plain 1 (at f) a) ∷ (at g, plain 2 (at f) abc) ∷ []
new_path = refl

-- in a copy whose root is elsewhere
in_trunk : listed paths d_at_e ≡ ([], whole 1 (at t)) ∷ (at d, whole 1 (at e)) ∷ (at f, plain 1 (at2 t f) a) ∷ []
in_trunk = refl

-- a file made not present, a directory with everything below, and both put back
file_forgotten : listed one_paths without_x ≡ ([], whole 1 []) ∷ (at d, whole 1 (at d)) ∷ (at2 d x, NotPresent) ∷ []
file_forgotten = refl

abbrev without_d : WorkingCopy
without_d = forgotten (checkout one_file [] 1) (at d)

directory_forgotten : listed one_paths without_d ≡ ([], whole 1 []) ∷ (at d, NotPresent) ∷ []
directory_forgotten = refl

put_back : listed one_paths (placed one_file without_d (at d) (at d) 1) ≡ listed one_paths (checkout one_file [] 1)
put_back = refl

-- ---- what is refused

no_revision_refused : checkout_fault k [] 3 ≡ Some NoSuchRevision
no_revision_refused = refl

root_accepted : checkout_fault k [] 1 ≡ None
root_accepted = refl

-- a root that isn't there, and one that is a file
nothing_checked_out : checkout_fault k (at g) 1 ≡ Some Missing
nothing_checked_out = refl

file_checked_out : checkout_fault k (at f) 1 ≡ Some BadRoot
file_checked_out = refl

root_placed : place_fault k k_copy [] 1 ≡ Some IsRoot
root_placed = refl

placed_at_no_revision : place_fault k k_copy (at f) 3 ≡ Some NoSuchRevision
placed_at_no_revision = refl

placed_below_nothing : place_fault k k_copy (at2 g s) 1 ≡ Some NoParent
placed_below_nothing = refl

placed_below_a_file : place_fault k k_copy (at2 f s) 1 ≡ Some NoParent
placed_below_a_file = refl

nothing_placed : place_fault k k_copy (at g) 1 ≡ Some Missing
nothing_placed = refl

file_placed : place_fault k k_copy (at f) 2 ≡ None
file_placed = refl

switched_to_nothing : switch_fault k k_copy (at f) (at g) 1 ≡ Some Missing
switched_to_nothing = refl

-- a path of over 64 names is too deep before anything is looked for there
switched_too_deep : switch_fault k k_copy (at f) (deep 65) 1 ≡ Some TooDeep
switched_too_deep = refl

switched_accepted : switch_fault k k_copy (at g) (at f) 2 ≡ None
switched_accepted = refl

nothing_forgotten : forget_fault k_copy (at g) ≡ Some Missing
nothing_forgotten = refl

root_forgotten : forget_fault k_copy [] ≡ Some IsRoot
root_forgotten = refl

no_nodes : nodes_fault [] ≡ Some BadRoot
no_nodes = refl

root_given_twice : nodes_fault (([], whole 1 []) ∷ ([], whole 1 []) ∷ []) ≡ Some Twice
root_given_twice = refl

file_for_a_root : nodes_fault (([], plain 1 [] a) ∷ []) ≡ Some BadRoot
file_for_a_root = refl

parent_left_out : nodes_fault (([], whole 1 []) ∷ (at2 a b, whole 1 (at2 a b)) ∷ []) ≡ Some NoParent
parent_left_out = refl

repos_path_too_deep : nodes_fault (([], whole 1 []) ∷ (at f, plain 1 (deep 65) a) ∷ []) ≡ Some TooDeep
repos_path_too_deep = refl

-- the order of the list doesn't matter
nodes_accepted : nodes_fault ((at f, plain 1 (at f) a) ∷ ([], whole 1 []) ∷ []) ≡ None
nodes_accepted = refl
