-- The first fault on a way down, and what it means that there is none.
use Rattle.std.proofs.Common.{◌≡◌, ℕ, zero, suc, ◌+◌, ◌<◌, ◌≤◌, Bool, true, false, cond, List, [], ◌∷◌, ◌++◌, length, take, drop, get_or}
use Rattle.std.proofs.Common.{refl, arith, Option, Some, None, subst, sym, ap, ◌∙◌, drop-cons, add-one}
use Rattle.std.specs.Prelude.{nat_lt}
use Rattle.std.specs.List.{slice_get}
use Rattle.std.specs.Option.{option_and_then, option_map, option_or, is_some}
use Rattle.svn_lists.proofs.Options.{option_or_next, option_or_none}
use Rattle.svn_types.specs.declared.kind.Kind.TheVariants.{File, Directory}
use Rattle.svn_repo.specs.declared.store.Node.{Node}
use Rattle.svn_repo.specs.declared.change.CommitFault.{CommitFault}
use Rattle.svn_repo.specs.declared.change.CommitFault.TheVariants.{Exists, NotDir}
use Rattle.svn_types.specs.Names.{Path}
use Rattle.svn_repo.specs.History.{Nodes, child_in, walk}
use Rattle.svn_repo.specs.Stored.{row_of, rows, kind_of}
use Rattle.svn_repo.specs.Trees.{Place, Tree, place_of, place_at, IsWay, is_directory_place}
use Rattle.svn_repo.specs.Drafts.{tree_in, old_part}
use Rattle.svn_repo.specs.Changes.{above_fault, directory_fault, fault_if}

pub above_same : (t u : Tree) (p : Path) → ((q : Path) → t q ≡ u q) → above_fault t p ≡ above_fault u p
above_same t u [] h = refl
above_same t u (name ∷ p) h =
    ap (λ o. option_or (directory_fault o) (above_fault (λ q. t (name ∷ q)) p)) (h [])
    ∙ ap (option_or (directory_fault (u []))) (above_same (λ q. t (name ∷ q)) (λ q. u (name ∷ q)) p (λ q. h (name ∷ q)))

below_child : (base : ℕ) (nodes : List Node) (o : Option ℕ) (q : Path)
    → option_and_then (place_at (rows nodes) base) (option_and_then (λ m. walk (rows nodes) m q) o) ≡ old_part base nodes o q
below_child base nodes None q = refl
below_child base nodes (Some m) q = refl

place_here : (base : ℕ) (nodes : List Node) (n : ℕ) (node : Node) → slice_get nodes n ≡ Some node
    → tree_in base nodes n [] ≡ Some (place_of (cond (nat_lt n base) (Some n) None) (row_of node))
place_here base nodes n node e = ap (λ o. option_map (place_of (cond (nat_lt n base) (Some n) None)) (option_map row_of o)) e

directory_fault_file : (p : Place) → p.kind ≡ File → directory_fault (Some p) ≡ Some NotDir
directory_fault_file p e = rw e refl

directory_fault_directory : (p : Place) → p.kind ≡ Directory → directory_fault (Some p) ≡ None
directory_fault_directory p e = rw e refl

pub above_file : (base : ℕ) (nodes : List Node) (n : ℕ) (node : Node) (name : List ℕ) (p : Path) → slice_get nodes n ≡ Some node
    → kind_of node.content ≡ File → above_fault (tree_in base nodes n) (name ∷ p) ≡ Some NotDir
above_file base nodes n node name p e k =
    ap (λ o. option_or o (above_fault (λ q. tree_in base nodes n (name ∷ q)) p)) (ap directory_fault (place_here base nodes n node e)
    ∙ directory_fault_file (place_of (cond (nat_lt n base) (Some n) None) (row_of node)) k)

pub above_directory : (base : ℕ) (nodes : List Node) (n : ℕ) (node : Node) (name : List ℕ) (p : Path) → slice_get nodes n ≡ Some node
    → kind_of node.content ≡ Directory → above_fault (tree_in base nodes n) (name ∷ p) ≡ above_fault
    (old_part base nodes (child_in (rows nodes n) name)) p
above_directory base nodes n node name p e k =
    ap (λ o. option_or o (above_fault (λ q. tree_in base nodes n (name ∷ q)) p)) (ap directory_fault (place_here base nodes n node e)
    ∙ directory_fault_directory (place_of (cond (nat_lt n base) (Some n) None) (row_of node)) k)
    ∙ above_same (λ q. tree_in base nodes n (name ∷ q)) (old_part base nodes (child_in (rows nodes n) name)) p
    (below_child base nodes (child_in (rows nodes n) name))

-- ---- the loop over the names

module _ (base : ℕ) (nodes : List Node) (at : Option ℕ) (id : ℕ) (node : Node) (names : Path) (i : ℕ) (name : List ℕ)
    (whole : Option CommitFault)
    (led : above_fault (old_part base nodes at) (drop i names) ≡ whole) (at_is : at ≡ Some id) (here : slice_get nodes id ≡ Some node)
    (name_is : name ≡ get_or names i name) (below : i < length names) where
  rest : drop i names ≡ name ∷ drop (i + 1) names
  rest = drop-cons names i name below ∙ ap (λ x. x ∷ drop (suc i) names) (sym name_is) ∙ ap (λ k. name ∷ drop k names) (sym (add-one i))

  from_here : above_fault (tree_in base nodes id) (name ∷ drop (i + 1) names) ≡ whole
  from_here = sym (ap (above_fault (tree_in base nodes id)) rest) ∙ sym (ap (λ o. above_fault (old_part base nodes o) (drop i names)) at_is)
      ∙ led

  pub led_file : kind_of node.content ≡ File → Some NotDir ≡ whole
  led_file k = sym (above_file base nodes id node name (drop (i + 1) names) here k) ∙ from_here

  pub led_directory : kind_of node.content ≡ Directory
      → above_fault (old_part base nodes (child_in (rows nodes id) name)) (drop (i + 1) names) ≡ whole
  led_directory k = sym (above_directory base nodes id node name (drop (i + 1) names) here k) ∙ from_here

-- the way goes on from the next node
pub leads_on : (f : Nodes) (at : Option ℕ) (id : ℕ) (names : Path) (i : ℕ) (name : List ℕ) (whole : Option ℕ)
    → option_and_then (λ n. walk f n (drop i names)) at ≡ whole → at ≡ Some id → name ≡ get_or names i name → i < length names
    → option_and_then (λ n. walk f n (drop (i + 1) names)) (child_in (f id) name) ≡ whole
leads_on f at id names i name whole led at_is name_is below =
    sym (ap (walk f id) rest) ∙ sym (ap (option_and_then (λ n. walk f n (drop i names))) at_is) ∙ led
  where
    rest : drop i names ≡ name ∷ drop (i + 1) names
    rest = drop-cons names i name below ∙ ap (λ x. x ∷ drop (suc i) names) (sym name_is) ∙ ap (λ k. name ∷ drop k names) (sym (add-one i))

-- ---- no fault above the last name

directory_by : (o : Option Place) → directory_fault o ≡ None → is_directory_place o ≡ true
directory_by None h = cc
directory_by (Some p) h = by_bool (is_directory_place (Some p)) h
  where
    by_bool : (b : Bool) → cond b None (Some NotDir) ≡ None → b ≡ true
    by_bool true h = refl
    by_bool false h = cc

pub some_directory : (o : Option Place) → is_directory_place o ≡ true → is_some o ≡ true
some_directory None h = let bad : false ≡ true = h in cc
some_directory (Some p) h = refl

way_from_fault : (t : Tree) (p : Path) (name : List ℕ) → above_fault t (p ++ name ∷ []) ≡ None
    → IsWay t p × (is_directory_place (t p) ≡ true)
way_from_fault t [] name h =
    let d = directory_by (t []) (option_or_none (directory_fault (t [])) None h).0 in
    let w : IsWay t [] = record { directories = λ i b. absurd (omega arith); present = at_root } in
    (w, d)
  where
    at_root : (i : ℕ) → i ≤ 0 → is_some (t (take i [])) ≡ true
    at_root zero b = some_directory (t []) (directory_by (t []) (option_or_none (directory_fault (t [])) None h).0)
    at_root (suc i) b = absurd (omega arith)
way_from_fault t (m ∷ p) name h =
    let parts = option_or_none (directory_fault (t [])) (above_fault (λ q. t (m ∷ q)) (p ++ name ∷ [])) h in
    let below = way_from_fault (λ q. t (m ∷ q)) p name parts.1 in
    let d : is_directory_place (t []) ≡ true = directory_by (t []) parts.0 in
    let w : IsWay t (m ∷ p) = record { directories = dirs d below.0; present = here d below.0 } in
    (w, below.1)
  where
    dirs : is_directory_place (t []) ≡ true → IsWay (λ q. t (m ∷ q)) p → (i : ℕ) → i < length (m ∷ p)
        → is_directory_place (t (take i (m ∷ p))) ≡ true
    dirs d w zero b = d
    dirs d w (suc i) b = w.directories i (omega arith)

    here : is_directory_place (t []) ≡ true → IsWay (λ q. t (m ∷ q)) p → (i : ℕ) → i ≤ length (m ∷ p) → is_some (t (take i (m ∷ p))) ≡ true
    here d w zero b = some_directory (t []) d
    here d w (suc i) b = w.present i (omega arith)

-- the directories above the last name of a path that has no fault above it
pub way_above : (t : Tree) (path above : Path) (last : List ℕ) → path ≡ above ++ last ∷ [] → above_fault t path ≡ None
    → IsWay t above × (is_directory_place (t above) ≡ true)
way_above t path above last split no_fault = way_from_fault t above last (subst (λ (p : Path). above_fault t p ≡ None) split no_fault)

-- the way to a path that is there, with no fault above it
pub way_whole : (t : Tree) (p : Path) → above_fault t p ≡ None → is_some (t p) ≡ true → IsWay t p
way_whole t [] h stands = record { directories = λ i b. absurd (omega arith); present = at_root }
  where
    at_root : (i : ℕ) → i ≤ 0 → is_some (t (take i [])) ≡ true
    at_root zero b = stands
    at_root (suc i) b = absurd (omega arith)
way_whole t (m ∷ p) h stands =
    let parts = option_or_none (directory_fault (t [])) (above_fault (λ q. t (m ∷ q)) p) h in
    let below : IsWay (λ q. t (m ∷ q)) p = way_whole (λ q. t (m ∷ q)) p parts.1 stands in
    let d : is_directory_place (t []) ≡ true = directory_by (t []) parts.0 in
    record { directories = dirs d below; present = here d below }
  where
    dirs : is_directory_place (t []) ≡ true → IsWay (λ q. t (m ∷ q)) p → (i : ℕ) → i < length (m ∷ p)
        → is_directory_place (t (take i (m ∷ p))) ≡ true
    dirs d w zero b = d
    dirs d w (suc i) b = w.directories i (omega arith)

    here : is_directory_place (t []) ≡ true → IsWay (λ q. t (m ∷ q)) p → (i : ℕ) → i ≤ length (m ∷ p) → is_some (t (take i (m ∷ p))) ≡ true
    here d w zero b = some_directory (t []) d
    here d w (suc i) b = w.present i (omega arith)

-- ---- what is wrong with a path at which nothing may be

pub taken_path : (t : Tree) (p : Path) (rest : Option CommitFault) → above_fault t p ≡ None → is_some (t p) ≡ true
    → option_or (above_fault t p) (option_or (fault_if (is_some (t p)) Exists) rest) ≡ Some Exists
taken_path t p rest above stands = option_or_next (above_fault t p) (option_or (fault_if (is_some (t p)) Exists) rest) above
    ∙ ap (λ b. option_or (fault_if b Exists) rest) stands

pub free_path : (t : Tree) (p : Path) (rest : Option CommitFault) → above_fault t p ≡ None → t p ≡ None
    → option_or (above_fault t p) (option_or (fault_if (is_some (t p)) Exists) rest) ≡ rest
free_path t p rest above gone = option_or_next (above_fault t p) (option_or (fault_if (is_some (t p)) Exists) rest) above
    ∙ ap (λ o. option_or (fault_if (is_some o) Exists) rest) gone
