-- The nodes of a copy, at their places once its work is done.
use Rattle.std.proofs.Common.{◌≡◌, Bool, true, false, ◌&&◌, ◌||◌, not, ℕ, ◌+◌, List, [], ◌∷◌, ◌++◌, refl, sym, ◌∙◌, ap, subst, true≢false, arith}
use Rattle.std.specs.Prelude.{bytes_eq, codes, cond, Option, Some, None, is_some}
use Rattle.std.specs.Fmt.{decimal}
use Rattle.std.specs.declared.cmp.Ordering.TheVariants.{Less}
use Rattle.std.proofs.lemmas.Slice.Eq.{bytes_eq-Decides}
use Rattle.std.specs.BTreeMap.{is_at}
use Rattle.std.specs.List.{list_all, list_any, AllByRecursion}
use Rattle.std.specs.Map.{keys_of}
use Rattle.std.proofs.lemmas.Bool.{and_parts}
use Rattle.std.proofs.lemmas.List.Folds.{list_any-append}
use Rattle.std.proofs.lemmas.Map.Keys.{sorted_head, sorted_tail}
use Rattle.svn_types.specs.Names.{Path, path_cmp}
use Rattle.svn_types.specs.Paths.{path_eq, is_root}
use Rattle.svn_types.proofs.NameLemmas.{Name}
use Rattle.svn_types.proofs.PathLemmas.{same_path}
use Rattle.svn_types.proofs.PathsInOrder.{at_path, before_apart, not_before_root}
use Rattle.svn_model.specs.declared.base_node.BaseNode.{BaseNode}
use Rattle.svn_model.specs.declared.base_node.BaseNode.TheVariants.{File as FileNode, Dir as DirNode, NotPresent}
use Rattle.svn_model.specs.Nodes.{get_in, is_dir, InPathOrder, IsWorkingCopy}
use Rattle.svn_wcrows.specs.declared.work.Work.{Work}
use Rattle.svn_folder.specs.declared.step.Step.{Step}
use Rattle.svn_folder.specs.declared.step.Step.TheVariants.{Make, SyncFile, SyncDirectory, Rename, RenameDirectory, RemoveFile, RemoveDirectory}
use Rattle.svn_folder.specs.States.{Seen, State, seen}
use Rattle.svn_folder.specs.Steps.{run, after}
use Rattle.svn_folder.specs.Files.{is_sync}
use Rattle.svn_folder.specs.Laws.{is_apart}
use Rattle.svn_folder.proofs.Apart.{run_apart}
use Rattle.svn_folder.proofs.Showing.{move_here}
use Rattle.svn_disk.specs.Places.{is_inside, is_outside, is_reserved, is_node, text_place}
use Rattle.svn_disk.specs.Plans.{present_nodes, entry_work, node_work, work_of, path_of}
use Rattle.svn_disk.specs.Crashes.{IsTextOf, IsTextIn, EachText}
use Rattle.svn_disk.specs.Ends.{text_at, own_place, files_at, IsReadyAt, AreReady, AreCopied, IsAtPlace, AreAtPlaces, ArePlaced, AreDistinct, IsSame}
use Rattle.svn_disk.proofs.Beside.{each_off}
use Rattle.svn_disk.proofs.Leaving.{each_apart}
use Rattle.svn_disk.proofs.Placing.{node_outside, work_free}
use Rattle.svn_disk.proofs.EndsWork.{count_files, placed_parts}

abbrev svn : Name
svn = codes ".svn"

-- ---- steps that show nothing new

sync_off : (p : Path) (step : Step) → is_sync step ≡ true → is_apart step p ≡ true
sync_off p (Make q e t) h = absurd (true≢false (sym h))
sync_off p (SyncFile q) h = refl
sync_off p (SyncDirectory q) h = refl
sync_off p (Rename q r) h = absurd (true≢false (sym h))
sync_off p (RenameDirectory k m) h = absurd (true≢false (sym h))
sync_off p (RemoveFile q) h = absurd (true≢false (sym h))
sync_off p (RemoveDirectory q) h = absurd (true≢false (sym h))

pub syncs_same : (s : State) (more : List Step) → list_all is_sync more ≡ true → IsSame (seen s) (seen (run s more))
syncs_same s more each p = run_apart s more p (each_off is_sync p (sync_off p) more each)

other_name : (k : Name) → not (bytes_eq k svn) ≡ true → bytes_eq svn k ≡ false
other_name k h = by (bytes_eq svn k) refl
  where
    by : (b : Bool) → bytes_eq svn k ≡ b → b ≡ false
    by false e = refl
    by true e = absurd (true≢false (sym h ∙ ap (λ (x : Name). not (bytes_eq x svn)) (sym ((bytes_eq-Decides svn k).0 e))))

-- steps in the administrative folder, at paths outside of it
pub inside_same : (s : State) (more : List Step) → list_all (is_inside svn) more ≡ true → (p : Path) → is_outside p ≡ true → seen (run s more) p ≡ seen s p
inside_same s more each [] outside = absurd (true≢false (sym outside))
inside_same s more each (k ∷ p) outside = run_apart s more (k ∷ p) (each_apart svn k p (other_name k outside) more each)

-- ---- each file is ready

ready_one : (n : Name) (i : ℕ) (t : List ℕ) (b : Seen) → IsTextOf t (b (text_place n t)) → text_at (b (own_place n i)) ≡ text_at (b (text_place n t))
    → text_at (b (own_place n i)) ≡ Some t
ready_one n i t b is same = same ∙ ap text_at is.is_file ∙ ap (λ (x : List ℕ). Some x) is.is_text

pub each_ready : (n : Name) (i : ℕ) (copy : List (Path × BaseNode)) (b : Seen) → AreCopied n i copy b → EachText (IsTextIn n b) (present_nodes copy) → AreReady n i copy b
each_ready n i [] b are texts = tt
each_ready n i ((p, FileNode r q t ps) ∷ copy) b are texts = (ready_one n i t b texts.0 are.0.same, each_ready n (i + 1) copy b are.1 texts.1)
each_ready n i ((p, DirNode r q c ps) ∷ copy) b are texts = (tt, each_ready n (i + 0) copy b are.1 texts.1)
each_ready n i ((p, NotPresent) ∷ copy) b are texts = (tt, each_ready n (i + 0) copy b are.1 texts)

moved_one : (m n : Name) (i : ℕ) (node : BaseNode) (a c : Seen) → c (own_place n i) ≡ a (own_place m i) → IsReadyAt m i node a → IsReadyAt n i node c
moved_one m n i (FileNode r q t ps) a c same is = ap text_at same ∙ is
moved_one m n i (DirNode r q c' ps) a c same is = tt
moved_one m n i NotPresent a c same is = tt

-- in the folder under its other name
pub ready_moved : (m n : Name) (i : ℕ) (copy : List (Path × BaseNode)) (a c : Seen) → ((j : ℕ) → c (own_place n j) ≡ a (own_place m j)) → AreReady m i copy a
    → AreReady n i copy c
ready_moved m n i [] a c same are = tt
ready_moved m n i (entry ∷ copy) a c same are =
    (moved_one m n i entry.1 a c (same i) are.0, ready_moved m n (i + files_at entry.1) copy a c same are.1)

pub folder_moved : (copy : List (Path × BaseNode)) (s : State) → AreReady (codes ".svn-new") 0 copy (seen s)
    → AreReady svn 0 copy (seen (after (RenameDirectory (codes ".svn-new") svn) s))
folder_moved copy s are =
    ready_moved (codes ".svn-new") svn 0 copy (seen s) (seen (after (RenameDirectory (codes ".svn-new") svn) s))
    (λ j. move_here (codes ".svn-new") svn s svn (codes "tmp" ∷ (codes "new-" ++ decimal j) ∷ []) refl refl) are

-- ---- the work of a copy

-- only the root has no name, and it is no file
abbrev RootIsNoFile : Path × BaseNode → Type 0
RootIsNoFile entry = is_root entry.0 ≡ true → files_at entry.1 ≡ 0

not_root : (p q : Path) → path_cmp p q ≡ Less → is_root q ≡ false
not_root p [] h = absurd (not_before_root p h)
not_root p (n ∷ q) h = refl

others_not_root : (p : Path) (rest : List (Path × BaseNode)) → AllByRecursion (λ q. path_cmp p q ≡ Less) (keys_of rest) → AllByRecursion RootIsNoFile rest
others_not_root p [] h = tt
others_not_root p (entry ∷ rest) h = (λ root. absurd (true≢false (sym root ∙ not_root p entry.0 h.0)), others_not_root p rest h.1)

dir_no_file : (node : BaseNode) → is_dir (Some node) ≡ true → files_at node ≡ 0
dir_no_file (FileNode r q t ps) h = absurd (true≢false (sym h))
dir_no_file (DirNode r q c ps) h = refl
dir_no_file NotPresent h = refl

pub root_no_file : (copy : List (Path × BaseNode)) → InPathOrder copy → is_dir (get_in copy []) ≡ true → AllByRecursion RootIsNoFile copy
root_no_file [] order dir = tt
root_no_file (([], node) ∷ rest) order dir =
    (λ root. dir_no_file node dir, others_not_root [] rest (sorted_head path_cmp [] (keys_of rest) order))
root_no_file ((n ∷ p, node) ∷ rest) order dir =
    (λ root. absurd (true≢false (sym root)), others_not_root (n ∷ p) rest (sorted_head path_cmp (n ∷ p) (keys_of rest) order))

-- no work of later nodes is at a path
none_later : (p : Path) (rest : List (Path × BaseNode)) → AllByRecursion (λ q. path_cmp p q ≡ Less) (keys_of rest)
    → list_any (λ other. path_eq p (path_of other)) (work_of rest) ≡ false
none_later p [] h = refl
none_later p (entry ∷ rest) h =
    list_any-append (λ other. path_eq p (path_of other)) (entry_work entry) (work_of rest)
    ∙ ap (λ b. b || list_any (λ other. path_eq p (path_of other)) (work_of rest)) (here entry.0 entry.1 (before_apart p entry.0 h.0))
    ∙ none_later p rest h.1
  where
    here : (q : Path) (node : BaseNode) → path_eq p q ≡ false → list_any (λ other. path_eq p (path_of other)) (entry_work (q, node)) ≡ false
    here [] node other = refl
    here (n ∷ q) (FileNode r u t ps) other = ap (λ b. b || false) other
    here (n ∷ q) (DirNode r u c ps) other = ap (λ b. b || false) other
    here (n ∷ q) NotPresent other = refl

pub work_distinct : (copy : List (Path × BaseNode)) → InPathOrder copy → AreDistinct (work_of copy)
work_distinct [] order = tt
work_distinct (([], node) ∷ rest) order = work_distinct rest (sorted_tail path_cmp [] (keys_of rest) order)
work_distinct ((n ∷ p, FileNode r u t ps) ∷ rest) order = (
  none_later (n ∷ p) rest (sorted_head path_cmp (n ∷ p) (keys_of rest) order),
  work_distinct rest (sorted_tail path_cmp (n ∷ p) (keys_of rest) order),
)
work_distinct ((n ∷ p, DirNode r u c ps) ∷ rest) order = (
  none_later (n ∷ p) rest (sorted_head path_cmp (n ∷ p) (keys_of rest) order),
  work_distinct rest (sorted_tail path_cmp (n ∷ p) (keys_of rest) order),
)
work_distinct ((n ∷ p, NotPresent) ∷ rest) order = work_distinct rest (sorted_tail path_cmp (n ∷ p) (keys_of rest) order)

all_wider : (f g : Path → Bool) → ((p : Path) → f p ≡ true → g p ≡ true) → (work : List Work) → list_all (λ item. f (path_of item)) work ≡ true
    → list_all (λ item. g (path_of item)) work ≡ true
all_wider f g wider [] h = refl
all_wider f g wider (item ∷ work) h =
    let parts = and_parts (f (path_of item)) (list_all (λ x. f (path_of x)) work) h in
    ap (λ b. b && list_all (λ x. g (path_of x)) work) (wider (path_of item) parts.0) ∙ all_wider f g wider work parts.1

pub work_outside : (copy : List (Path × BaseNode)) → list_any (λ entry. is_reserved entry.0) copy ≡ false → list_all (λ item. is_outside (path_of item)) (work_of copy) ≡ true
work_outside copy h = all_wider (is_node copy) is_outside (node_outside copy) (work_of copy) (work_free copy h)

-- ---- the nodes at their places

abbrev IsEntryAt : Seen → Path × BaseNode → Type 0
IsEntryAt left entry = is_root entry.0 ≡ false → IsAtPlace entry.1 (left entry.0)

at_place : (n : Name) (i : ℕ) (p : Path) (node : BaseNode) (m left : Seen) → ArePlaced n i (node_work p node) m left → IsReadyAt n i node m → IsAtPlace node (left p)
at_place n i p (FileNode r q t ps) m left placed ready = ap text_at placed.0 ∙ ready
at_place n i p (DirNode r q c ps) m left placed ready = placed.0
at_place n i p NotPresent m left placed ready = tt

count_node : (p : Path) (node : BaseNode) → count_files (node_work p node) ≡ files_at node
count_node p (FileNode r q t ps) = refl
count_node p (DirNode r q c ps) = refl
count_node p NotPresent = refl

pub each_at_place : (n : Name) (i : ℕ) (copy : List (Path × BaseNode)) (m left : Seen) → AllByRecursion RootIsNoFile copy → ArePlaced n i (work_of copy) m left
    → AreReady n i copy m → AllByRecursion (IsEntryAt left) copy
each_at_place n i [] m left root placed ready = tt
each_at_place n i (([], node) ∷ copy) m left root placed ready = (
  λ other. absurd (true≢false other),
  each_at_place n i copy m left root.1 placed (subst (λ (j : ℕ). AreReady n j copy m) (let e = root.0 refl in omega (arith, e)) ready.1),
)
each_at_place n i ((k ∷ p, node) ∷ copy) m left root placed ready =
    let parts = placed_parts n i (node_work (k ∷ p) node) (work_of copy) m left placed in (
      λ other. at_place n i (k ∷ p) node m left parts.0 ready.0,
      each_at_place n (i + files_at node) copy m left root.1
          (subst (λ (j : ℕ). ArePlaced n (i + j) (work_of copy) m left) (count_node (k ∷ p) node) parts.1) ready.1,
    )

in_some : BaseNode → Option BaseNode → BaseNode
in_some d (Some x) = x
in_some d None = d

found_first : (left : Seen) (entry : Path × BaseNode) (copy : List (Path × BaseNode)) → IsEntryAt left entry → AreAtPlaces copy left → AreAtPlaces (entry ∷ copy) left
unfolding in_some
found_first left entry copy first others p node found outside = by (is_at (path_cmp p) entry.0) refl
  where
    by : (b : Bool) → is_at (path_cmp p) entry.0 ≡ b → IsAtPlace node (left p)
    by true e =
        let same : p ≡ entry.0 = same_path p entry.0 (sym (at_path p entry.0) ∙ e) in
        let is : entry.1 ≡ node = ap (in_some node) (sym (ap (λ b. cond b (Some entry.1) (get_in copy p)) e) ∙ found) in
        subst (λ (x : BaseNode). IsAtPlace x (left p)) is
        (subst (λ (q : Path). IsAtPlace entry.1 (left q)) (sym same) (first (ap is_root (sym same) ∙ outside)))
    by false e = others p node (sym (ap (λ b. cond b (Some entry.1) (get_in copy p)) e) ∙ found) outside

found_at : (left : Seen) (copy : List (Path × BaseNode)) → AllByRecursion (IsEntryAt left) copy → AreAtPlaces copy left
found_at left [] each p node found outside = absurd (true≢false (sym (ap is_some found)))
found_at left (entry ∷ copy) each p node found outside =
    found_first left entry copy each.0 (λ q other. found_at left copy each.1 q other) p node found outside

pub are_at_places : (copy : List (Path × BaseNode)) (m left : Seen) → InPathOrder copy → IsWorkingCopy (get_in copy) → ArePlaced svn 0 (work_of copy) m left
    → AreReady svn 0 copy m → AreAtPlaces copy left
are_at_places copy m left order shape placed ready =
    found_at left copy (each_at_place svn 0 copy m left (root_no_file copy order shape.root) placed ready)
