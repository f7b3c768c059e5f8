-- A change, and what is shown once its work is done.
use Rattle.std.proofs.Common.{◌≡◌, Bool, true, false, ◌&&◌, ◌||◌, not, ℕ, ◌+◌, ◌<◌, ◌^◌, map, min, arith, List, [], ◌∷◌, ◌++◌, length, take, drop, get_or, refl, sym, ◌∙◌, ap, subst, true≢false}
use Rattle.std.specs.Prelude.{codes, cond, if◌then◌else◌, reverse, Option, Some, None, is_some, Result, Ok, Err, IfOk, ⊤}
use Rattle.std.specs.List.{list_all, list_any, flat_map}
use Rattle.std.proofs.lemmas.Bool.{and_parts, or_parts}
use Rattle.std.proofs.lemmas.List.Folds.{list_all-append, list_any-append}
use Rattle.std.specs.BTreeMap.{is_at}
use Rattle.std.specs.Map.{lookup}
use Rattle.std.specs.Option.{unwrap_or}
use Rattle.std.proofs.lemmas.List.{take_more, take-append-drop, take_at, drop_at, length-append, reverse-append}
use Rattle.std.proofs.Math.Seq.{take-length}
use Rattle.svn_types.specs.Names.{Path, path_cmp}
use Rattle.svn_types.specs.Paths.{path_eq}
use Rattle.svn_types.proofs.NameLemmas.{Name}
use Rattle.svn_types.proofs.PathLemmas.{same_path}
use Rattle.svn_types.proofs.PathsInOrder.{at_path}
use Rattle.svn_model.specs.declared.base_node.BaseNode.{BaseNode}
use Rattle.svn_model.specs.declared.base_node.BaseNode.TheVariants.{File as FileNode, Dir as DirNode, NotPresent}
use Rattle.svn_model.specs.Nodes.{get_in, is_dir}
use Rattle.svn_wcrows.specs.declared.work.Work.{Work}
use Rattle.svn_wcrows.specs.declared.work.Work.TheVariants.{MakeDirectory, InstallFile, RemoveFile, RemoveDirectory}
use Rattle.svn_disk.specs.Plans.{path_of, text_of_node}
use Rattle.svn_disk.specs.declared.task.Task.{Task}
use Rattle.svn_disk.specs.Tasks.{removals_in, makings_in, is_removal, IsParted, comes_at, node_at, work_node, work_nodes}
use Rattle.svn_disk.specs.Crashes.{AreNodesOf, OfText, EachText, IsTextIn, IsTextAt}
use Rattle.svn_folder.specs.States.{Seen}
use Rattle.svn_folder.specs.Entries.{has_leaf}
use Rattle.svn_disk.specs.declared.plan.Change.{Change}
use Rattle.svn_disk.specs.declared.plan.PathChange.{PathChange}
use Rattle.svn_disk.specs.Changes.{comes, goes, making_directory, making_file, removing_directory, removing_file, makings_of, removals_of, comes_to, IsChanged, EachChanged, AreChanged}
use Rattle.svn_disk.specs.Ends.{files_at, files_of, text_at, own_place, IsReadyAt, AreReady, AreCopied, AreFiles, IsExchanged, IsSame, HasText, IsDone, EachDone, IsAtPlace, is_noted, StayNoted, IsNoted, AreNoted, EachNoted}
use Rattle.svn_disk.proofs.Reading.{each_present}
use Rattle.svn_disk.proofs.EndsCopy.{each_ready}
use Rattle.svn_disk.proofs.EndsTexts.{count_at, count_at_most, copied_still}
use Rattle.svn_disk.proofs.EndsDone.{exchanged_own, nodes_count}

-- ---- sizes that are noted

one_noted : (sizes more : List (Path × Option ℕ)) (item : Work) → StayNoted sizes more → IsNoted sizes item → IsNoted more item
one_noted sizes more (MakeDirectory p) wider is = tt
one_noted sizes more (InstallFile p) wider is = wider p is
one_noted sizes more (RemoveFile p) wider is = tt
one_noted sizes more (RemoveDirectory p) wider is = tt

noted_next : (sizes more : List (Path × Option ℕ)) (some : List Work) (x : Work) → StayNoted sizes more → AreNoted sizes some → IsNoted more x
    → AreNoted more (some ++ x ∷ [])
noted_next sizes more [] x wider are is = (is, tt)
noted_next sizes more (item ∷ some) x wider are is = (one_noted sizes more item wider are.0, noted_next sizes more some x wider are.1 is)

pub noted_more : (sizes more : List (Path × Option ℕ)) (work : List Work) (k : ℕ) (x : Work) → k < length work → x ≡ get_or work k x → StayNoted sizes more
    → AreNoted sizes (take k work) → IsNoted more x → AreNoted more (take (k + 1) work)
noted_more sizes more work k x below is wider are here =
    subst (AreNoted more) (ap (λ (y : Work). take k work ++ y ∷ []) is ∙ sym (take_more work k x below)) (noted_next sizes more (take k work) x wider are here)

pub noted_all : (sizes : List (Path × Option ℕ)) (work : List Work) (k : ℕ) → k ≡ length work → AreNoted sizes (take k work) → AreNoted sizes work
noted_all sizes work k is are = subst (AreNoted sizes) (ap (λ j. take j work) is ∙ take-length work) are

-- one more size
pub noted_after : (v : Option ℕ) (b : Bool) (found : Option (Option ℕ)) → is_some found ≡ true → is_some (cond b (Some v) found) ≡ true
noted_after v true found h = refl
noted_after v false found h = h

-- ---- the texts of files that come

noted_at : (sizes : List (Path × Option ℕ)) (P : List ℕ → Type 0) (p : Path) (nodes : List (Path × BaseNode)) (node : BaseNode) → EachNoted sizes P nodes
    → get_in nodes p ≡ Some node → is_noted sizes p ≡ true → OfText P node
noted_at sizes P p [] node each found noted = absurd (true≢false (sym (ap is_some found)))
noted_at sizes P p (entry ∷ nodes) node each found noted =
    by (is_at (path_cmp p) entry.0) refl (λ later. noted_at sizes P p nodes node each.1 later noted)
  where
    in_some : Option BaseNode → BaseNode
    in_some (Some x) = x
    in_some None = node

    by : (b : Bool) → is_at (path_cmp p) entry.0 ≡ b → (get_in nodes p ≡ Some node → OfText P node) → OfText P node
    by true e rest =
        let same : p ≡ entry.0 = same_path p entry.0 (sym (at_path p entry.0) ∙ e) in
        subst (OfText P) (ap in_some (sym (ap (λ x. cond x (Some entry.1) (get_in nodes p)) e) ∙ found)) (each.0 (ap (is_noted sizes) (sym same) ∙ noted))
    by false e rest = rest (sym (ap (λ x. cond x (Some entry.1) (get_in nodes p)) e) ∙ found)

-- the node of a file that comes is the copy's
node_text : (sizes : List (Path × Option ℕ)) (P : List ℕ → Type 0) (copy nodes : List (Path × BaseNode)) (item : Work) → AreNodesOf copy nodes → EachNoted sizes P nodes
    → IsNoted sizes item → OfText P (work_node copy item)
node_text sizes P copy nodes (MakeDirectory p) are each noted = tt
node_text sizes P copy nodes (RemoveFile p) are each noted = tt
node_text sizes P copy nodes (RemoveDirectory p) are each noted = tt
node_text sizes P copy nodes (InstallFile p) are each noted = by (get_in copy p) refl
  where
    by : (found : Option BaseNode) → get_in copy p ≡ found → OfText P (unwrap_or found NotPresent)
    by None is = tt
    by (Some node) is = noted_at sizes P p nodes node each (are.same p ∙ is) noted

pub coming_texts : (sizes : List (Path × Option ℕ)) (P : List ℕ → Type 0) (copy nodes : List (Path × BaseNode)) (work : List Work) → AreNodesOf copy nodes
    → EachNoted sizes P nodes → AreNoted sizes work → EachText P (work_nodes copy work)
coming_texts sizes P copy nodes [] are each noted = tt
coming_texts sizes P copy nodes (item ∷ work) are each noted =
    (node_text sizes P copy nodes item are each noted.0, coming_texts sizes P copy nodes work are each noted.1)

-- ---- files that are ready

pub ready_now : (sizes : List (Path × Option ℕ)) (copy nodes : List (Path × BaseNode)) (work : List Work) (a b : Seen) → AreNodesOf copy nodes → AreNoted sizes work
    → EachNoted sizes (IsTextIn (codes ".svn") b) nodes → IsSame a b → AreCopied (codes ".svn") 0 (work_nodes copy work) a
    → AreReady (codes ".svn") 0 (work_nodes copy work) b
ready_now sizes copy nodes work a b are noted each same copied =
    each_ready (codes ".svn") 0 (work_nodes copy work) b (copied_still (codes ".svn") (work_nodes copy work) a b same copied)
    (each_present (IsTextIn (codes ".svn") b) (work_nodes copy work) (coming_texts sizes (IsTextIn (codes ".svn") b) copy nodes work are each noted))

ready_one_within : (i : ℕ) (node : BaseNode) (b c : Seen) → i + files_at node < 2 ^ 64
    → ((j : ℕ) → j < 2 ^ 64 → c (own_place (codes ".svn") j) ≡ b (own_place (codes ".svn") j)) → IsReadyAt (codes ".svn") i node b → IsReadyAt (codes ".svn") i node c
ready_one_within i (FileNode r q t ps) b c few same is = ap text_at (same i (let k : i + 1 < 2 ^ 64 = few in omega (arith, k))) ∙ is
ready_one_within i (DirNode r q u ps) b c few same is = tt
ready_one_within i NotPresent b c few same is = tt

ready_within : (i : ℕ) (nodes : List (Path × BaseNode)) (b c : Seen) → i + count_at nodes < 2 ^ 64
    → ((j : ℕ) → j < 2 ^ 64 → c (own_place (codes ".svn") j) ≡ b (own_place (codes ".svn") j)) → AreReady (codes ".svn") i nodes b → AreReady (codes ".svn") i nodes c
ready_within i [] b c few same are = tt
ready_within i (entry ∷ nodes) b c few same are =
    let k : i + (files_at entry.1 + count_at nodes) < 2 ^ 64 = few in (
      ready_one_within i entry.1 b c (omega (arith, k)) same are.0,
      ready_within (i + files_at entry.1) nodes b c (omega (arith, k)) same are.1,
    )

pub ready_exchanged : (copy : List (Path × BaseNode)) (work : List Work) (b c : Seen) → length work < 2 ^ 64 → IsExchanged (codes ".svn") b c
    → AreReady (codes ".svn") 0 (work_nodes copy work) b → AreReady (codes ".svn") 0 (work_nodes copy work) c
ready_exchanged copy work b c few exchanged ready =
    ready_within 0 (work_nodes copy work) b c (let k = count_at_most (work_nodes copy work) in let l = nodes_count copy work in omega (arith, k, l, few))
    (λ j small. exchanged_own j b c small exchanged) ready

-- ---- the work of changes

-- of what there is one of, or nothing
one_all : (p : Work → Bool) (x : Work) (b : Bool) → p x ≡ true → list_all p (if b then x ∷ [] else []) ≡ true
one_all p x true h = ap (λ c. c && true) h
one_all p x false h = refl

one_none : (p : Work → Bool) (x : Work) (b : Bool) → p x ≡ false → list_any p (if b then x ∷ [] else []) ≡ false
one_none p x true h = ap (λ c. c || false) h
one_none p x false h = refl

each_all : (p : Work → Bool) (g : Path × Change → List Work) → ((entry : Path × Change) → list_all p (g entry) ≡ true) → (changes : List (Path × Change))
    → list_all p (flat_map g changes) ≡ true
each_all p g h [] = refl
each_all p g h (entry ∷ changes) =
    list_all-append p (g entry) (flat_map g changes) ∙ ap (λ b. b && list_all p (flat_map g changes)) (h entry) ∙ each_all p g h changes

each_none : (p : Work → Bool) (g : Path × Change → List Work) → ((entry : Path × Change) → list_any p (g entry) ≡ false) → (changes : List (Path × Change))
    → list_any p (flat_map g changes) ≡ false
each_none p g h [] = refl
each_none p g h (entry ∷ changes) =
    list_any-append p (g entry) (flat_map g changes) ∙ ap (λ b. b || list_any p (flat_map g changes)) (h entry) ∙ each_none p g h changes

all_reversed : (p : Work → Bool) (work : List Work) → list_all p work ≡ true → list_all p (reverse work) ≡ true
all_reversed p [] h = refl
all_reversed p (x ∷ work) h =
    let parts = and_parts (p x) (list_all p work) h in
    ap (list_all p) (reverse-append (x ∷ []) work) ∙ list_all-append p (reverse work) (x ∷ []) ∙ ap (λ b. b && (p x && true)) (all_reversed p work parts.1)
    ∙ ap (λ b. b && true) parts.0

-- all of the one part goes
pub all_go : (old : List (Path × BaseNode)) (changes : List (Path × Change)) → list_all is_removal (removals_of old changes) ≡ true
all_go old changes =
    list_all-append is_removal (flat_map (removing_file old) changes) (reverse (flat_map (removing_directory old) changes))
    ∙ ap (λ b. b && list_all is_removal (reverse (flat_map (removing_directory old) changes)))
    (each_all is_removal (removing_file old) (λ entry. one_all is_removal (RemoveFile entry.0) (goes entry.1 && not (is_dir (get_in old entry.0))) refl) changes)
    ∙ all_reversed is_removal (flat_map (removing_directory old) changes)
    (each_all is_removal (removing_directory old) (λ entry. one_all is_removal (RemoveDirectory entry.0) (goes entry.1 && is_dir (get_in old entry.0)) refl) changes)

-- and none of the other
pub none_go : (new : List (Path × BaseNode)) (changes : List (Path × Change)) → list_any is_removal (makings_of new changes) ≡ false
none_go new changes =
    list_any-append is_removal (flat_map (making_directory new) changes) (flat_map (making_file new) changes)
    ∙ ap (λ b. b || list_any is_removal (flat_map (making_file new) changes))
    (each_none is_removal (making_directory new) (λ entry. one_none is_removal (MakeDirectory entry.0) (comes entry.1 && is_dir (get_in new entry.0)) refl) changes)
    ∙ each_none is_removal (making_file new) (λ entry. one_none is_removal (InstallFile entry.0) (comes entry.1 && not (is_dir (get_in new entry.0))) refl) changes

pub parted_of : (task : Task) (old new : List (Path × BaseNode)) (changes : List (Path × Change)) → removals_in task ≡ removals_of old changes
    → makings_in task ≡ makings_of new changes → IsParted task
parted_of task old new changes gone made =
    record { removals = ap (list_all is_removal) gone ∙ all_go old changes; makings = ap (list_any is_removal) made ∙ none_go new changes }

-- one part, and then the other
pub first_part : (removals makings work : List Work) (k : ℕ) → work ≡ removals ++ makings → k ≡ length removals → take (min k (length work)) work ≡ removals
first_part removals makings work k is count =
    ap (take (min k (length work))) is
    ∙ take_at removals makings (min k (length work)) (let e = ap length is ∙ length-append removals makings in omega (arith, e, count))

pub last_part : (removals makings work : List Work) (k : ℕ) → work ≡ removals ++ makings → k ≡ length removals → drop (min k (length work)) work ≡ makings
last_part removals makings work k is count =
    ap (drop (min k (length work))) is
    ∙ drop_at removals makings (min k (length work)) (let e = ap length is ∙ length-append removals makings in omega (arith, e, count))

pub parts_of : (task : Task) (removals makings : List Work) → removals_in task ≡ removals → makings_in task ≡ makings → task.work.items ≡ removals ++ makings
parts_of task removals makings gone made =
    sym (take-append-drop (min task.removals (length task.work.items)) task.work.items) ∙ ap (λ (xs : List Work). xs ++ makings_in task) gone
    ∙ ap (λ (xs : List Work). removals ++ xs) made

-- ---- what the changes say

pair_of : PathChange → Path × Change
pair_of change = (change.path, change.change)

done_parts : (copy : List (Path × BaseNode)) (all some more : List Work) (left : Seen) → EachDone copy all (some ++ more) left
    → EachDone copy all some left × EachDone copy all more left
done_parts copy all [] more left done = (tt, done)
done_parts copy all (item ∷ some) more left done = let parts = done_parts copy all some more left done.1 in ((done.0, parts.0), parts.1)

some_node : BaseNode → Option BaseNode → BaseNode
some_node d (Some x) = x
some_node d None = d

some_text : List ℕ → Option (List ℕ) → List ℕ
some_text d (Some x) = x
some_text d None = d

-- a file has the text of its node
file_there : (new : List (Path × BaseNode)) (p : Path) (r : ℕ) (q : Path) (t : List ℕ) (ps : List (List ℕ × List ℕ)) (left : Seen)
    → get_in new p ≡ Some (FileNode r q t ps) → HasText new p left → text_at (left p) ≡ Some t
unfolding some_node some_text
file_there new p r q t ps left found has =
    let node : has.is.node ≡ FileNode r q t ps = ap (some_node (FileNode r q t ps)) (sym has.is.found ∙ found) in
    let text : Some has.text ≡ Some t = sym has.is.text ∙ ap text_of_node node in
    has.there ∙ text

module _ (new : List (Path × BaseNode)) (all : List Work) (p : Path) (c : Change) (left : Seen) (come : comes c ≡ true)
    (directory : EachDone new all (making_directory new (p, c)) left) (file : EachDone new all (making_file new (p, c)) left) where
  made_there : (node : BaseNode) → get_in new p ≡ Some node → IsAtPlace node (left p)
  made_there (FileNode r q t ps) found =
      let is : making_file new (p, c) ≡ InstallFile p ∷ [] =
      ap (λ b. if b && not (is_dir (get_in new p)) then InstallFile p ∷ [] else []) come
      ∙ ap (λ (n : Option BaseNode). if true && not (is_dir n) then InstallFile p ∷ [] else []) found in
      file_there new p r q t ps left found (subst (λ (xs : List Work). EachDone new all xs left) is file).0
  made_there (DirNode r q u ps) found =
      let is : making_directory new (p, c) ≡ MakeDirectory p ∷ [] =
      ap (λ b. if b && is_dir (get_in new p) then MakeDirectory p ∷ [] else []) come
      ∙ ap (λ (n : Option BaseNode). if true && is_dir n then MakeDirectory p ∷ [] else []) found in
      (subst (λ (xs : List Work). EachDone new all xs left) is directory).0
  made_there NotPresent found = tt

gone_there : (old new : List (Path × BaseNode)) (all : List Work) (p : Path) (c : Change) (left : Seen) → goes c ≡ true → is_dir (get_in old p) ≡ false
    → list_any (comes_at p) all ≡ false → EachDone new all (removing_file old (p, c)) left → has_leaf (left p) ≡ false
gone_there old new all p c left go file none done =
    let is : removing_file old (p, c) ≡ RemoveFile p ∷ [] =
    ap (λ b. if b && not (is_dir (get_in old p)) then RemoveFile p ∷ [] else []) go ∙ ap (λ b. if true && not b then RemoveFile p ∷ [] else []) file in
    (subst (λ (xs : List Work). EachDone new all xs left) is done).0 none

-- what comes nowhere in the changes comes nowhere in their work
no_making : (p q : Path) (d : Bool) (c : Change) → (comes c && path_eq q p) ≡ false
    → (list_any (comes_at p) (if comes c && d then MakeDirectory q ∷ [] else []) ≡ false)
    × (list_any (comes_at p) (if comes c && not d then InstallFile q ∷ [] else []) ≡ false)
no_making p q d c none = by (comes c) d none
  where
    by : (b e : Bool) → (b && path_eq q p) ≡ false
        → (list_any (comes_at p) (if b && e then MakeDirectory q ∷ [] else []) ≡ false) × (list_any (comes_at p) (if b && not e then InstallFile q ∷ [] else []) ≡ false)
    by true true h = (ap (λ x. x || false) h, refl)
    by true false h = (refl, ap (λ x. x || false) h)
    by false e h = (refl, refl)

no_makings : (p : Path) (new : List (Path × BaseNode)) (changes : List PathChange) → list_any (comes_to p) changes ≡ false
    → (list_any (comes_at p) (flat_map (making_directory new) (map pair_of changes)) ≡ false)
    × (list_any (comes_at p) (flat_map (making_file new) (map pair_of changes)) ≡ false)
unfolding pair_of
no_makings p new [] none = (refl, refl)
no_makings p new (change ∷ changes) none =
    let parts = or_parts (comes_to p change) (list_any (comes_to p) changes) none in
    let here = no_making p change.path (is_dir (get_in new change.path)) change.change parts.0 in
    let rest = no_makings p new changes parts.1 in (
      list_any-append (comes_at p) (making_directory new (pair_of change)) (flat_map (making_directory new) (map pair_of changes))
          ∙ ap (λ b. b || list_any (comes_at p) (flat_map (making_directory new) (map pair_of changes))) here.0 ∙ rest.0,
      list_any-append (comes_at p) (making_file new (pair_of change)) (flat_map (making_file new) (map pair_of changes))
          ∙ ap (λ b. b || list_any (comes_at p) (flat_map (making_file new) (map pair_of changes))) here.1 ∙ rest.1,
    )

-- nothing comes in work that goes
no_removal : (p : Path) (work : List Work) → list_all is_removal work ≡ true → list_any (comes_at p) work ≡ false
no_removal p [] all = refl
no_removal p (MakeDirectory q ∷ work) all = absurd (true≢false (sym all))
no_removal p (InstallFile q ∷ work) all = absurd (true≢false (sym all))
no_removal p (RemoveFile q ∷ work) all = no_removal p work all
no_removal p (RemoveDirectory q ∷ work) all = no_removal p work all

each_changed : (old new : List (Path × BaseNode)) (all : List Work) (listed changes : List PathChange) (left : Seen)
    → ((p : Path) → list_any (comes_to p) listed ≡ false → list_any (comes_at p) all ≡ false)
    → EachDone new all (flat_map (making_directory new) (map pair_of changes)) left → EachDone new all (flat_map (making_file new) (map pair_of changes)) left
    → EachDone new all (flat_map (removing_file old) (map pair_of changes)) left → EachChanged old new listed changes left
unfolding pair_of
each_changed old new all listed [] left none directories files gone = tt
each_changed old new all listed (change ∷ changes) left none directories files gone =
    let ds = done_parts new all (making_directory new (pair_of change)) (flat_map (making_directory new) (map pair_of changes)) left directories in
    let fs = done_parts new all (making_file new (pair_of change)) (flat_map (making_file new) (map pair_of changes)) left files in
    let gs = done_parts new all (removing_file old (pair_of change)) (flat_map (removing_file old) (map pair_of changes)) left gone in (
      record {
        there = λ come node found. made_there new all change.path change.change left come ds.0 fs.0 node found;
        gone = λ go file free. gone_there old new all change.path change.change left go file (none change.path free) gs.0;
      },
      each_changed old new all listed changes left none ds.1 fs.1 gs.1,
    )

-- all of them
pub changes_done : (old new : List (Path × BaseNode)) (entries : List (Path × Change)) (changes : List PathChange) (left : Seen)
    → map (λ (change : PathChange). (change.path, change.change)) changes ≡ entries
    → EachDone new (removals_of old entries ++ makings_of new entries) (removals_of old entries ++ makings_of new entries) left → AreChanged old new changes left
unfolding pair_of
changes_done old new entries changes left is done =
    let E = map pair_of changes in
    let all = removals_of old E ++ makings_of new E in
    let whole : EachDone new all all left = subst (λ (xs : List (Path × Change)). EachDone new (removals_of old xs ++ makings_of new xs) (removals_of old xs ++ makings_of new xs) left)
    (sym is) done in
    let parts = done_parts new all (removals_of old E) (makings_of new E) left whole in
    let going = done_parts new all (flat_map (removing_file old) E) (reverse (flat_map (removing_directory old) E)) left parts.0 in
    let coming = done_parts new all (flat_map (making_directory new) E) (flat_map (making_file new) E) left parts.1 in
    each_changed old new all changes changes left
    (λ p free.
    let makings = no_makings p new changes free in
    list_any-append (comes_at p) (removals_of old E) (makings_of new E)
    ∙ ap (λ b. b || list_any (comes_at p) (makings_of new E))
    (no_removal p (removals_of old E) (all_go old E))
    ∙ list_any-append (comes_at p) (flat_map (making_directory new) E) (flat_map (making_file new) E)
    ∙ ap (λ b. b || list_any (comes_at p) (flat_map (making_file new) E)) makings.0 ∙ makings.1)
    coming.0 coming.1 going.0

-- ---- of what is returned

pub on_value : {T : Type 0} → {E : Type 0} → (P Q : T → Type 0) (result : Result T E) → ((value : T) → P value → Q value) → IfOk result P → IfOk result Q
on_value P Q (Ok value) law h = law value h
on_value P Q (Err fault) law h = tt

pub on_both : {T : Type 0} → {E : Type 0} → (P Q : T → Type 0) (result : Result T E) → IfOk result P → IfOk result Q → IfOk result (λ value. P value × Q value)
on_both P Q (Ok value) p q = (p, q)
on_both P Q (Err fault) p q = tt
