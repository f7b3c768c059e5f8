-- A completion, and what is shown once its work is done.
use Rattle.std.proofs.Common.{◌≡◌, true, ℕ, ◌+◌, ◌<◌, ◌^◌, List, [], ◌∷◌, ◌++◌, length, take, drop, get_or, min, refl, sym, ◌∙◌, ap, subst, arith}
use Rattle.std.specs.Prelude.{codes, Result, Ok, Err, OnOk, ⊤}
use Rattle.std.specs.List.{list_all}
use Rattle.std.proofs.lemmas.List.{take_more, length-append}
use Rattle.std.proofs.Math.Seq.{take-length}
use Rattle.svn_types.specs.Names.{Path}
use Rattle.svn_types.proofs.NameLemmas.{Name}
use Rattle.svn_model.specs.declared.base_node.BaseNode.{BaseNode}
use Rattle.svn_model.specs.declared.base_node.BaseNode.TheVariants.{File as FileNode, Dir as DirNode, NotPresent}
use Rattle.svn_model.specs.Nodes.{get_in}
use Rattle.svn_wcdb.specs.declared.table.TableRow.{TableRow}
use Rattle.svn_wcrows.specs.declared.work.Work.{Work}
use Rattle.svn_wcrows.specs.declared.work.Work.TheVariants.{MakeDirectory, InstallFile, RemoveFile, RemoveDirectory}
use Rattle.svn_wcrows.specs.Work.{AreItems}
use Rattle.svn_wcrows.specs.Tables.{AllRows}
use Rattle.svn_folder.specs.declared.step.Step.{Step}
use Rattle.svn_folder.specs.States.{Seen, State, seen}
use Rattle.svn_folder.specs.Steps.{run}
use Rattle.svn_folder.specs.Pasts.{Past, Known}
use Rattle.svn_folder.proofs.Apart.{run_apart}
use Rattle.svn_disk.specs.Goes.{IsAlways, Keeps}
use Rattle.svn_disk.specs.Places.{is_temporary, text_below, text_place, database_place}
use Rattle.svn_disk.specs.Plans.{path_of}
use Rattle.svn_disk.specs.Tasks.{IsParted, removals_in, makings_in, work_node, work_nodes}
use Rattle.svn_disk.specs.Crashes.{IsTextIn, IsTextAt, OfText, EachText, HasDatabase, IsDatabaseOf, AreNodesOf}
use Rattle.svn_disk.specs.declared.task.Task.{Task}
use Rattle.svn_disk.specs.Queue.{HasDatabaseRows}
use Rattle.svn_disk.specs.Ends.{Turns, AreCopied, AreReady, AreFiles, AreCarried, HasText, IsDone, EachDone, IsCompleted}
use Rattle.svn_disk.proofs.Beside.{each_off, temporary_beside}
use Rattle.svn_disk.proofs.Whole.{each_text, same_text}
use Rattle.svn_disk.proofs.Reading.{each_present}
use Rattle.svn_disk.proofs.Copies.{one_database, same_copies}
use Rattle.svn_disk.proofs.Queue.{always_same}
use Rattle.svn_disk.proofs.Ends.{keeps_turns, turns_when, turns_along}
use Rattle.svn_disk.proofs.EndsTexts.{count_at_most, AreComing}
use Rattle.svn_disk.proofs.EndsCopy.{each_ready}
use Rattle.svn_disk.proofs.EndsDone.{turns_both, carried_done}

abbrev svn : Name
svn = codes ".svn"

-- ---- texts that are looked at

pub no_text : (node : BaseNode) → OfText (λ name. ⊤) node
no_text (FileNode r q t ps) = tt
no_text (DirNode r q c ps) = tt
no_text NotPresent = tt

texts_next : (P : List ℕ → Type 0) (copy : List (Path × BaseNode)) (some : List Work) (x : Work) → EachText P (work_nodes copy some) → OfText P (work_node copy x)
    → EachText P (work_nodes copy (some ++ x ∷ []))
texts_next P copy [] x texts is = (is, tt)
texts_next P copy (item ∷ some) x texts is = (texts.0, texts_next P copy some x texts.1 is)

-- by the index of the next item
pub texts_more : (P : List ℕ → Type 0) (copy : List (Path × BaseNode)) (work : List Work) (k : ℕ) (x : Work) → k < length work → x ≡ get_or work k x
    → EachText P (work_nodes copy (take k work)) → OfText P (work_node copy x) → EachText P (work_nodes copy (take (k + 1) work))
texts_more P copy work k x below is texts here =
    subst (λ (xs : List Work). EachText P (work_nodes copy xs)) (ap (λ (y : Work). take k work ++ y ∷ []) is ∙ sym (take_more work k x below))
    (texts_next P copy (take k work) x texts here)

pub texts_all : (P : List ℕ → Type 0) (copy : List (Path × BaseNode)) (work : List Work) (k : ℕ) → k ≡ length work → EachText P (work_nodes copy (take k work))
    → EachText P (work_nodes copy work)
texts_all P copy work k is texts = subst (λ (xs : List Work). EachText P (work_nodes copy xs)) (ap (λ j. take j work) is ∙ take-length work) texts

-- the number of the next file is small
pub number_below : (n : Name) (P : List ℕ → Type 0) (files : ℕ) (rest all : List (Path × BaseNode)) (old new : Past) → length all < 2 ^ 63
    → AreComing n P files rest all old new → files < 2 ^ 64
number_below n P files rest all old new few coming =
    let most = count_at_most coming.done in
    let parts = sym (length-append coming.done rest) ∙ ap length coming.split in
    let count = coming.count in
    omega (arith, most, parts, count, few)

-- ---- files that are prepared from them

abbrev pub AreTextsSame : Name → Seen → Seen → Type 0
AreTextsSame n before left = (t : List ℕ) → left (text_place n t) ≡ before (text_place n t)

temporary_texts : (n : Name) (s : State) (more : List Step) → list_all (is_temporary n) more ≡ true → AreTextsSame n (seen s) (seen (run s more))
temporary_texts n s more each t =
    run_apart s more (text_place n t) (each_off (is_temporary n) (text_place n t) (temporary_beside n (codes "pristine") (text_below t) refl) more each)

-- the texts were there before, and each file was copied from its text
pub ready_since : (n : Name) (nodes : List (Path × BaseNode)) (old new : Past) → IsAlways (λ s. EachText (IsTextIn n (seen s)) nodes) old
    → Keeps (is_temporary n) old new → Turns (λ a b. AreCopied n 0 nodes b) old new → Turns (λ a b. AreReady n 0 nodes b) old new
ready_since n nodes old new texts keeps copied =
    turns_when (λ s. EachText (IsTextIn n (seen s)) nodes) (λ a b. AreCopied n 0 nodes b × AreTextsSame n a b) (λ a b. AreReady n 0 nodes b) old new texts
    (λ s b each both.
    each_ready n 0 nodes b both.0
    (each_present (IsTextIn n b) nodes
    (each_text (IsTextIn n (seen s)) (IsTextIn n b) (λ t is. same_text t (seen s (text_place n t)) (b (text_place n t)) (both.1 t) is) nodes each)))
    (turns_both copied (keeps_turns (AreTextsSame n) (is_temporary n) old new (temporary_texts n) keeps))

-- ---- all of the work of a task

pub task_done : (rows : List TableRow) (copy : List (Path × BaseNode)) (task : Task) (a b c : Seen) → AreItems rows task.work.items → IsParted task
    → AreFiles copy (makings_in task) → AreReady svn 0 (work_nodes copy (makings_in task)) b → AreCarried svn (removals_in task) (makings_in task) b c
    → IsCompleted rows copy c
task_done rows copy task a b c items parted files ready carried = record {
  work = task.work.items;
  are = items;
  done = carried_done copy (min task.removals (length task.work.items)) task.work.items b c parted.removals parted.makings files ready carried;
}

-- ---- what the database of the folder says

item_of : (one two : List (Path × BaseNode)) → ((p : Path) → get_in one p ≡ get_in two p) → (all : List Work) (item : Work) (left : Seen) → IsDone one all item left
    → IsDone two all item left
item_of one two same all (MakeDirectory p) left is = is
item_of one two same all (InstallFile p) left is = record {
  text = is.text;
  is = record { node = is.is.node; found = sym (same p) ∙ is.is.found; text = is.is.text };
  there = is.there;
}
item_of one two same all (RemoveFile p) left is = is
item_of one two same all (RemoveDirectory p) left is = tt

each_of : (one two : List (Path × BaseNode)) → ((p : Path) → get_in one p ≡ get_in two p) → (all work : List Work) (left : Seen) → EachDone one all work left
    → EachDone two all work left
each_of one two same all [] left done = tt
each_of one two same all (item ∷ work) left done = (item_of one two same all item left done.0, each_of one two same all work left done.1)

pub completed_read : (one two : AllRows) (mine copy nodes : List (Path × BaseNode)) (old new : Past) → IsAlways (HasDatabaseRows one) old
    → IsAlways (HasDatabaseRows two) old → AreNodesOf mine nodes → IsAlways (λ s. IsDatabaseOf nodes (seen s (database_place svn))) old
    → IsAlways (HasDatabase copy) old → Turns (λ a b. IsCompleted one.work_queue mine b) old new → Turns (λ a b. IsCompleted two.work_queue copy b) old new
completed_read one two mine copy nodes old new a b are database has turns = record {
  each = λ s steps is.
      let t = turns.each s steps is in
      let found = has s steps is in
      let listed = one_database found.nodes nodes (seen (run s steps) (database_place svn)) found.database (database s steps is) in
      let same = same_copies mine copy nodes are (subst (AreNodesOf copy) listed found.are) in
      let left = seen (run t.state t.steps) in
      record {
        state = t.state;
        steps = t.steps;
        past = t.past;
        turns = record {
          work = t.turns.work;
          are = subst (λ (rows : AllRows). AreItems rows.work_queue t.turns.work) (always_same one two old a b s steps is) t.turns.are;
          done = each_of mine copy same t.turns.work t.turns.work left t.turns.done;
        };
      };
}
