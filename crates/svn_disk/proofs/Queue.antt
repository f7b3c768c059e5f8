-- What the rows of a database are, and the work that its queue names.
use Rattle.std.proofs.Common.{◌≡◌, ℕ, Bool, true, false, ◌&&◌, ◌||◌, inl, inr, List, [], ◌∷◌, ◌++◌, map, refl, sym, ◌∙◌, ap, subst}
use Rattle.std.specs.Prelude.{bytes_eq, codes, Option, Some, None, Result, Ok, Err}
use Rattle.std.specs.List.{list_all, list_any}
use Rattle.std.proofs.lemmas.Bool.{and_parts}
use Rattle.svn_types.specs.Names.{Path}
use Rattle.svn_disk.proofs.Moving.{same_name}
use Rattle.svn_wcdb.specs.declared.table.TableRow.{TableRow}
use Rattle.svn_wcrows.specs.declared.work.Work.{Work}
use Rattle.svn_wcrows.specs.declared.work.Work.TheVariants.{MakeDirectory, InstallFile, RemoveFile, RemoveDirectory}
use Rattle.svn_wcrows.specs.Work.{work_bytes, list_in, AreItems}
use Rattle.svn_wcrows.specs.Tables.{AllRows, tables_of}
use Rattle.svn_folder.specs.declared.entry.Entry.{Entry}
use Rattle.svn_folder.specs.declared.step.Step.{Step}
use Rattle.svn_folder.specs.States.{State, seen}
use Rattle.svn_folder.specs.Steps.{run}
use Rattle.svn_folder.specs.Pasts.{Past, Known}
use Rattle.svn_disk.specs.Goes.{IsAlways, Stands, Ends, Keeps, Stops, Goes}
use Rattle.svn_disk.specs.Places.{is_outside, is_doing, database_place}
use Rattle.svn_disk.specs.Plans.{path_of}
use Rattle.svn_model.specs.declared.base_node.BaseNode.{BaseNode}
use Rattle.svn_disk.specs.Spared.{GoesIn, Spares, texts_in, texts_of_either}
use Rattle.svn_disk.proofs.Sparing.{spares_if}
use Rattle.svn_disk.specs.Queue.{HasRows, HasDatabaseRows, is_list, is_left, is_queued}

-- ---- one database has one set of rows

pub same_rows : (one two : AllRows) (found : Option Entry) → HasRows one found → HasRows two found → one ≡ two
same_rows one two found a b = cc

pub always_same : (one two : AllRows) (now : Past) → IsAlways (HasDatabaseRows one) now → IsAlways (HasDatabaseRows two) now
    → (s : State) (steps : List Step) → now ≡ Known s steps → one ≡ two
always_same one two now a b s steps is = same_rows one two (seen (run s steps) (database_place (codes ".svn"))) (a s steps is) (b s steps is)

-- ---- the items of rows are in the queue

or_left : (a b : Bool) → a ≡ true → (a || b) ≡ true
or_left true b h = refl
or_left false b h = ap (λ x. x || b) h

or_right : (a b : Bool) → b ≡ true → (a || b) ≡ true
or_right true b h = refl
or_right false b h = h

all_wider : (P Q : Work → Bool) → ((work : Work) → P work ≡ true → Q work ≡ true) → (items : List Work) → list_all P items ≡ true → list_all Q items ≡ true
all_wider P Q f [] h = refl
all_wider P Q f (work ∷ items) h =
    let parts = and_parts (P work) (list_all P items) h in
    ap (λ b. b && list_all Q items) (f work parts.0) ∙ all_wider P Q f items parts.1

row_left : (row : TableRow) (work : Work) → list_in row.bytes ≡ Some (work_bytes work) → is_list (work_bytes work) (list_in row.bytes) ≡ true
row_left row work is = ap (is_list (work_bytes work)) is ∙ same_name (work_bytes work)

items_left : (rows : List TableRow) (items : List Work) → AreItems rows items → list_all (is_left rows) items ≡ true
items_left rows [] are = refl
items_left [] (work ∷ items) are = absurd cc
items_left (row ∷ rows) (work ∷ items) are =
    let here : list_in row.bytes ≡ Some (work_bytes work) = cc in
    let rest : AreItems rows items = cc in
    ap (λ b. b && list_all (is_left (row ∷ rows)) items) (or_left (is_list (work_bytes work) (list_in row.bytes)) (is_left rows work) (row_left row work here))
    ∙ all_wider (is_left rows) (is_left (row ∷ rows)) (λ other h. or_right (is_list (work_bytes other) (list_in row.bytes)) (is_left rows other) h) items
    (items_left rows items rest)

or_third : (a b c d : Bool) → c ≡ true → (a || b || c || d) ≡ true
or_third true b c d h = refl
or_third false true c d h = refl
or_third false false c d h = or_left c d h

or_fourth : (a b c d : Bool) → d ≡ true → (a || b || c || d) ≡ true
or_fourth true b c d h = refl
or_fourth false true c d h = refl
or_fourth false false c d h = or_right c d h

one_queued : (rows : List TableRow) (work : Work) → is_outside (path_of work) ≡ true → is_left rows work ≡ true → is_queued rows (path_of work) ≡ true
one_queued rows (MakeDirectory p) out left =
    ap (λ b. b && (is_left rows (MakeDirectory p) || is_left rows (InstallFile p) || is_left rows (RemoveFile p) || is_left rows (RemoveDirectory p))) out
    ∙ ap (λ b. b || is_left rows (InstallFile p) || is_left rows (RemoveFile p) || is_left rows (RemoveDirectory p)) left
one_queued rows (InstallFile p) out left =
    ap (λ b. b && (is_left rows (MakeDirectory p) || is_left rows (InstallFile p) || is_left rows (RemoveFile p) || is_left rows (RemoveDirectory p))) out
    ∙ ap (λ b. b || is_left rows (RemoveFile p) || is_left rows (RemoveDirectory p)) (or_right (is_left rows (MakeDirectory p)) (is_left rows (InstallFile p)) left)
one_queued rows (RemoveFile p) out left =
    ap (λ b. b && (is_left rows (MakeDirectory p) || is_left rows (InstallFile p) || is_left rows (RemoveFile p) || is_left rows (RemoveDirectory p))) out
    ∙ or_third (is_left rows (MakeDirectory p)) (is_left rows (InstallFile p)) (is_left rows (RemoveFile p)) (is_left rows (RemoveDirectory p)) left
one_queued rows (RemoveDirectory p) out left =
    ap (λ b. b && (is_left rows (MakeDirectory p) || is_left rows (InstallFile p) || is_left rows (RemoveFile p) || is_left rows (RemoveDirectory p))) out
    ∙ or_fourth (is_left rows (MakeDirectory p)) (is_left rows (InstallFile p)) (is_left rows (RemoveFile p)) (is_left rows (RemoveDirectory p)) left

each_queued : (rows : List TableRow) (items : List Work) → list_all (λ work. is_outside (path_of work)) items ≡ true → list_all (is_left rows) items ≡ true
    → list_all (λ work. is_queued rows (path_of work)) items ≡ true
each_queued rows [] out left = refl
each_queued rows (work ∷ items) out left =
    let outs = and_parts (is_outside (path_of work)) (list_all (λ item. is_outside (path_of item)) items) out in
    let lefts = and_parts (is_left rows work) (list_all (is_left rows) items) left in
    ap (λ b. b && list_all (λ item. is_queued rows (path_of item)) items) (one_queued rows work outs.0 lefts.0) ∙ each_queued rows items outs.1 lefts.1

pub items_queued : (rows : List TableRow) (items : List Work) → AreItems rows items → list_all (λ work. is_outside (path_of work)) items ≡ true
    → list_all (λ work. is_queued rows (path_of work)) items ≡ true
items_queued rows items are out = each_queued rows items out (items_left rows items are)

-- ---- steps at what the database of the folder has in its queue

module _ (P Q : Step → Bool) (old new : Past) (same : (s : State) (steps : List Step) → old ≡ Known s steps → P ≡ Q) where
  keeps_if : Keeps P old new → Keeps Q old new
  keeps_if keeps = record {
    each = λ s steps stands.
        let is = same s (steps ++ stands.more) stands.past in
        subst (λ (R : Step → Bool). Stands R s steps new) is (keeps.each s steps (subst (λ (R : Step → Bool). Stands R s steps old) (sym is) stands));
  }

  stops_if : Stops P old new → Stops Q old new
  stops_if stops = record {
    each = λ s steps stands.
        let is = same s (steps ++ stands.more) stands.past in
        subst (λ (R : Step → Bool). Ends R s steps new) is (stops.each s steps (subst (λ (R : Step → Bool). Stands R s steps old) (sym is) stands));
  }

  pub goes_if : {T : Type 0} → {E : Type 0} → (result : Result T E) → Goes P old result new → Goes Q old result new
  goes_if (Ok value) goes = (keeps_if goes.0, tt)
  goes_if (Err fault) goes = (tt, stops_if goes.1)

pub queue_read : {T : Type 0} → {E : Type 0} → (one two : AllRows) (old new : Past) (result : Result T E) → IsAlways (HasDatabaseRows one) old
    → IsAlways (HasDatabaseRows two) old → Goes (is_doing (codes ".svn") (is_queued one.work_queue)) old result new
    → Goes (is_doing (codes ".svn") (is_queued two.work_queue)) old result new
queue_read one two old new result a b goes =
    goes_if (is_doing (codes ".svn") (is_queued one.work_queue)) (is_doing (codes ".svn") (is_queued two.work_queue)) old new
    (λ s steps is. ap (λ (rows : AllRows). is_doing (codes ".svn") (is_queued rows.work_queue)) (always_same one two old a b s steps is)) result goes

-- ---- what is spared is what the database of the folder doesn't keep

module _ {T : Type 0} {E : Type 0} (one two : AllRows) (old new : Past) (result : Result T E) (a : IsAlways (HasDatabaseRows one) old)
    (b : IsAlways (HasDatabaseRows two) old) where
  pub spares_read : GoesIn (Spares (texts_in one.pristine) (codes ".svn")) old result new → GoesIn (Spares (texts_in two.pristine) (codes ".svn")) old result new
  spares_read goes =
      spares_if (codes ".svn") (texts_in one.pristine) (texts_in two.pristine) old new
      (λ s steps is. ap (λ (rows : AllRows). texts_in rows.pristine) (always_same one two old a b s steps is)) result goes

  pub either_read : (copy : List (Path × BaseNode)) → GoesIn (Spares (texts_of_either one.pristine copy) (codes ".svn")) old result new
      → GoesIn (Spares (texts_of_either two.pristine copy) (codes ".svn")) old result new
  either_read copy goes =
      spares_if (codes ".svn") (texts_of_either one.pristine copy) (texts_of_either two.pristine copy) old new
      (λ s steps is. ap (λ (rows : AllRows). texts_of_either rows.pristine copy) (always_same one two old a b s steps is)) result goes
