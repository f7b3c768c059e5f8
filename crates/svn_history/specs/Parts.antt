-- What a loader does with the nodes up to the next revision, or to the end: they are a part of the dump. Of a record that is refused, or that begins the
-- next revision, `at` says what holds of its place: of the revision that began last before it, and of the bytes that are left where it begins.
--     LoadsNodes limits texts at old next new, RefusesNodes limits texts at old e      the nodes' changes are made, or one of them is at fault
--     LoadsPart limits texts old new      a part is loaded: the revision that began is committed with its nodes, and the next one begins
--     RefusesPart limits texts at old e h'      why a part isn't loaded, and what the history is then
--     LoadsOne limits texts old new done, RefusesOne limits texts at old e h'      the same of one revision
--     LoadsRest limits texts old new, RefusesAll limits texts at old e h'      the same of all revisions that are left
use Rattle.std.specs.Prelude.{◌≡◌, ℕ, ◌<◌, ◌≤◌, Bool, true, false, List, length, fold, Option, Some, None, Ok, Err, nat_lt, nat_eq, nat_le, is_some, not}
use Rattle.std.specs.Prelude.{IsSome, MatchOption, if◌then◌else◌}
use Rattle.svn_repo.specs.History.{History}
use Rattle.svn_repo.specs.Changes.{IsRevision}
use Rattle.svn_dump.specs.declared.fault.Reason.{Reason}
use Rattle.svn_dump.specs.declared.fault.DumpFault.TheVariants as dump
use Rattle.svn_dump.specs.declared.record.NodeRecord.{NodeRecord}
use Rattle.svn_dump.specs.declared.record.Record.{Record}
use Rattle.svn_dump.specs.declared.record.Record.TheVariants.{Other, Revision, Node}
use Rattle.svn_dump.specs.declared.sections.Limits.{Limits}
use Rattle.svn_dump.specs.declared.sections.Texts.{Texts}
use Rattle.svn_dump.specs.Records.{record_at}
use Rattle.svn_dump.specs.Readers.{left_in}
use Rattle.svn_history.specs.declared.fault.LoadFault.{LoadFault}
use Rattle.svn_history.specs.declared.fault.LoadFault.TheVariants as faults
use Rattle.svn_history.specs.declared.loader.Loader.{Loader}
use Rattle.svn_history.specs.Results.{Fails}
use Rattle.svn_history.specs.Steps.{Draft, draft_of, begun, Step, nothing, refused, ◌>>◌, IsMade}
use Rattle.svn_history.specs.Changes.{record_changes}
use Rattle.svn_history.specs.Loading.{ReadsNodes, NodesAt, EmptyCommits, FillsGap}

-- what a loader holds: the revision that began, what was made of it, and the bytes that are left, where they are known
pub record Loading : Type 0 where
  pub rev : Option ℕ
  pub draft : Draft
  pub left : Option (List ℕ)

abbrev pub loading : {R : Type 0} → (R → Option (List ℕ)) → Loader R → Loading
loading remaining l = record { rev = l.rev; draft = draft_of l.transaction; left = left_in remaining l.records }

-- what holds of the bytes before and after, where they are known
abbrev pub IfKnown : Option (List ℕ) → Option (List ℕ) → (List ℕ → List ℕ → Type 0) → Type 0
IfKnown None left P = Unit {0}
IfKnown (Some bytes) None P = ⊥
IfKnown (Some bytes) (Some rest) P = P bytes rest

-- ---- nodes

-- a revision above 0 has begun
abbrev pub is_open : Option ℕ → Bool
is_open None = false
is_open (Some rev) = nat_lt 0 rev

-- no other revision has nodes
abbrev pub node_changes : Texts → Option ℕ → NodeRecord → Step
node_changes texts rev node = if is_open rev then record_changes texts node else refused faults.NoRevision

abbrev pub nodes_changes : Texts → Option ℕ → List NodeRecord → Step
nodes_changes texts rev nodes = fold (λ before node. before >> node_changes texts rev node) nothing nodes

-- what a record does before the next revision, whose number it may give
abbrev pub Takes : Texts → Option ℕ → Record → Draft → Draft → Option ℕ → Type 0
Takes texts rev Other old new next = (next ≡ None) × (new ≡ old)
Takes texts rev (Node node) old new next = (next ≡ None) × IsMade (node_changes texts rev node) old new
Takes texts rev (Revision number) old new next = (next ≡ Some number) × (new ≡ old)

-- only a node can be at fault
abbrev pub RefusesRecord : Texts → Option ℕ → Record → Draft → LoadFault → Type 0
RefusesRecord texts rev Other d e = ⊥
RefusesRecord texts rev (Node node) d e = Fails e (node_changes texts rev node d)
RefusesRecord texts rev (Revision number) d e = ⊥

-- the nodes up to the next revision, whose number is given, or up to the end
pub record LoadsNodes (limits : Limits) (texts : Texts) (at : Option ℕ → List ℕ → Type 0) (old : Loading) (next : Option ℕ) (new : Loading)
    : Type 0 where
  pub nodes : List NodeRecord
  pub bytes : IfKnown old.left new.left (λ bytes rest. (read : NodesAt limits texts bytes nodes next rest) × at old.rev read.mid)
  pub made : IsMade (nodes_changes texts old.rev nodes) old.draft new.draft

-- ---- one revision, and the next

-- the revision that began is committed, if it is above 0
pub data Ends (rev : Option ℕ) (d : Draft) (h : History) : Type 0 where
  commits : is_open rev ≡ true → IsRevision d.history h d.pending → Ends rev d h
  stays : is_open rev ≡ false → h ≡ d.history → Ends rev d h

-- the largest number of a revision
abbrev pub revision_limit : ℕ
revision_limit = 100000000

-- revision 0 comes first, and each other one is above those of the repository
abbrev pub may_begin : Option ℕ → ℕ → ℕ → Bool
may_begin rev count next = if nat_eq next 0 then not (is_some rev) else nat_le count next

-- why a revision can't begin where there are so many
abbrev pub begin_fault : Option ℕ → ℕ → ℕ → Option LoadFault
begin_fault rev count next =
    if nat_lt revision_limit next then Some faults.TooManyRevisions
    else if may_begin rev count next then None else Some faults.NotRising

abbrev pub next_fault : Option ℕ → ℕ → Option ℕ → Option LoadFault
next_fault rev count None = None
next_fault rev count (Some next) = begin_fault rev count next

-- a revision begins after empty commits for the numbers that are left out
pub data Begins (rev next : Option ℕ) (h h' : History) : Type 0 where
  at_end : next ≡ None → h' ≡ h → Begins rev next h h'
  revision_0 : next ≡ Some 0 → rev ≡ None → h' ≡ h → Begins rev next h h'
  revision : (number : ℕ) → next ≡ Some number → 0 < number → number ≤ revision_limit → FillsGap number h h' → Begins rev next h h'

-- the nodes are made changes of, the revision that began ends with them, and the next one begins
pub record LoadsPart (limits : Limits) (texts : Texts) (old new : Loading) : Type 0 where
  pub nodes : List NodeRecord
  pub bytes : IfKnown old.left new.left (λ bytes rest. NodesAt limits texts bytes nodes new.rev rest)
  pub read : Draft
  pub made : IsMade (nodes_changes texts old.rev nodes) old.draft read
  pub ended : History
  pub ended_is : Ends old.rev read ended
  pub filled : History
  pub begins : Begins old.rev new.rev ended filled
  pub draft : new.draft ≡ begun filled

-- ---- refusals

-- no fault of the dump
pub data IsOutside (e : LoadFault) : Type 0 where
  out_of_memory : e ≡ faults.Memory → IsOutside e
  read_fault : e ≡ faults.Dump dump.Read → IsOutside e

-- the first record that is at fault, up to the next revision
pub data NodesFault (limits : Limits) (texts : Texts) (at : Option ℕ → List ℕ → Type 0) (rev : Option ℕ) (d : Draft) (bytes : List ℕ) (e : LoadFault)
    : Type 0 where
  bad_record : (nodes : List NodeRecord) (mid : List ℕ) (read : Draft) (reason : Reason) → ReadsNodes limits texts bytes nodes mid
      → IsMade (nodes_changes texts rev nodes) d read → record_at limits texts mid ≡ Err reason → e ≡ faults.Dump (dump.Refused reason)
      → at rev mid → NodesFault limits texts at rev d bytes e
  bad_node : (nodes : List NodeRecord) (mid rest : List ℕ) (read : Draft) (node : NodeRecord) → ReadsNodes limits texts bytes nodes mid
      → IsMade (nodes_changes texts rev nodes) d read → record_at limits texts mid ≡ Ok (Some (Node node), rest)
      → node_changes texts rev node read ≡ Err e → at rev mid → NodesFault limits texts at rev d bytes e
  outside : IsOutside e → NodesFault limits texts at rev d bytes e

-- what isn't known of the bytes isn't known of the fault
abbrev pub RefusesNodes : Limits → Texts → (Option ℕ → List ℕ → Type 0) → Loading → LoadFault → Type 0
RefusesNodes limits texts at old e = MatchOption old.left (Unit {0}) (λ bytes. NodesFault limits texts at old.rev old.draft bytes e)

-- the revision that began ends with the nodes up to the next one, whose number is given; they are those of the bytes, where these are known
pub record EndsPart (limits : Limits) (texts : Texts) (at : Option ℕ → List ℕ → Type 0) (old : Loading) (next : Option ℕ) (ended : History)
    : Type 0 where
  pub nodes : List NodeRecord
  pub bytes : MatchOption old.left (Unit {0})
      (λ bytes. (rest : List ℕ) × (read : NodesAt limits texts bytes nodes next rest) × at old.rev read.mid)
  pub read : Draft
  pub made : IsMade (nodes_changes texts old.rev nodes) old.draft read
  pub ended_is : Ends old.rev read ended

-- why the next revision can't begin: its number, and no commit is made; or out of memory, and some of the empty commits before it are made
pub data RefusesNext (rev next : Option ℕ) (ended : History) (e : LoadFault) (h : History) : Type 0 where
  bad_number : next_fault rev (length ended.roots) next ≡ Some e → h ≡ ended → RefusesNext rev next ended e h
  in_gap : (number : ℕ) → next ≡ Some number → begin_fault rev (length ended.roots) number ≡ None → EmptyCommits ended h
      → length h.roots < number → e ≡ faults.Memory → RefusesNext rev next ended e h

-- a record of the revision that began is refused, and nothing of it is committed; or it is committed, and the next one is refused
pub data RefusesPart (limits : Limits) (texts : Texts) (at : Option ℕ → List ℕ → Type 0) (old : Loading) (e : LoadFault) (h : History) : Type 0
  where
    bad_nodes : RefusesNodes limits texts at old e → h ≡ old.draft.history → RefusesPart limits texts at old e h
    bad_next : (next : Option ℕ) (ended : History) → EndsPart limits texts at old next ended → RefusesNext old.rev next ended e h
        → RefusesPart limits texts at old e h

-- ---- one revision

-- the revision that began is loaded; where none had, first what is before the first one, and nothing if there is none
pub data LoadsOne (limits : Limits) (texts : Texts) (old new : Loading) (done : Option ℕ) : Type 0 where
  goes_on : IsSome old.rev → done ≡ old.rev → LoadsPart limits texts old new → LoadsOne limits texts old new done
  begins : (first : Loading) → old.rev ≡ None → LoadsPart limits texts old first → IsSome first.rev → done ≡ first.rev
      → LoadsPart limits texts first new → LoadsOne limits texts old new done
  ends : old.rev ≡ None → LoadsPart limits texts old new → new.rev ≡ None → done ≡ None → LoadsOne limits texts old new done

pub data RefusesOne (limits : Limits) (texts : Texts) (at : Option ℕ → List ℕ → Type 0) (old : Loading) (e : LoadFault) (h : History) : Type 0
  where
    at_once : RefusesPart limits texts at old e h → RefusesOne limits texts at old e h
    later : (first : Loading) → old.rev ≡ None → LoadsPart limits texts old first → IsSome first.rev → RefusesPart limits texts at first e h
        → RefusesOne limits texts at old e h

-- ---- all revisions

-- from where a revision began up to the end
pub data LoadsOn (limits : Limits) (texts : Texts) : Loading → Loading → Type 0 where
  last_part : {old new : Loading} → LoadsPart limits texts old new → new.rev ≡ None → LoadsOn limits texts old new
  one_part : {old new : Loading} (mid : Loading) → LoadsPart limits texts old mid → IsSome mid.rev → LoadsOn limits texts mid new
      → LoadsOn limits texts old new

pub data LoadsAll (limits : Limits) (texts : Texts) (old new : Loading) : Type 0 where
  no_part : LoadsPart limits texts old new → new.rev ≡ None → LoadsAll limits texts old new
  some_parts : (first : Loading) → LoadsPart limits texts old first → IsSome first.rev → LoadsOn limits texts first new
      → LoadsAll limits texts old new

-- what is left of a dump is loaded from here: first what is before the first revision, if none has begun
abbrev pub LoadsRest : Limits → Texts → Loading → Loading → Type 0
LoadsRest limits texts old new = MatchOption old.rev (LoadsAll limits texts old new) (λ _. LoadsOn limits texts old new)

-- one revision after another is loaded, and one is refused
pub data RefusesAll (limits : Limits) (texts : Texts) (at : Option ℕ → List ℕ → Type 0) : Loading → LoadFault → History → Type 0 where
  at_first : {old : Loading} {e : LoadFault} {h : History} → RefusesOne limits texts at old e h → RefusesAll limits texts at old e h
  after_one : {old : Loading} {e : LoadFault} {h : History} (mid : Loading) (done : Option ℕ) → LoadsOne limits texts old mid done
      → IsSome mid.rev → RefusesAll limits texts at mid e h → RefusesAll limits texts at old e h
