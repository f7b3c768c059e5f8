-- Changes, written as records: one for each.
--     record_of d change      the record of a change that is made of a draft
--     records_of d changes      those of changes one after another
--     all changes      these changes, as a step
--     HasMade changes w      the changes that a writer has made since the last revision
use Rattle.std.specs.Prelude.{◌≡◌, ℕ, Bool, true, false, not, is_some, List, [], ◌∷◌, Option, Some, None, option_map, Ok, Err}
use Rattle.std.specs.List.{All, flat_map}
use Rattle.svn_types.specs.declared.kind.Kind.{Kind}
use Rattle.svn_types.specs.declared.kind.Kind.TheVariants.{File, Directory}
use Rattle.svn_types.specs.Names.{Path}
use Rattle.svn_types.specs.Props.{PropChange}
use Rattle.svn_repo.specs.declared.change.Change.{Change}
use Rattle.svn_repo.specs.declared.change.Change.TheVariants.{MakeDir, PutFile, SetProp, Remove, CopyFrom}
use Rattle.svn_repo.specs.declared.change.CommitFault.{CommitFault}
use Rattle.svn_repo.specs.Trees.{Place, Tree}
use Rattle.svn_repo.specs.History.{History}
use Rattle.svn_repo.specs.Changes.{changes_fault, latest_pending}
use Rattle.svn_repo.specs.Transactions.{OpenRevision}
use Rattle.svn_dump.specs.declared.record.Action.{Action}
use Rattle.svn_dump.specs.declared.record.Action.TheVariants as actions
use Rattle.svn_dump.specs.declared.record.CopySource.{CopySource}
use Rattle.svn_dump.specs.declared.record.NodeRecord.{NodeRecord}
use Rattle.svn_dump.specs.declared.record.PropSection.TheVariants as props
use Rattle.svn_dump.specs.declared.record.TextSection.TheVariants as text
use Rattle.svn_dump.specs.Written.{written}
use Rattle.law_dump.specs.Laws.{IsNodeRecord}
use Rattle.svn_history.specs.Steps.{Draft, draft_of, begun, with_changes, Changes, Step}
use Rattle.svn_history.specs.Results.{of_commit}

-- of nothing but a path, a kind and an action
abbrev pub bare : Path → Option Kind → Action → NodeRecord
bare path kind action = record { path = path; kind = kind; action = action; source = None; props = None; text = None }

abbrev pub directory_record : Path → NodeRecord
directory_record path =
    record { path = path; kind = Some Directory; action = actions.Add; source = None; props = Some (props.Whole []); text = None }

-- One property is set or removed: what is read then makes the node one of its revision, also where it has the value already.
abbrev pub prop_record : Path → Option Kind → PropChange → NodeRecord
prop_record path kind change =
    record { path = path; kind = kind; action = actions.Change; source = None; props = Some (props.Delta (change ∷ [])); text = None }

abbrev pub file_record : Path → List ℕ → Bool → NodeRecord
file_record path bytes true = record {
  path = path;
  kind = Some File;
  action = actions.Add;
  source = None;
  props = Some (props.Whole []);
  text = Some (text.Whole bytes);
}
file_record path bytes false = record {
  path = path;
  kind = Some File;
  action = actions.Change;
  source = None;
  props = None;
  text = Some (text.Whole bytes);
}

abbrev pub copy_record : Path → Option Kind → CopySource → NodeRecord
copy_record path kind source =
    record { path = path; kind = kind; action = actions.Add; source = Some source; props = None; text = None }

abbrev pub kind_or_none : Option Place → Option Kind
kind_or_none place = option_map (λ p. p.kind) place

-- the change makes a file where none is
abbrev pub makes_file : Tree → Change → Bool
makes_file t (PutFile path bytes) = not (is_some (t path))
makes_file t (MakeDir path) = false
makes_file t (SetProp path name value) = false
makes_file t (Remove path) = false
makes_file t (CopyFrom rev source path) = false

-- the record of a change after which the tree is this
abbrev pub record_after : Tree → Change → Bool → NodeRecord
record_after t (MakeDir path) makes = directory_record path
record_after t (PutFile path bytes) makes = file_record path bytes makes
record_after t (SetProp path name value) makes = prop_record path (kind_or_none (t path)) (name, value)
record_after t (Remove path) makes = bare path None actions.Delete
record_after t (CopyFrom rev source path) makes = copy_record path (kind_or_none (t path)) (record { rev = rev; path = source })

abbrev pub record_of : Draft → Change → NodeRecord
record_of d change = record_after (with_changes d (change ∷ [])).pending.tree change (makes_file d.pending.tree change)

abbrev pub records_of : Draft → List Change → List NodeRecord
records_of d [] = []
records_of d (c ∷ cs) = record_of d c ∷ records_of (with_changes d (c ∷ [])) cs

-- these changes, if they can be made one after another
abbrev pub all_unless : List Change → Option CommitFault → Changes
all_unless changes None = Ok changes
all_unless changes (Some fault) = Err (of_commit fault)

abbrev pub all : List Change → Step
all changes d = all_unless changes (changes_fault d.history d.pending changes)

-- ---- a history that is written while it is made

-- the repository with its next revision being made, and the records of the changes since the last one
pub record WriterState : Type 0 where
  pub transaction : OpenRevision
  pub bytes : List ℕ

-- the changes lead from the last revision of h to the draft, and the bytes are their records, which are lawful
pub record AreWritten (h : History) (changes : List Change) (draft : Draft) (bytes : List ℕ) : Type 0 where
  pub no_fault : changes_fault h (latest_pending h) changes ≡ None
  pub draft_is : draft ≡ with_changes (begun h) changes
  pub bytes_are : bytes ≡ flat_map written (records_of (begun h) changes)
  pub lawful : All IsNodeRecord (records_of (begun h) changes)

-- these are the changes that the writer has made since the last revision
abbrev pub HasMade : List Change → WriterState → Type 0
HasMade changes w = AreWritten w.transaction.history changes (draft_of w.transaction) w.bytes
