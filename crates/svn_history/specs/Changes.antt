-- The changes that the records of a revision stand for.
--     record_changes texts node      those of one record
--     revision_changes texts nodes      those of the records of a revision, one after another
use Rattle.std.specs.Prelude.{ℕ, not, List, [], ◌∷◌, fold, is_some, Option, Some, None, Err, if◌then◌else◌}
use Rattle.svn_types.specs.declared.kind.Kind.{Kind}
use Rattle.svn_types.specs.declared.kind.Kind.TheVariants.{File, Directory}
use Rattle.svn_types.specs.Names.{Path}
use Rattle.svn_types.specs.Props.{PropChange, changes_between}
use Rattle.svn_repo.specs.declared.change.Change.{Change}
use Rattle.svn_repo.specs.declared.change.Change.TheVariants.{MakeDir, PutFile, SetProp, Remove, CopyFrom}
use Rattle.svn_repo.specs.declared.change.CommitFault.TheVariants.{Exists, Missing}
use Rattle.svn_repo.specs.Trees.{Place}
use Rattle.svn_repo.specs.Transactions.{text_or_empty}
use Rattle.svn_dump.specs.declared.record.Action.{Action}
use Rattle.svn_dump.specs.declared.record.Action.TheVariants as actions
use Rattle.svn_dump.specs.declared.record.CopySource.{CopySource}
use Rattle.svn_dump.specs.declared.record.NodeRecord.{NodeRecord}
use Rattle.svn_dump.specs.declared.record.PropSection.{PropSection}
use Rattle.svn_dump.specs.declared.record.PropSection.TheVariants as props
use Rattle.svn_dump.specs.declared.record.TextSection.{TextSection}
use Rattle.svn_dump.specs.declared.record.TextSection.TheVariants as text
use Rattle.svn_dump.specs.declared.sections.Texts.{Texts}
use Rattle.svn_dump.specs.Sections.{kept}
use Rattle.svn_history.specs.declared.fault.LoadFault.TheVariants as faults
use Rattle.svn_history.specs.Results.{◌>>=◌}
use Rattle.svn_history.specs.Steps.{Draft, Step, nothing, refused, one, ◌>>◌}
use Rattle.svn_history.specs.Deltas.{text_after}

-- what is at the path
abbrev pub at : Draft → Path → Option Place
at d path = d.pending.tree path

-- ---- texts

-- a delta is one of the text before, which is empty where no file is
abbrev pub put_text : Path → Option TextSection → Step
put_text path None = nothing
put_text path (Some (text.Whole bytes)) = one (PutFile path bytes)
put_text path (Some (text.Delta delta)) = λ d. text_after (text_or_empty (at d path)) delta >>= λ bytes. one (PutFile path bytes) d

-- a file without a text has no bytes, or their stand-in
abbrev pub text_of_file : Texts → Option TextSection → TextSection
text_of_file texts None = text.Whole (kept texts [])
text_of_file texts (Some section) = section

-- ---- properties

abbrev pub props_or_none : Option Place → List (List ℕ × List ℕ)
props_or_none None = []
props_or_none (Some place) = place.props

abbrev pub set_prop : Path → PropChange → Change
set_prop path change = SetProp path change.0 change.1

abbrev pub set_props : Path → List PropChange → Step
set_props path [] = nothing
set_props path (c ∷ cs) = one (set_prop path c) >> set_props path cs

-- a whole section is all that the node then has
abbrev pub prop_changes : List (List ℕ × List ℕ) → Option PropSection → List PropChange
prop_changes old None = []
prop_changes old (Some (props.Whole all)) = changes_between old all
prop_changes old (Some (props.Delta changes)) = changes

abbrev pub put_props : Path → Option PropSection → Step
put_props path section d = set_props path (prop_changes (props_or_none (at d path)) section) d

-- ---- nodes that are made

-- `PutFile` would replace the text of a file that is there, so an add over one is refused here
abbrev pub new_file : Texts → NodeRecord → Step
new_file texts node d =
    if is_some (at d node.path) then Err (faults.Commit Exists) else put_text node.path (Some (text_of_file texts node.text)) d

-- a copy, a directory or a file; with a text, only a file goes
abbrev pub creation : Texts → NodeRecord → Step
creation texts node = creation_by node.source node.kind
  where
    creation_by : Option CopySource → Option Kind → Step
    creation_by (Some source) kind = one (CopyFrom source.rev source.path node.path) >> put_text node.path node.text
    creation_by None (Some Directory) = one (MakeDir node.path) >> put_text node.path node.text
    creation_by None (Some File) = new_file texts node
    creation_by None None = refused faults.NoKind

abbrev pub addition : Texts → NodeRecord → Step
addition texts node = creation texts node >> put_props node.path node.props

-- ---- nodes that are there

-- a property set to the value that it has, if there is one
abbrev pub same_again : List (List ℕ × List ℕ) → List PropChange
same_again [] = []
same_again (p ∷ ps) = (p.0, Some p.1) ∷ []

abbrev pub or_again : List (List ℕ × List ℕ) → List PropChange → List PropChange
or_again old [] = same_again old
or_again old (c ∷ cs) = c ∷ cs

-- A whole section sets each property that the node then has, also to the value that it has: so the node is one of this revision.
abbrev pub altered_props : List (List ℕ × List ℕ) → Option PropSection → List PropChange
altered_props old None = []
altered_props old (Some (props.Whole all)) = or_again old (changes_between old all)
altered_props old (Some (props.Delta changes)) = changes

abbrev pub alter_props : Path → Option PropSection → Step
alter_props path section d = set_props path (altered_props (props_or_none (at d path)) section) d

-- a record without a text that sets and removes no property does nothing
abbrev pub alteration : NodeRecord → Step
alteration node d =
    if not (is_some (at d node.path)) then Err (faults.Commit Missing)
    else (put_text node.path node.text >> alter_props node.path node.props) d

abbrev pub removal : Path → Step
removal path = one (Remove path)

-- ---- records

unfoldable pub record_changes : Texts → NodeRecord → Step
record_changes texts node = by_action node.action
  where
    by_action : Action → Step
    by_action actions.Add = addition texts node
    by_action actions.Change = alteration node
    by_action actions.Delete = removal node.path
    by_action actions.Replace = removal node.path >> addition texts node

-- one record after another
abbrev pub revision_changes : Texts → List NodeRecord → Step
revision_changes texts nodes = fold (λ before node. before >> record_changes texts node) nothing nodes
