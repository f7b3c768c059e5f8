-- Laws of the definitions.
--     WrittenCommitsLoad      what is written of changes is loaded as these changes
use Rattle.std.specs.Prelude.{◌≡◌, List, None}
use Rattle.svn_repo.specs.declared.change.Change.{Change}
use Rattle.svn_repo.specs.Changes.{changes_fault}
use Rattle.svn_dump.specs.declared.sections.Texts.TheVariants.{Whole}
use Rattle.svn_history.specs.Steps.{Draft, with_changes, IsMade}
use Rattle.svn_history.specs.Changes.{revision_changes}
use Rattle.svn_history.specs.Writing.{records_of}

abbrev pub WrittenCommitsLoad : Type 0
WrittenCommitsLoad = (d : Draft) (changes : List Change) → changes_fault d.history d.pending changes ≡ None
    → IsMade (revision_changes Whole (records_of d changes)) d (with_changes d changes)
