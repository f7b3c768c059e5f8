-- Journals of databases.
--     journal_fault journal      why a database with a journal of so many bytes isn't read
use Rattle.std.specs.Prelude.{ℕ, nat_eq, Option, Some, None, if◌then◌else◌}
use Rattle.svn_answers.specs.declared.busy.BusyFault.{BusyFault}
use Rattle.svn_answers.specs.declared.busy.BusyFault.TheVariants.{Journal}

-- a transaction was begun, and hasn't ended
abbrev pub journal_fault : ℕ → Option BusyFault
journal_fault journal = if nat_eq journal 0 then None else Some Journal
