-- What the code holds of what is asked for, as the definitions have it.
use Rattle.svn_commands.specs.declared.locations.Asked.{Asked as HeldPlaces}
use Rattle.svn_commands.specs.declared.locations.Range.{Range as HeldRange}
use Rattle.svn_commands.specs.declared.log.LogAsked.{LogAsked}
use Rattle.svn_commands.specs.declared.log_fields.Names.{Names as HeldNames}
use Rattle.svn_commands.specs.declared.log_fields.Names.TheVariants.{Usual, Every, Named}
use Rattle.svn_commands.specs.declared.log_fields.Wanted.{Wanted as HeldWanted}
use Rattle.svn_commands.specs.Locations.{Asked, Range}
use Rattle.svn_commands.specs.Log.{Asked as AskedLog}
use Rattle.svn_commands.specs.LogFields.{Names, usual, every, named, Wanted}

abbrev pub asked_as : HeldPlaces → Asked
asked_as a = record { peg = a.peg; path = a.path; revs = a.revs.now }

abbrev pub range_as : HeldRange → Range
range_as r = record { peg = r.peg; path = r.path; first = r.first; last = r.last }

-- ---- log

abbrev pub names_as : HeldNames → Names
names_as Usual = usual
names_as Every = every
names_as (Named names) = named names.now

abbrev pub wanted_as : HeldWanted → Wanted
wanted_as w = record { changes = w.changes; strict = w.strict; limit = w.limit; names = names_as w.names }

abbrev pub log_as : LogAsked → AskedLog
log_as a = record { paths = a.paths.items; start = a.start; end = a.end; wanted = wanted_as a.wanted }
