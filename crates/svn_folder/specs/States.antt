-- A folder at one moment: what each path stands for, and what of that is on the disk. What it shows is a map from paths.
use Rattle.std.specs.Prelude.{true, not, List, [], ◌∷◌, ◌++◌, Option, Some, None}
use Rattle.svn_types.specs.Names.{Path}
use Rattle.svn_folder.specs.declared.entry.Entry.{Entry}
use Rattle.svn_folder.specs.declared.entry.Entry.TheVariants.{Directory}
pub use Rattle.svn_folder.specs.declared.held.Held.{Held}
use Rattle.svn_folder.specs.Entries.{is_file}

abbrev pub Seen : Type 0
Seen = Path → Option Entry

-- what a path stands for, and what it stood for before, the oldest first, as long as its name on the disk may still stand for that
pub record Place : Type 0 where
  pub now : Held
  pub older : List Held

abbrev pub State : Type 0
State = Path → Place

-- what the folder shows
abbrev pub seen : State → Seen
seen s p = (s p).now.entry

abbrev pub nothing : Held
nothing = record { entry = None; is_synced = true }

-- an entry that was just made: the bytes of a file still have to reach the disk
abbrev pub fresh : Entry → Held
fresh e = record { entry = Some e; is_synced = not (is_file e) }

-- from now on a path stands for something else
abbrev pub becomes : Held → Place → Place
becomes held place = record { now = held; older = place.older ++ place.now ∷ [] }

-- the bytes of what is there now are on the disk
abbrev pub with_bytes : Place → Place
with_bytes place = record { now = record { entry = place.now.entry; is_synced = true }; older = place.older }

-- the name is on the disk
abbrev pub with_name : Place → Place
with_name place = record { now = place.now; older = [] }

abbrev pub vacant : Place
vacant = record { now = nothing; older = [] }

-- nothing but the folder itself
abbrev pub empty : State
empty [] = record { now = record { entry = Some Directory; is_synced = true }; older = [] }
empty (n ∷ p) = vacant
