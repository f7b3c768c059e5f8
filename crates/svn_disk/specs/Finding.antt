-- What is found at a path without reading its bytes.
--     IsFound found entry      what was found is of that entry
--     SumsTo summary found      what a summary is found to be
--     AreReadings texts entry      stand-ins of texts that a file may be
use Rattle.std.specs.Prelude.{◌≡◌, ℕ, Bool, List, [], ◌∷◌, Option, Some, None, ⊤}
use Rattle.std.specs.BTreeSet.{contains}
use Rattle.std.specs.Cmp.Lexicographic.{slice_cmp}
use Rattle.std.specs.Ordering.{nat_cmp}
use Rattle.svn_digits.specs.StandIns.{stand_in, stand_in_of}
use Rattle.svn_folder.specs.declared.entry.Mode.{Mode}
use Rattle.svn_folder.specs.declared.entry.Entry.{Entry}
use Rattle.svn_folder.specs.declared.entry.Entry.TheVariants.{File, Directory, Link}
use Rattle.svn_folder.specs.declared.summary.Summary.{Summary}
use Rattle.svn_folder.specs.declared.summary.Summary.TheVariants as summary
use Rattle.svn_disk.specs.declared.on_disk.Found.{Found}
use Rattle.svn_disk.specs.declared.on_disk.Found.TheVariants as found
use Rattle.svn_disk.specs.declared.known.KnownTexts.{KnownTexts}
use Rattle.svn_disk.specs.Readings.{IsReading}
use Rattle.svn_disk.specs.Spared.{link_text}

-- a file or a link has the text of this stand-in
abbrev pub IsLeafOf : List ℕ → Option Entry → Type 0
IsLeafOf name None = ⊥
IsLeafOf name (Some (File bytes mode)) = stand_in bytes ≡ name
IsLeafOf name (Some Directory) = ⊥
IsLeafOf name (Some (Link target)) = stand_in (link_text target) ≡ name

abbrev pub IsFound : Found → Option Entry → Type 0
IsFound found.Nothing entry = entry ≡ None
IsFound found.Directory entry = entry ≡ Some Directory
IsFound (found.Leaf name) entry = IsLeafOf name entry

abbrev pub SumsTo : Summary → Found → Type 0
SumsTo (summary.File len sum mode) f = f ≡ found.Leaf (stand_in_of sum)
SumsTo summary.Directory f = f ≡ found.Directory
SumsTo (summary.Link target) f = f ≡ found.Leaf (stand_in (link_text target))

-- the text of this stand-in is one that a file may be
pub record IsReadingOf (entry : Option Entry) (name : List ℕ) : Type 0 where
  pub bytes : List ℕ
  pub text : List ℕ
  pub mode : Mode
  pub is_file : entry ≡ Some (File bytes mode)
  pub is : IsReading bytes text
  pub named : stand_in text ≡ name

abbrev pub AreReadings : List (List ℕ) → Option Entry → Type 0
AreReadings [] entry = ⊤
AreReadings (name ∷ names) entry = IsReadingOf entry name × AreReadings names entry

-- the texts that are known
abbrev pub has_word : KnownTexts → List ℕ → Bool
has_word known t = contains (slice_cmp nat_cmp) known.words t
