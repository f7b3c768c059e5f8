-- Bytes that were given, piece by piece.
use Rattle.std.proofs.Common.{ℕ, List, [], ◌++◌, refl}
use Rattle.std.specs.Prelude.{Option, Result, Ok, Err}
use Rattle.std.specs.Io.KnownBytes.{Appends}
use Rattle.std.proofs.KnownBytes.{Appends-trans}
use Rattle.svn_types.specs.Names.{Path}
use Rattle.svn_folder.specs.declared.entry.Mode.{Mode}
use Rattle.svn_folder.specs.declared.fault.FolderFault.{FolderFault}
use Rattle.svn_folder.specs.Files.{Gives, MakesFile, CopiesFile}
use Rattle.svn_folder.specs.Pasts.{Unknown}

pub gives_more : (given now next : Option (List ℕ)) (piece : List ℕ) → Gives given now → Appends now next piece → Gives given next
gives_more given now next piece (bytes, is) more = (bytes ++ piece, Appends-trans given now next bytes piece is more)

pub gives_after : (given now next : Option (List ℕ)) (bytes piece : List ℕ) → Appends given now bytes → Appends now next piece → Gives given next
gives_after given now next bytes piece is more = (bytes ++ piece, Appends-trans given now next bytes piece is more)

-- two pieces, and more
pub gives_all : (given one two all : Option (List ℕ)) (first second : List ℕ) → Appends given one first → Appends one two second → Gives two all → Gives given all
gives_all given one two all first second is is_next (rest, is_rest) =
    ((first ++ second) ++ rest, Appends-trans given two all (first ++ second) rest (Appends-trans given one two first second is is_next) is_rest)

-- ---- of a folder of which nothing is known

pub unknown_made : (p : Path) (mode : Mode) (t : Option ℕ) (given all : Option (List ℕ)) (result : Result (Unit {0}) FolderFault)
    → Gives given all → MakesFile p mode t given all Unknown result Unknown
unknown_made p mode t given all result (bytes, is) = record { bytes = bytes; given_since = is; takes = refl }

pub unknown_copied : (p q : Path) (mode : Mode) (t : Option ℕ) (result : Result (Unit {0}) FolderFault) → CopiesFile p q mode t Unknown result Unknown
unknown_copied p q mode t (Ok done) = record { bytes = []; source = (mode, tt); takes = refl }
unknown_copied p q mode t (Err fault) = record { bytes = []; source = tt; takes = refl }
