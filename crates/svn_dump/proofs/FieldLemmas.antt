-- Headers whose values have a type.
use Rattle.std.proofs.Common.{◌≡◌, ℕ, List, Err, true, false, refl}
use Rattle.std.specs.Str.{is_utf8}
use Rattle.svn_types.specs.Names.{path_of_text}
use Rattle.svn_types.specs.NameFaults.{path_fault}
use Rattle.svn_dump.specs.declared.fault.Reason.TheVariants.{NotUtf8}
use Rattle.svn_dump.specs.Fields.{path_of_bytes, path_or_fault}

pub path_of_text_bytes : (bytes : List ℕ) → is_utf8 bytes ≡ true → path_of_bytes bytes ≡ path_or_fault (path_fault (path_of_text bytes)) (path_of_text bytes)
path_of_text_bytes bytes text = rw text refl

pub path_of_other_bytes : (bytes : List ℕ) → is_utf8 bytes ≡ false → path_of_bytes bytes ≡ Err NotUtf8
path_of_other_bytes bytes none = rw none refl
