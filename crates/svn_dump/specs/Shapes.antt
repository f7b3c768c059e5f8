-- What the headers of a record say of the sections after them.
use Rattle.std.specs.Prelude.{ℕ, ◌+◌, List, nat_eq, codes, Option, Some, None, unwrap_or, Result, Ok, Err, if◌then◌else◌}
use Rattle.std.specs.Option.{option_or}
use Rattle.svn_dump.specs.declared.fault.Reason.{Reason}
use Rattle.svn_dump.specs.declared.fault.Reason.TheVariants.{Lengths as DisagreeingLengths}
use Rattle.svn_dump.specs.declared.shape.Lengths.{Lengths}
use Rattle.svn_dump.specs.declared.shape.GivenSums.{GivenSums}
use Rattle.svn_dump.specs.declared.shape.Shape.{Shape}
use Rattle.svn_dump.specs.Reading.{◌>>=◌}
use Rattle.svn_dump.specs.Fields.{number_value, sum_value, true_value}

-- the length of both sections together, if it is given, is that of the one and the other
abbrev pub agreeing : Option ℕ → Option ℕ → Option ℕ → Result Lengths Reason
agreeing props text None = Ok (record { props = props; text = text })
agreeing props text (Some both) =
    if nat_eq (unwrap_or props 0 + unwrap_or text 0) both then Ok (record { props = props; text = text })
    else Err DisagreeingLengths

abbrev pub lengths_of : List ℕ → Result Lengths Reason
lengths_of block = do
  props ← number_value block (codes "Prop-content-length")
  text ← number_value block (codes "Text-content-length")
  both ← number_value block (codes "Content-length")
  agreeing props text both

-- before Subversion 1.6 the MD5 checksum had another name
abbrev pub sums_of : List ℕ → Result GivenSums Reason
sums_of block = do
  new ← sum_value 16 block (codes "Text-content-md5")
  old ← sum_value 16 block (codes "Text-content-checksum")
  sha1 ← sum_value 20 block (codes "Text-content-sha1")
  Ok (record { md5 = option_or new old; sha1 = sha1 })

-- those of the text that a text delta is applied to
abbrev pub base_sums_of : List ℕ → Result GivenSums Reason
base_sums_of block = do
  md5 ← sum_value 16 block (codes "Text-delta-base-md5")
  sha1 ← sum_value 20 block (codes "Text-delta-base-sha1")
  Ok (record { md5 = md5; sha1 = sha1 })

unfoldable pub shape_of : List ℕ → Result Shape Reason
shape_of block = do
  lengths ← lengths_of block
  sums ← sums_of block
  base ← base_sums_of block
  changes_props ← true_value block (codes "Prop-delta")
  changes_text ← true_value block (codes "Text-delta")
  Ok (record { lengths = lengths; sums = sums; base_sums = base; changes_props = changes_props; changes_text = changes_text })
