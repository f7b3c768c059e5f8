-- The two sections after a record's headers. What is read comes with the bytes after it.
--     kept texts text      a text, or its stand-in
--     prop_section_at, text_section_at      the sections, where a record has them
use Rattle.std.specs.Prelude.{ℕ, Bool, true, false, ◌&&◌, not, List, [], nat_lt, bytes_eq, Option, Some, None, unwrap_or, option_map, Result, Ok, Err, if◌then◌else◌}
use Rattle.md5.specs.Md5.{md5, Holds as Md5Holds}
use Rattle.sha1.specs.Sha1.{sha1, Holds as Sha1Holds}
use Rattle.svn_digits.specs.StandIns.{stand_in, stand_in_of, md5_stand_in, stand_in_of_md5}
use Rattle.svn_dump.specs.declared.fault.Reason.{Reason}
use Rattle.svn_dump.specs.declared.fault.Reason.TheVariants.{PropsTooLong, TextTooLong, WrongMd5, WrongSha1, NoSha1, NoMd5}
use Rattle.svn_dump.specs.declared.record.PropSection.{PropSection}
use Rattle.svn_dump.specs.declared.record.PropSection.TheVariants as props
use Rattle.svn_dump.specs.declared.record.TextSection.{TextSection}
use Rattle.svn_dump.specs.declared.record.TextSection.TheVariants as text
use Rattle.svn_dump.specs.declared.sections.Texts.{Texts}
use Rattle.svn_dump.specs.declared.sections.Texts.TheVariants.{Whole, Sha1, Md5}
use Rattle.svn_dump.specs.declared.shape.GivenSums.{GivenSums}
use Rattle.svn_dump.specs.declared.sums.Running.{Running}
use Rattle.svn_dump.specs.declared.shape.Lengths.{Lengths}
use Rattle.svn_dump.specs.declared.shape.Shape.{Shape}
use Rattle.svn_dump.specs.Reading.{◌>>=◌}
use Rattle.svn_dump.specs.Blocks.{bytes_at}
use Rattle.svn_dump.specs.Properties.{props_of, changes_of}

-- what is read, and the bytes after it
abbrev pub Read : Type 0 → Type 0
Read A = Result (A × List ℕ) Reason

-- what has a length, if one is given
abbrev pub if_given : {A : Type 0} → Option ℕ → (ℕ → List ℕ → Read A) → List ℕ → Read (Option A)
if_given None at bytes = Ok (None, bytes)
if_given (Some len) at bytes = at len bytes >>= λ read. Ok (Some read.0, read.1)

-- so many bytes, which aren't kept
abbrev pub skipped : ℕ → List ℕ → Read (Unit {0})
skipped len bytes = bytes_at len bytes >>= λ read. Ok (tt, read.1)

-- both sections, which aren't kept
abbrev pub after_sections : Lengths → List ℕ → Read (Unit {0})
after_sections lengths bytes = skipped (unwrap_or lengths.props 0) bytes >>= λ read. skipped (unwrap_or lengths.text 0) read.1

-- ---- checksums

-- the running checksums are those of these bytes so far
abbrev pub Sums : Running → List ℕ → Type 0
Sums running bytes = Md5Holds running.md5 bytes × Sha1Holds running.sha1 bytes

-- a text's bytes, if they are kept, and its checksums
abbrev pub summed : Bool → List ℕ → List ℕ × List ℕ × List ℕ
summed keeps bytes = (if keeps then bytes else [], md5 bytes, sha1 bytes)

abbrev pub summed_at : Bool → ℕ → List ℕ → Read (List ℕ × List ℕ × List ℕ)
summed_at keeps len bytes = bytes_at len bytes >>= λ read. Ok (summed keeps read.0, read.1)

-- ---- properties

abbrev pub prop_section_of : Bool → List ℕ → Result PropSection Reason
prop_section_of true section = changes_of section >>= λ changes. Ok (props.Delta changes)
prop_section_of false section = props_of section >>= λ all. Ok (props.Whole all)

abbrev pub sized_props_at : Bool → ℕ → ℕ → List ℕ → Read PropSection
sized_props_at changes limit len bytes =
    if nat_lt limit len then Err (PropsTooLong len limit)
    else bytes_at len bytes >>= λ read. prop_section_of changes read.0 >>= λ section. Ok (section, read.1)

abbrev pub prop_section_at : Shape → ℕ → List ℕ → Read (Option PropSection)
prop_section_at shape limit bytes = if_given shape.lengths.props (sized_props_at shape.changes_props limit) bytes

-- ---- texts

abbrev pub kept : Texts → List ℕ → List ℕ
kept Whole bytes = bytes
kept Sha1 bytes = stand_in bytes
kept Md5 bytes = md5_stand_in bytes

abbrev pub is_given_as : Option (List ℕ) → List ℕ → Bool
is_given_as None sum = true
is_given_as (Some given) sum = bytes_eq given sum

-- the text, if it has the checksums that are given
abbrev pub checked : GivenSums → List ℕ → Result (List ℕ) Reason
checked given bytes =
    if not (is_given_as given.md5 (md5 bytes)) then Err WrongMd5
    else if not (is_given_as given.sha1 (sha1 bytes)) then Err WrongSha1
    else Ok bytes

abbrev pub whole_text_at : Texts → GivenSums → ℕ → List ℕ → Read (List ℕ)
whole_text_at texts given len bytes = do
  read ← bytes_at len bytes
  whole ← checked given read.0
  Ok (kept texts whole, read.1)

-- a delta of its format alone leads to no bytes; svnadmin gives no checksum of them
abbrev pub empty_delta_at : Texts → Reason → ℕ → List ℕ → Read TextSection
empty_delta_at texts missing len bytes =
    if nat_lt 4 len then Err missing else bytes_at len bytes >>= λ read. Ok (text.Whole (kept texts []), read.1)

-- of a delta that isn't kept the stand-in by the checksum that is given is in place of the text
abbrev pub stand_in_at : Texts → Reason → Option (List ℕ) → ℕ → List ℕ → Read TextSection
stand_in_at texts missing None len bytes = empty_delta_at texts missing len bytes
stand_in_at texts missing (Some word) len bytes = bytes_at len bytes >>= λ read. Ok (text.Whole word, read.1)

-- a delta with all checksums that are given
abbrev pub delta_with : Shape → List ℕ → TextSection
delta_with shape delta = text.Delta (record {
  delta = delta;
  base_md5 = shape.base_sums.md5;
  base_sha1 = shape.base_sums.sha1;
  md5 = shape.sums.md5;
  sha1 = shape.sums.sha1;
})

abbrev pub text_delta_at : Shape → Texts → ℕ → List ℕ → Read TextSection
text_delta_at shape Whole len bytes = bytes_at len bytes >>= λ read. Ok (delta_with shape read.0, read.1)
text_delta_at shape Sha1 len bytes = stand_in_at Sha1 NoSha1 (option_map stand_in_of shape.sums.sha1) len bytes
text_delta_at shape Md5 len bytes = stand_in_at Md5 NoMd5 (option_map stand_in_of_md5 shape.sums.md5) len bytes

abbrev pub keeps : Texts → Bool
keeps Whole = true
keeps Sha1 = false
keeps Md5 = false

abbrev pub text_at : Shape → Texts → ℕ → List ℕ → Read TextSection
text_at shape texts len bytes =
    if shape.changes_text then text_delta_at shape texts len bytes
    else whole_text_at texts shape.sums len bytes >>= λ read. Ok (text.Whole read.0, read.1)

abbrev pub sized_text_at : Shape → Texts → ℕ → ℕ → List ℕ → Read TextSection
sized_text_at shape texts limit len bytes =
    if keeps texts && nat_lt limit len then Err (TextTooLong len limit) else text_at shape texts len bytes

abbrev pub text_section_at : Shape → Texts → ℕ → List ℕ → Read (Option TextSection)
text_section_at shape texts limit bytes = if_given shape.lengths.text (sized_text_at shape texts limit) bytes
