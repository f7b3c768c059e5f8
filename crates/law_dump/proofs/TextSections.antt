-- Texts and text deltas, read as they were written.
use Rattle.std.proofs.Common.{◌≡◌, ℕ, Bool, true, false, List, ◌++◌, length, Option, Some, None, Ok, refl}
use Rattle.md5.specs.Md5.{md5}
use Rattle.sha1.specs.Sha1.{sha1}
use Rattle.svn_dump.specs.declared.record.TextSection.{TextSection}
use Rattle.svn_dump.specs.declared.record.TextSection.TheVariants as text
use Rattle.svn_dump.specs.declared.sections.Texts.{Texts}
use Rattle.svn_dump.specs.Sections.{sized_text_at}
use Rattle.svn_dump.specs.Written.{text_bytes}
use Rattle.law_dump.specs.Laws.{CanKeep, kept_section}
use Rattle.law_dump.specs.Grammar.{IsTextOf}
use Rattle.law_dump.proofs.GrammarSections.{sized_text_given}

-- the checksums that are written of a text
abbrev pub md5_of : TextSection → Option (List ℕ)
md5_of (text.Whole bytes) = Some (md5 bytes)
md5_of (text.Delta delta) = delta.md5

abbrev pub sha1_of : TextSection → Option (List ℕ)
sha1_of (text.Whole bytes) = Some (sha1 bytes)
sha1_of (text.Delta delta) = delta.sha1

-- those of the text that a delta is applied to
abbrev pub base_md5_of : TextSection → Option (List ℕ)
base_md5_of (text.Whole bytes) = None
base_md5_of (text.Delta delta) = delta.base_md5

abbrev pub base_sha1_of : TextSection → Option (List ℕ)
base_sha1_of (text.Whole bytes) = None
base_sha1_of (text.Delta delta) = delta.base_sha1

abbrev pub is_text_delta : TextSection → Bool
is_text_delta (text.Whole bytes) = false
is_text_delta (text.Delta delta) = true

-- a text of so many bytes as it is kept, and what is after it
pub sized_text_read : (texts : Texts) (section : TextSection) (props text : Option ℕ) (changes_props : Bool) (limit : ℕ) (rest : List ℕ)
    → CanKeep texts limit section
    → sized_text_at (record {
      lengths = record { props = props; text = text };
      sums = record { md5 = md5_of section; sha1 = sha1_of section };
      base_sums = record { md5 = base_md5_of section; sha1 = base_sha1_of section };
      changes_props = changes_props;
      changes_text = is_text_delta section;
    }) texts limit (length (text_bytes section)) (text_bytes section ++ rest)
    ≡ Ok (kept_section texts section, rest)
sized_text_read texts section props len changes_props limit rest fits =
    sized_text_given texts props len changes_props (is_text_delta section)
    (record { md5 = base_md5_of section; sha1 = base_sha1_of section }) (record { md5 = md5_of section; sha1 = sha1_of section }) limit
    (text_bytes section) section rest (by section) fits
  where
    by : (section : TextSection) → IsTextOf (is_text_delta section) (record { md5 = base_md5_of section; sha1 = base_sha1_of section })
        (record { md5 = md5_of section; sha1 = sha1_of section }) (text_bytes section) section
    by (text.Whole bytes) = (refl, refl, refl)
    by (text.Delta delta) = (refl, refl, refl, refl, refl)
