-- The text that a delta makes.
--     HasSums md5 sha1 bytes      the bytes have the checksums, where these are given
--     IsMade base delta bytes      the bytes are what the delta says over the text before, and both have the checksums that it gives for them
--     text_made max base delta      the same text, of at most so many bytes, or the first fault
use Rattle.std.specs.Prelude.{◌≡◌, ℕ, true, List, not, Option, Result, Ok, Err, if◌then◌else◌}
use Rattle.md5.specs.Md5.{md5}
use Rattle.sha1.specs.Sha1.{sha1}
use Rattle.svndiff.specs.Format.{IsDelta}
use Rattle.svndiff.specs.Results.{renamed}
use Rattle.svndiff.specs.Deltas.{text_of}
use Rattle.svn_dump.specs.declared.fault.Reason.TheVariants.{WrongBaseMd5, WrongBaseSha1, WrongMd5, WrongSha1}
use Rattle.svn_dump.specs.declared.fault.DumpFault.TheVariants.{Refused}
use Rattle.svn_dump.specs.declared.record.TextDelta.{TextDelta}
use Rattle.svn_dump.specs.Sections.{is_given_as}
use Rattle.svn_expand.specs.declared.fault.ExpandFault.{ExpandFault}
use Rattle.svn_expand.specs.declared.fault.ExpandFault.TheVariants as faults
use Rattle.svn_expand.specs.Results.{◌>>=◌}

abbrev pub HasSums : Option (List ℕ) → Option (List ℕ) → List ℕ → Type 0
HasSums first second bytes = (is_given_as first (md5 bytes) ≡ true) × (is_given_as second (sha1 bytes) ≡ true)

pub record IsMade (base : List ℕ) (delta : TextDelta) (bytes : List ℕ) : Type 0 where
  pub base_sums : HasSums delta.base_md5 delta.base_sha1 base
  pub said : IsDelta base delta.delta bytes
  pub sums : HasSums delta.md5 delta.sha1 bytes

-- ---- the first fault

abbrev pub decoded : ℕ → List ℕ → List ℕ → Result (List ℕ) ExpandFault
decoded max base delta = renamed faults.Delta (text_of base delta max)

-- the text, if it has the checksums that are given
abbrev pub checked : TextDelta → List ℕ → Result (List ℕ) ExpandFault
checked delta bytes =
    if not (is_given_as delta.md5 (md5 bytes)) then Err (faults.Dump (Refused WrongMd5))
    else if not (is_given_as delta.sha1 (sha1 bytes)) then Err (faults.Dump (Refused WrongSha1))
    else Ok bytes

-- the text before, if it has those that are given for it
abbrev pub checked_base : TextDelta → List ℕ → Result (List ℕ) ExpandFault
checked_base delta base =
    if not (is_given_as delta.base_md5 (md5 base)) then Err (faults.Dump (Refused WrongBaseMd5))
    else if not (is_given_as delta.base_sha1 (sha1 base)) then Err (faults.Dump (Refused WrongBaseSha1))
    else Ok base

abbrev pub text_made : ℕ → List ℕ → TextDelta → Result (List ℕ) ExpandFault
text_made max base delta = checked_base delta base >>= λ base. decoded max base delta.delta >>= checked delta
