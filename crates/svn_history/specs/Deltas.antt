-- Texts that are given as differences from those before them.
--     text_after base delta      the text that a delta leads to from the one before, if both have the checksums that are given
use Rattle.std.specs.Prelude.{ℕ, List, not, Result, Ok, Err, if◌then◌else◌}
use Rattle.md5.specs.Md5.{md5}
use Rattle.sha1.specs.Sha1.{sha1}
use Rattle.svn_types.specs.Limits.{size_limit}
use Rattle.svndiff.specs.Results.{renamed}
use Rattle.svndiff.specs.Deltas.{text_of}
use Rattle.svn_dump.specs.declared.fault.Reason.TheVariants.{WrongBaseMd5, WrongBaseSha1, WrongMd5, WrongSha1}
use Rattle.svn_dump.specs.declared.fault.DumpFault.TheVariants.{Refused}
use Rattle.svn_dump.specs.declared.record.TextDelta.{TextDelta}
use Rattle.svn_dump.specs.Sections.{is_given_as}
use Rattle.svn_history.specs.declared.fault.LoadFault.{LoadFault}
use Rattle.svn_history.specs.declared.fault.LoadFault.TheVariants as faults
use Rattle.svn_history.specs.Results.{◌>>=◌}

-- what a delta gives over a text, of at most as many bytes as a commit takes
abbrev pub decoded : List ℕ → List ℕ → Result (List ℕ) LoadFault
decoded base delta = renamed faults.Delta (text_of base delta size_limit)

-- the text, if it has the checksums that are given
abbrev pub checked : TextDelta → List ℕ → Result (List ℕ) LoadFault
checked delta bytes =
    if not (is_given_as delta.md5 (md5 bytes)) then Err (faults.Dump (Refused WrongMd5))
    else if not (is_given_as delta.sha1 (sha1 bytes)) then Err (faults.Dump (Refused WrongSha1))
    else Ok bytes

-- the text before, if it has those that are given for it
abbrev pub checked_base : TextDelta → List ℕ → Result (List ℕ) LoadFault
checked_base delta base =
    if not (is_given_as delta.base_md5 (md5 base)) then Err (faults.Dump (Refused WrongBaseMd5))
    else if not (is_given_as delta.base_sha1 (sha1 base)) then Err (faults.Dump (Refused WrongBaseSha1))
    else Ok base

abbrev pub text_after : List ℕ → TextDelta → Result (List ℕ) LoadFault
text_after base delta = checked_base delta base >>= λ base. decoded base delta.delta >>= checked delta
