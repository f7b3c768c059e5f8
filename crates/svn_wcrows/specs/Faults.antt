-- Faults of the crates below, as faults of rows.
use Rattle.std.specs.Prelude.{◌≡◌}
use Rattle.svn_image.specs.declared.fault.ImageFault.{ImageFault}
use Rattle.svn_image.specs.declared.fault.ImageFault.TheVariants as image
use Rattle.svn_wcdb.specs.declared.fault.WcdbFault.{WcdbFault}
use Rattle.svn_wcdb.specs.declared.fault.WcdbFault.TheVariants as wcdb
use Rattle.svn_wcrows.specs.declared.fault.RowsFault.{RowsFault}
use Rattle.svn_wcrows.specs.declared.fault.RowsFault.TheVariants.{Image, Memory, Refused}

abbrev pub of_image : ImageFault → RowsFault
of_image image.Memory = Memory
of_image fault = Image fault

abbrev pub of_wcdb : WcdbFault → RowsFault
of_wcdb (wcdb.Refused reason) = Refused reason
of_wcdb wcdb.Memory = Memory

-- the fault is one of writing an image
abbrev pub IsOfImage : RowsFault → Type 0
IsOfImage fault = (from : ImageFault) × (fault ≡ of_image from)
