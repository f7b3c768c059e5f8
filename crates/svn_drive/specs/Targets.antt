-- Why no drive leads to a target.
--     fault_between h target from there      by the nodes that the client and the target have at the root
use Rattle.std.specs.Prelude.{ℕ, not, length, nat_lt, Option, Some, None, is_none, if◌then◌else◌}
use Rattle.svn_repo.specs.History.{History}
use Rattle.svn_repo.specs.Readings.{are_related}
use Rattle.svn_model.specs.declared.drive_fault.DriveFault.{DriveFault}
use Rattle.svn_model.specs.declared.drive_fault.DriveFault.TheVariants.{NoSuchTarget, NoRoot, OtherRoot}

abbrev pub fault_between : History → ℕ → Option ℕ → Option ℕ → Option DriveFault
fault_between h target from there =
    if not (nat_lt target (length h.roots)) then Some NoSuchTarget
    else if is_none there then Some NoRoot
    else if not (are_related h from there) then Some OtherRoot
    else None
