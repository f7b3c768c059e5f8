-- Why values aren't a record.
--     IsNoRecord row fault      an allocation failed, or the row has a NaN, no value or too many, or over a billion bytes
use Rattle.std.specs.Prelude.{◌≡◌, ◌⊎◌}
use Rattle.sqlite_value.specs.Order.{Row}
use Rattle.sqlite_trees.specs.View.{IsStorable}
use Rattle.svn_image.specs.declared.fault.ImageFault.{ImageFault}
use Rattle.svn_image.specs.declared.fault.ImageFault.TheVariants.{Memory, Unstorable}

abbrev pub IsNoRecord : Row → ImageFault → Type 0
IsNoRecord row fault = (fault ≡ Memory) ⊎ ((fault ≡ Unstorable) × (¬ (IsStorable 0 row)))
