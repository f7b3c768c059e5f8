-- Whether a working copy is of the repository that it is compared with.
--     IsOfRepository uuid base      the copy's UUID is this one, where one is known
--     IsRepositoryFault uuid base fault      why it isn't: both are known, and differ; or an allocation failed
use Rattle.std.specs.Prelude.{◌≡◌, ◌≢◌, ℕ, List, Option, Some, IfSome}
use Rattle.svn_wcdb.specs.Bases.{Base}
use Rattle.svn_disk_audit.specs.declared.repository.RepositoryFault.{RepositoryFault}
use Rattle.svn_disk_audit.specs.declared.repository.RepositoryFault.TheVariants.{Other, Memory}

abbrev pub IsOfRepository : Option (List ℕ) → Base → Type 0
IsOfRepository uuid base = IfSome uuid (λ known. base.origin.uuid ≡ known)

abbrev pub IsRepositoryFault : Option (List ℕ) → Base → RepositoryFault → Type 0
IsRepositoryFault uuid base (Other copy wanted) = (base.origin.uuid ≡ copy) × (uuid ≡ Some wanted) × (copy ≢ wanted)
IsRepositoryFault uuid base Memory = Unit {0}
