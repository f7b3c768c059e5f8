-- A refusal that changes nothing is one of those that a folder may give.
use Rattle.std.proofs.Common.{inl, refl}
use Rattle.std.specs.Prelude.{Err}
use Rattle.svn_folder.specs.declared.step.Step.{Step}
use Rattle.svn_folder.specs.declared.fault.FolderFault.{FolderFault}
use Rattle.svn_folder.specs.Pasts.{Past, Unknown, Known, Broken, Takes}

pub refuses : (step : Step) (past : Past) (fault : FolderFault) → Takes step past (Err fault) past
refuses step Unknown fault = refl
refuses step (Known s steps) fault = inl refl
refuses step (Broken s steps) fault = refl
