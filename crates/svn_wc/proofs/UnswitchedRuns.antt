-- The calls of an update of a copy without a switched path: each leaves such a copy, as long as it leaves the shape of one.
use Rattle.std.proofs.Common.{ℕ, zero, suc, List, [], ◌∷◌, ◌++◌}
use Rattle.std.specs.Prelude.{take}
use Rattle.svn_editor.specs.declared.call.Call.{Call}
use Rattle.svn_editor.specs.declared.mode.Mode.TheVariants.{Update}
use Rattle.svn_model.specs.Nodes.{WorkingCopy, IsWorkingCopy}
use Rattle.svn_model.specs.Effects.{effect, after_from}
use Rattle.svn_wc.specs.Unswitched.{IsUnswitched}
use Rattle.svn_wc.proofs.Unswitched.{effect_unswitched}

-- the first calls of a list, as long as each of them leaves the shape of a copy
pub first_unswitched : (earlier calls : List Call) (w : WorkingCopy) → IsUnswitched w
    → ((n : ℕ) → IsWorkingCopy (after_from Update earlier w (take n calls))) → (k : ℕ) → IsUnswitched (after_from Update earlier w (take k calls))
first_unswitched earlier calls w unswitched shapes zero = unswitched
first_unswitched earlier [] w unswitched shapes (suc k) = unswitched
first_unswitched earlier (c ∷ calls) w unswitched shapes (suc k) =
    first_unswitched (earlier ++ c ∷ []) calls (effect Update earlier c w) (effect_unswitched w earlier c unswitched (shapes 1))
    (λ n. shapes (suc n)) k
