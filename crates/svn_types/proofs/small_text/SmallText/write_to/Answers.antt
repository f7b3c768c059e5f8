use Rattle.svn_types.proofs.small_text.SmallText.write_to.Goals as goal

pub invariant_of-place : goal.invariant_of-place
invariant_of-place c = rw c.copy.ensures (rw c.in-Short.is at c.self.invariant)
