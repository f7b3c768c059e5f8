use Rattle.svn_types.proofs.small_text.SmallTextClone.clone.Goals as goal

pub invariant_of-result : goal.invariant_of-result
invariant_of-result c = rw c.copy.ensures (rw c.in-Short.is at c.self.invariant)
