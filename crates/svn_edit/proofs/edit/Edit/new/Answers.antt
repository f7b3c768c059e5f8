use Rattle.std.proofs.Common.{refl, sym, true≢false}
use Rattle.svn_edit.proofs.edit.Edit.new.Goals as goal

pub returns-clause-begun : goal.returns-clause-begun
returns-clause-begun c = λ mode nodes.
    let begun = c.in_ok-pending.ensures.begun mode nodes in
    record {
      order = c.new-2.ensures;
      copy = begun.copy;
      stage = λ h. refl;
      going = begun.going;
      ended = λ h. absurd (true≢false (sym h));
      left = λ h. absurd (true≢false (sym h));
      noted = begun.noted;
    }
