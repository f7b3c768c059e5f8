use Rattle.svn_nodes.proofs.Appending.{all_moved, others_stay, back_again}
use Rattle.svn_nodes.proofs.append.append_below.Goals as goal

pub returns-in-Ok-clause-moved : goal.returns-in-Ok-clause-moved
returns-in-Ok-clause-moved c = λ p.
    all_moved c.args.at.now c.args.nodes.now.entries c.requires.free c.args.part.entries c.requires.below c.append.ensures.other_was_ordered
    c.append.new.self.entries c.in-Ok.ensures.inserts_all.0 p

pub returns-clause-unchanged : goal.returns-clause-unchanged
returns-clause-unchanged c =
    let moves = c.append.ensures.moves in
    back_again c.args.at.now c.args.nodes.now.entries c.requires.free c.append.new.self.entries c.remove_below.new.nodes.entries
    c.len-before.ensures.ordered c.len-after.ensures.ordered
    (others_stay c.args.at.now c.args.nodes.now.entries c.requires.free c.args.part.entries c.requires.below
    c.append.ensures.other_was_ordered moves.0 c.append.new.other.entries c.append.new.self.entries moves.1 moves.2.0)
    c.remove_below.ensures
