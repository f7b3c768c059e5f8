use Rattle.std.specs.Option.{option_copied}
use Rattle.svn_lists.proofs.Results.{OnOk_then}
use Rattle.svn_replies.proofs.LastChanges.{change_appended}
use Rattle.svn_replies.proofs.nodes.push_known_change_pairs.Goals as goal

pub returns : goal.returns
returns c =
    OnOk_then c.push_known_pair-2.result c.push_known_pair-2.ensures
    (λ e. change_appended c.args.out.now.items c.push_rev_pair.new.out.items c.push_known_pair.new.out.items c.push_known_pair-2.new.out.items c.args.told.now
    (option_copied c.as_ref.result) (option_copied c.as_ref-2.result) c.in_ok-push_rev_pair.ensures c.in_ok-push_known_pair.ensures e
    c.as_ref.ensures.value c.as_ref-2.ensures.value)
