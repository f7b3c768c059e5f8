use Rattle.std.proofs.Common.{◌∙◌}
use Rattle.svn_served.proofs.Greetings.{sent_parts}
use Rattle.svn_served.proofs.connection.push_back.Goals as goal

pub returns : goal.returns
returns c =
    c.in_ok-extend_from_slice-3.ensures.items
    ∙ sent_parts c.args.code c.args.message.now c.args.out.now.items _ _ _ _ c.in_ok-extend_from_slice.ensures.items
    c.in_ok-extend_from_slice-2.ensures.items c.in_ok-push_number.ensures c.in_ok-push_text.ensures
