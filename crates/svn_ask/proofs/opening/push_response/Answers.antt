use Rattle.svn_ask.proofs.OpeningLemmas.{response_parts}
use Rattle.svn_ask.proofs.opening.push_response.Goals as goal

pub returns : goal.returns
returns c =
    response_parts c.args.url.now c.args.client.now _ _ _ _ _ c.in_ok-extend_from_slice.ensures.items c.in_ok-push_text.ensures
    c.in_ok-push_text-2.ensures c.in_ok-extend_from_slice-2.ensures.items
