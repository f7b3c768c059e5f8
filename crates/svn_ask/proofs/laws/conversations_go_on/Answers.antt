use Rattle.svn_ask.proofs.ConversationLemmas.{conversations_go_on}
use Rattle.svn_ask.proofs.laws.conversations_go_on.Goals as goal

pub returns : goal.returns
returns c = conversations_go_on
