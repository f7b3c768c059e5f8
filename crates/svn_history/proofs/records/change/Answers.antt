use Rattle.std.proofs.Common.{◌≡◌, true, rules}
use Rattle.std.specs.Prelude.{is_some}
use Rattle.svn_lists.proofs.Results.{OnOk_then}
use Rattle.svn_history.specs.Steps.{draft_of}
use Rattle.svn_history.specs.Changes.{at}
use Rattle.svn_history.proofs.Altering.{made_alteration}
use Rattle.svn_history.proofs.records.change.Goals as goal

pub returns-clause-made : goal.returns-clause-made
returns-clause-made c =
    let node = c.args.node.now in
    let old = draft_of c.args.transaction.now in
    let there : is_some (at old node.path) ≡ true = search rules in
    OnOk_then c.alter_props.result c.alter_props.ensures.made
    (λ h. made_alteration node old (draft_of c.put_text.new.transaction) (draft_of c.alter_props.new.transaction) there
    c.in_ok-put_text.ensures.made h)
