use Rattle.svn_wc.proofs.Truly.{tests_props}
use Rattle.svn_wc.proofs.truth.has_props.Goals as goal

pub returns-in-Some : goal.returns-in-Some
returns-in-Some c = λ there.
    tests_props c.args.repo.now c.args.id c.are_same.result c.args.props.now c.in-Some.others.now c.in-Some.ensures c.are_same.ensures.0
    c.are_same.ensures.1
