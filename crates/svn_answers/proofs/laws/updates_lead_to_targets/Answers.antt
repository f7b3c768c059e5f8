use Rattle.svn_answers.proofs.Targets.{leads_to_target}
use Rattle.svn_answers.proofs.laws.updates_lead_to_targets.Goals as goal

pub returns : goal.returns
returns c =
    leads_to_target c.crawl_says_what_stands.ensures c.the_calls_are_a_drive.ensures c.drive_composes.ensures c.args.repo.now c.args.copy.now
    c.law.ensures.history c.law-2.ensures.order c.law-2.ensures.shape
