use Rattle.std.proofs.Common.{◌∙◌, ap, sym, subst, [], List, ℕ}
use Rattle.std.proofs.KnownBytes.{Appends-trans}
use Rattle.std.proofs.lemmas.Result.{on_ok_weaker}
use Rattle.std.specs.Option.{option_copied}
use Rattle.svn_answers.specs.Topics.{IsTopicFault, IsToldText, deletion_text}
use Rattle.svn_answers.proofs.Deleting.{gone_from, gone_is, not_unwritten, told_deleted}
use Rattle.svn_answers.proofs.topics.write_told.Goals as goal

pub returns-in-Some-clause-told : goal.returns-in-Some-clause-told
returns-in-Some-clause-told g c =
    let h = c.args.repo.now in
    let nodes = c.args.copy.now in
    let topic = c.args.told.now.topic in
    let name = c.in-Some.name.now in
    let gone = gone_from h nodes c.in-Err.fault (sym c.is_gone.ensures ∙ c.if-is_gone.true) in
    let written = not_unwritten h nodes c.in-Err.fault gone in
    let there = gone_is h nodes topic (subst (IsTopicFault h nodes topic) gone (c.in-Err.ensures.fault written)) in
    let text = deletion_text h c.root_revision-base.result name topic in
    let told =
    subst (λ o. IsToldText h nodes o topic text) (sym (ap option_copied c.in-Some.is))
    (told_deleted h nodes name topic c.root_revision-base.result there c.root_revision-base.ensures) in
    on_ok_weaker c.write_deletion.result
    (λ more. (text, told, Appends-trans _ _ _ _ _ (c.in-Err.ensures.unwritten written) more))
    c.write_deletion.ensures.written
