use Rattle.std.proofs.Common.{refl, subst, ◌∙◌}
use Rattle.svn_model.specs.Nodes.{get_in}
use Rattle.svn_wc.specs.Unswitched.{IsUnswitched, IsLevel}
use Rattle.svn_run.specs.UpdateTheorem.{Nodes}
use Rattle.svn_run.proofs.whole.begin.Goals as goal

pub returns-clause-begun : goal.returns-clause-begun
returns-clause-begun c =
    let same = c.replace.ensures.value ∙ c.crawl_and_learn.ensures.same in
    let nodes : Nodes = c.args.copy.now in
    record {
      report = c.in-Ok.ensures.report;
      same_mode = refl;
      same_nodes = c.loosen-loose.ensures.nodes ∙ same;
      begun = c.in-Ok-new.ensures.begun c.args.request.now.mode nodes;
      unswitched = λ known. subst (λ (n : Nodes). IsUnswitched (get_in n)) same (c.loosen-loose.ensures.unswitched known);
      level = λ known. subst (λ (n : Nodes). IsLevel (get_in n)) same (c.loosen-loose.ensures.level known);
    }
