use Rattle.std.proofs.Common.{sym, ap, ◌∙◌}
use Rattle.std.specs.List.{list_all, list_any}
use Rattle.std.proofs.lemmas.Bool.{not-true}
use Rattle.svn_disk.specs.Tasks.{is_removal}
use Rattle.svn_disk.proofs.task.Task.is_parted.Goals as goal

pub returns-then-all_go : goal.returns-then-all_go
returns-then-all_go c = λ none. record {
  removals = ap (list_all is_removal) (sym c.removals.ensures.same) ∙ sym c.all_go.ensures ∙ c.if-all_go.true;
  makings = ap (list_any is_removal) (sym c.makings.ensures.same) ∙ sym c.any_goes.ensures ∙ not-true c.any_goes.result none;
}
