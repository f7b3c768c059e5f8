use Rattle.std.proofs.Common.{◌||◌, sym, ap, ◌∙◌}
use Rattle.std.specs.BTreeSet.{BTreeSet, contains}
use Rattle.svn_types.specs.Names.{Path, path_cmp}
use Rattle.svn_types.specs.Paths.{path_eq}
use Rattle.svn_report.specs.ReportOrder.{end_cmp}
use Rattle.svn_report.proofs.Listings.{taken_again}
use Rattle.svn_report.proofs.path_index.PathIndex.insert.Goals as goal

pub returns-in-Ok-clause-added : goal.returns-in-Ok-clause-added
returns-in-Ok-clause-added c = λ q.
    c.in_ok-insert_path.ensures.added q ∙ ap (λ (s : BTreeSet Path). path_eq c.args.path.now q || contains path_cmp s q) c.self.view_is

pub returns-in-Err-clause-unchanged : goal.returns-in-Err-clause-unchanged
returns-in-Err-clause-unchanged c = λ q.
    taken_again c.self.inside.paths c.insert_path.new.paths c.remove_path.new.paths c.args.path.now
    (ap (λ (s : BTreeSet Path). contains path_cmp s c.args.path.now) c.self.view_is ∙ c.requires)
    c.in_ok-insert_path.ensures.added c.remove_path.ensures q
    ∙ ap (λ (s : BTreeSet Path). contains path_cmp s q) c.self.view_is

pub invariant_of-self-in-Ok : goal.invariant_of-self-in-Ok
invariant_of-self-in-Ok c = λ q.
    c.in-Ok.ensures.added q
    ∙ ap (λ (p : Path). path_eq p q || contains end_cmp c.self.inside.ends q) c.in_ok-clone.ensures.cases
    ∙ ap (λ b. path_eq c.args.path.now q || b) (c.self.invariant q)
    ∙ sym (c.in_ok-insert_path.ensures.added q)

pub invariant_of-self-in-Err : goal.invariant_of-self-in-Err
invariant_of-self-in-Err c = λ q.
    c.in-Err.ensures.unchanged q
    ∙ c.self.invariant q
    ∙ sym (taken_again c.self.inside.paths c.insert_path.new.paths c.remove_path.new.paths c.args.path.now
    (ap (λ (s : BTreeSet Path). contains path_cmp s c.args.path.now) c.self.view_is ∙ c.requires)
    c.in_ok-insert_path.ensures.added c.remove_path.ensures q)
