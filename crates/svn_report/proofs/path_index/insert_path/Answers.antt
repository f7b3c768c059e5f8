use Rattle.std.proofs.Common.{true, cond, ap, ◌∙◌}
use Rattle.std.specs.BTreeMap.{is_at}
use Rattle.std.specs.BTreeSet.{contains}
use Rattle.svn_types.specs.Names.{Path, path_cmp}
use Rattle.svn_types.proofs.PathsInOrder.{at_path}
use Rattle.svn_report.proofs.Listings.{put_in}
use Rattle.svn_report.proofs.path_index.insert_path.Goals as goal

pub returns-clause-added : goal.returns-clause-added
returns-clause-added c = λ q. put_in path_cmp c.args.paths.now c.insert.new.self c.args.path.now q
    (at_path c.args.path.now q)
    (c.in_ok-insert.ensures.updates.0 q ∙ ap (λ (p : Path). cond (is_at (path_cmp p) q) true (contains path_cmp c.args.paths.now q))
    c.in_ok-clone.ensures.cases)
