use Rattle.std.proofs.Common.{◌≡◌, ◌∙◌}
use Rattle.svn_types.specs.PathKeys.{path_key}
use Rattle.svn_types.proofs.PathKeys.{within_by_keys}
use Rattle.svn_types.proofs.rel_path.RelPath.is_within.Goals as goal

pub returns : goal.returns
returns c =
    let below : c.key.result.now ≡ path_key c.args.self.now = c.key.ensures.key in
    let above : c.key-2.result.now ≡ path_key c.args.above.now = c.key-2.ensures.key in
    c.is_some.ensures ∙ within_by_keys c.args.above.now c.args.self.now c.key-2.ensures.plain c.key.ensures.plain c.behind.result
    (rw (below, above) at c.behind.ensures)
