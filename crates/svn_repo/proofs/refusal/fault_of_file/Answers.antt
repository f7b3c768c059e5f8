use Rattle.std.proofs.Common.{◌∙◌, sym}
use Rattle.svn_repo.proofs.Thawing.{in_range}
use Rattle.svn_repo.proofs.refusal.fault_of_file.Goals as goal

pub kind_at-requires : goal.kind_at-requires
kind_at-requires c = λ n e. in_range c.args.nodes.now c.requires.closed c.args.root n c.args.names.now c.requires.root_in
    (sym c.in-Ok.ensures.found ∙ e)
