use Rattle.std.proofs.Common.{◌∙◌, sym, ap}
use Rattle.std.specs.Prelude.{Some, None}
use Rattle.svn_serials.specs.Serials.{get}
use Rattle.svn_edit.proofs.OpenPaths.{open_path_is}
use Rattle.svn_edit.proofs.pending.Pending.open_path.Goals as goal

pub returns-in-Some : goal.returns-in-Some
returns-in-Some c = λ mode w0 nodes calls stands going.
    ap Some c.as_rel_path.ensures
    ∙ open_path_is mode w0 c.args.self.now nodes calls stands going c.args.token (Some c.in-Some.baton.now)
    (sym (c.in-Some.ensures.value ∙ ap (get c.args.self.now.batons) c.token.view_is))

pub returns-in-None : goal.returns-in-None
returns-in-None c = λ mode w0 nodes calls stands going.
    open_path_is mode w0 c.args.self.now nodes calls stands going c.args.token None
    (sym (c.in-None.ensures.value ∙ ap (get c.args.self.now.batons) c.token.view_is))
