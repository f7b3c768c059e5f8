use Rattle.svn_edit.proofs.Holding.{carried_of}
use Rattle.svn_edit.proofs.edit.Edit.open_path.Goals as goal

pub returns : goal.returns
returns c = λ mode w0 nodes calls s going.
    c.open_path.ensures mode w0 nodes calls (carried_of mode w0 c.args.self.now nodes calls s) going
