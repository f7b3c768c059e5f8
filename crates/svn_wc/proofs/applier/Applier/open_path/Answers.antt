use Rattle.svn_wc.proofs.applier.Applier.open_path.Goals as goal

pub returns : goal.returns
returns c = λ w0 calls stands going. c.open_path.ensures c.args.self.now.mode w0 c.args.self.now.copy.now calls stands going
