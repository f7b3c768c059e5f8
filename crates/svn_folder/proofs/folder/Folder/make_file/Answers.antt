use Rattle.std.proofs.Common.{subst}
use Rattle.svn_folder.specs.declared.step.Step.{Step}
use Rattle.svn_folder.specs.Pasts.{Takes}
use Rattle.svn_folder.proofs.folder.Folder.make_file.Goals as goal

pub returns-clause-made : goal.returns-clause-made
returns-clause-made g c = record {
  bytes = c.in_ok-bytes.bytes;
  given_since = c.in_ok-bytes.ensures.bytes;
  takes =
      subst (λ (s : Step). Takes s (g.Self.Folder.past c.args.self.now) c.take.result (g.Self.Folder.past c.take.new.self))
      c.in_ok-make_step.ensures c.take.ensures;
}
