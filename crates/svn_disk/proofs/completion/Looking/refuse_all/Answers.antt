use Rattle.std.proofs.Common.{◌<◌, length, arith}
use Rattle.svn_folder.specs.States.{seen}
use Rattle.svn_folder.specs.Steps.{run}
use Rattle.svn_disk.specs.Crashes.{IsTextIn}
use Rattle.svn_disk.proofs.EndsAgain.{texts_more, texts_all}
use Rattle.svn_disk.proofs.completion.Looking.refuse_all.Goals as goal

pub loop-item-init : goal.loop-item-init
loop-item-init g c = λ s steps is. tt

pub loop-item-preserved : goal.loop-item-preserved
loop-item-preserved g c = λ s steps is.
    let below : c.loop-item.item-index < length c.args.work.now = omega arith in
    texts_more (IsTextIn c.args.admin.now.name (seen (run s steps))) c.args.self.now.existing.now.copy c.args.work.now c.loop-item.item-index c.item-item.result below
    c.item-item.is (c.loop-item.invariant s steps is) (c.in_ok-refuse_one.ensures s steps is)

pub returns : goal.returns
returns g c = λ s steps is.
    texts_all (IsTextIn c.args.admin.now.name (seen (run s steps))) c.args.self.now.existing.now.copy c.args.work.now c.loop-item.item-index (omega arith)
    (c.loop-item.invariant s steps is)
