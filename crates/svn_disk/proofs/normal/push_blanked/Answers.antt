use Rattle.std.proofs.Common.{◌≡◌, arith}
use Rattle.svn_disk.proofs.Rewriting.{blank_more, blank_last}
use Rattle.svn_disk.proofs.normal.push_blanked.Goals as goal

pub blanks-preserved : goal.blanks-preserved
blanks-preserved c =
    blank_more c.args.out.now.items c.args.name.now c.blanks.out.items c.push-in-blanks.new.self.items c.blanks._blank c.blanks.invariant
    c.in_ok-push-2.ensures.items

pub returns : goal.returns
returns c =
    let same : c.blanks._blank ≡ c.args.count = omega arith in
    blank_last c.args.out.now.items c.args.name.now c.blanks.out.items c.push-2.new.self.items c.blanks._blank c.args.count same c.blanks.invariant
    c.in_ok-push-3.ensures.items
