use Rattle.std.proofs.Common.{rules, ◌≢◌, Some, Err, refl, inr, arith}
use Rattle.svn_drive.proofs.making.make.Goals as goal

pub returns-in-Err-clause-runs : goal.returns-in-Err-clause-runs
returns-in-Err-clause-runs g c =
    let refused : g.E.Editor.answers c.args.editor.now c.args.call (Err c.in-Err.fault) c.call.new.self = search rules in
    let more : c.args.limit ≢ Some c.args.progress.now.made = search rules in
    (0, (omega arith, λ h. h), inr (c.in-Err.fault, refused, refl, more))
