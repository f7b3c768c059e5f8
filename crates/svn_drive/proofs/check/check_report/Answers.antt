use Rattle.std.proofs.Common.{rules, ◌≡◌, ◌+◌, ◌<◌, suc, length, ap, Err, arith}
use Rattle.svn_drive.proofs.Checks.{found_fault, no_fault}
use Rattle.svn_drive.proofs.check.check_report.Goals as goal

pub returns-in_err-check_entry : goal.returns-in_err-check_entry
returns-in_err-check_entry c =
    let inside : c.loop-i.i < length c.args.report.now.entries = omega arith in
    let same : c.from_residual.result ≡ Err c.in_err-check_entry.field-0.0 = search rules in
    record {
      answer =
          rw same (found_fault c.args.repo.now c.args.report.now c.loop-i.i c.in_err-check_entry.field-0.0 inside c.loop-i.invariant
          c.in_err-check_entry.ensures);
      no_entries = λ none. let empty : length c.args.report.now.entries ≡ 0 = ap length none in
          absurd (omega arith);
    }

pub loop-i-preserved : goal.loop-i-preserved
loop-i-preserved c =
    let next : c.loop-i.i + 1 ≡ suc c.loop-i.i = omega arith in
    let inside : c.loop-i.i < length c.args.report.now.entries = omega arith in
    no_fault c.args.repo.now c.args.report.now c.loop-i.i (c.loop-i.i + 1) next inside c.loop-i.invariant c.in_ok-check_entry.ensures
