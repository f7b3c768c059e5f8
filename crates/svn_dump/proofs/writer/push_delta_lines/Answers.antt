use Rattle.std.proofs.Common.{◌++◌, codes}
use Rattle.std.proofs.lemmas.Result.{on_ok_weaker}
use Rattle.svn_dump.specs.Written.{line, sum_lines, base_sum_lines}
use Rattle.svn_dump.proofs.Appends.{then_appended}
use Rattle.svn_dump.proofs.writer.push_delta_lines.Goals as goal

pub returns : goal.returns
returns c =
    let text = c.args.text.now in
    let out = c.args.out.now.items in
    let first = line (codes "Text-delta") (codes "true") in
    let base = base_sum_lines text.base_md5 text.base_sha1 in
    on_ok_weaker c.push_sums.result
    (λ pushed. then_appended out (first ++ base) (sum_lines text.md5 text.sha1) c.push_base_sums.new.out.items c.push_sums.new.out.items
    (then_appended out first base c.push_line.new.out.items c.push_base_sums.new.out.items c.in_ok-push_line.ensures
    c.in_ok-push_base_sums.ensures)
    pushed)
    c.push_sums.ensures
