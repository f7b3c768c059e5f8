use Rattle.std.proofs.Common.{◌∙◌, refl, sym, subst, map, string_bytes, string_cmp}
use Rattle.std.specs.Prelude.{IsPermutation, IsSorted}
use Rattle.std.proofs.lemmas.Result.{on_ok_weaker}
use Rattle.svn_model.specs.Nodes.{get_in}
use Rattle.svn_audit.specs.Lines.{update_lines}
use Rattle.svn_audit.specs.Printing.{line_text}
use Rattle.svn_answers.proofs.topics.write_unflushed.Goals as goal

pub returns-in_ok-lines-in-Update-clause-told : goal.returns-in_ok-lines-in-Update-clause-told
returns-in_ok-lines-in-Update-clause-told g c =
    let w = get_in c.args.copy.now in
    let calls = c.deref.ensures.value ∙ c.in_ok-calls-in-Update.ensures.calls in
    let lines = sym c.deref-in-Update.ensures.value in
    let same =
    subst (λ texts. IsPermutation (map line_text (update_lines w c.deref.result.now)) (map string_bytes texts)) lines
    c.in_ok-lines-in-Update.ensures.same in
    rw c.in-Update.is
    (on_ok_weaker c.write_lines.result
    (λ written. (
      _,
      record {
        sorted = c.deref-in-Update.result.now;
        same = subst (λ calls. IsPermutation (map line_text (update_lines w calls)) (map string_bytes c.deref-in-Update.result.now)) calls same;
        in_order = subst (IsSorted string_cmp) lines c.in_ok-lines-in-Update.ensures.sorted;
        lines = refl;
      },
      written,
    ))
    c.write_lines.ensures.written)
