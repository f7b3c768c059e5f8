use Rattle.std.proofs.Common.{◌∙◌, ap, subst, map, string_bytes}
use Rattle.std.specs.Prelude.{IsPermutation}
use Rattle.std.proofs.lemmas.List.{take_all}
use Rattle.std.proofs.lemmas.List.Sorted.{IsPermutation-map}
use Rattle.svn_audit.specs.Printing.{line_text}
use Rattle.svn_answers.proofs.topics.sorted_lines.Goals as goal

pub returns-clause-same : goal.returns-clause-same
returns-clause-same c =
    let all =
    c.loop-line.invariant
    ∙ ap (map line_text) (take_all c.loop-line.line-index c.deref-line-items.result.now c.loop-line-test.false ∙ c.deref-line-items.ensures.value ∙ c.in_ok-update_lines.ensures.lines) in
    subst (λ texts. IsPermutation texts (map string_bytes c.sort_unstable.new.self.items)) all
    (IsPermutation-map string_bytes c.loop-line.texts.items c.sort_unstable.new.self.items c.sort_unstable.ensures.permutation)
