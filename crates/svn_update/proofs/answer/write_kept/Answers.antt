use Rattle.std.proofs.Common.{◌++◌, ap, sym, ◌∙◌}
use Rattle.std.specs.List.{flat_map}
use Rattle.std.proofs.lemmas.List.{take_all}
use Rattle.std.proofs.Output.{has_written_append, has_written_of_eq}
use Rattle.svn_lists.proofs.Parts.{flat_map-lists}
use Rattle.svn_update.specs.Answers.{call_text}
use Rattle.svn_update.proofs.answer.write_kept.Goals as goal

pub returns : goal.returns
returns g c = λ plain ok.
    let full = c.lists.result.0.now in
    let last = c.lists.result.1.now in
    let before = c.loop-list.invariant plain in
    has_written_of_eq _ _ _ _ _
    (ap (λ lists. flat_map (λ list. flat_map call_text list.items) lists ++ flat_map call_text last)
    (take_all c.loop-list.list-index full c.loop-list-test.false)
    ∙ flat_map-lists (λ list. list.items) call_text full last
    ∙ ap (flat_map call_text) (sym c.lists.ensures))
    (has_written_append _ _ _ _ _ _ before (c.write_calls-2.ensures before.plain ok))
