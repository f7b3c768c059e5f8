use Rattle.std.proofs.Common.{◌≡◌, ◌<◌, ◌+◌, List, [], ◌∷◌, ◌++◌, length, take, sym, ap, subst, ◌∙◌, arith}
use Rattle.std.proofs.lemmas.List.{take_more}
use Rattle.svn_editor.specs.declared.call.Call.{Call}
use Rattle.svn_model.specs.Nodes.{get_in}
use Rattle.svn_audit.specs.NotedLines.{IsNoted, KnowsEdits}
use Rattle.svn_audit.proofs.lines.update_lines.Goals as goal

pub loop-call-preserved : goal.loop-call-preserved
loop-call-preserved c =
    let calls = c.args.calls.now in
    let i = c.loop-call.call-index in
    let x = c.call-item.result in
    let within : i < length calls = omega arith in
    let more : take (i + 1) calls ≡ take i calls ++ x ∷ [] =
    take_more calls i x within ∙ ap (λ (y : Call). take i calls ++ y ∷ []) (sym c.call-item.is) in
    let w = get_in c.args.copy.now in
    let was = c.loop-call.invariant in
    subst (λ (cs : List Call). IsNoted w cs c.note.new.self × KnowsEdits cs c.note.new.self.edited) (sym more)
    (c.in_ok-note.ensures.noted (take i calls) was.0 was.1, c.in_ok-note.ensures.edits (take i calls) was.0 was.1)
