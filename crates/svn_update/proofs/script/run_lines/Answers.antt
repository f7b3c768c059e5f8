use Rattle.std.proofs.Common.{◌≡◌, ℕ, List, [], ◌∷◌, ◌++◌, length-append, append_assoc, sym, ap, ◌∙◌, arith}
use Rattle.std.proofs.KnownBytes.{Appends-trans}
use Rattle.svn_lists.proofs.Results.{OnOk_then}
use Rattle.svn_script.specs.Reading.{lines_of}
use Rattle.svn_update.proofs.ScriptLemmas.{one_more_line, next_line, script_ends}
use Rattle.svn_update.proofs.script.run_lines.Goals as goal

pub lines-preserved : goal.lines-preserved
lines-preserved g c =
    let inv = c.lines.invariant in
    let did = c.in_default-run_line.ensures.ok in
    let line = c.without_return.result.now in
    let after = c.in-Some.after.now in
    let next : lines_of c.lines.rest.now ≡ line ∷ lines_of after =
    next_line c.lines.rest.now c.in-Some.line.now after c.in-Some.ensures.parts
    ∙ ap (λ (l : List ℕ). l ∷ lines_of after) (sym c.without_return.ensures) in (
      inv.0 ++ line ∷ [],
      inv.1 ++ did.0,
      inv.2 ∙ ap (λ (ls : List (List ℕ)). inv.0 ++ ls) next ∙ sym (append_assoc inv.0 (line ∷ []) (lines_of after)),
      omega (arith, inv.3, length-append inv.0 (line ∷ [])),
      one_more_line c.args.host.now.settings inv.0 line c.args.state.now c.lines.state c.run_line.new.state inv.1 did.0 inv.4 did.1,
      Appends-trans _ _ _ _ _ inv.5 did.2,
      omega (arith, inv.6, c.in-Some.ensures.shorter),
    )

pub returns-in-Err-clause-bad : goal.returns-in-Err-clause-bad
returns-in-Err-clause-bad g c = λ n e.
    let inv = c.lines.invariant in
    let bad = c.in-Err.ensures.bad n e in
    let bad_line = c.without_return.result.now in
    let after = c.in-Some.after.now in
    let next : lines_of c.lines.rest.now ≡ bad_line ∷ lines_of after =
    next_line c.lines.rest.now c.in-Some.line.now after c.in-Some.ensures.parts
    ∙ ap (λ (l : List ℕ). l ∷ lines_of after) (sym c.without_return.ensures) in (
      inv.1,
      record {
        before = inv.0;
        line = bad_line;
        behind = lines_of after;
        lines = inv.2 ∙ ap (λ (ls : List (List ℕ)). inv.0 ++ ls) next;
        number = bad.0 ∙ inv.3;
        bad = bad.1;
        end = c.lines.state;
        done = inv.4;
      },
      rw bad.2 inv.5,
    )

pub returns-clause-ok : goal.returns-clause-ok
returns-clause-ok g c =
    let inv = c.lines.invariant in
    OnOk_then c.run_line-2.result c.run_line-2.ensures.ok
    (λ did. (
      inv.1 ++ did.0,
      script_ends c.args.host.now.settings c.args.script.now inv.0 c.lines.rest.now c.args.state.now c.lines.state c.run_line-2.new.state inv.1 did.0 inv.2
          c.in_default.ensures.parts inv.4 did.1,
      Appends-trans _ _ _ _ _ inv.5 did.2,
    ))
