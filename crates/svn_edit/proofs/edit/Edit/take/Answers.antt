use Rattle.std.proofs.Common.{◌≡◌, ◌||◌, ◌++◌, ◌∷◌, [], true, false, refl, sym, ap, ◌∙◌, true≢false}
use Rattle.std.specs.List.{list_any}
use Rattle.std.proofs.Math.Bool.{or-true}
use Rattle.svn_lists.proofs.Results.{OnOk_then}
use Rattle.svn_lists.proofs.Somewhere.{any_push}
use Rattle.svn_editor.specs.Calls.{is_last}
use Rattle.svn_edit.proofs.edit.Edit.take.Goals as goal

pub returns-then-is_last-clause-accepted : goal.returns-then-is_last-clause-accepted
returns-then-is_last-clause-accepted c = OnOk_then c.take_in_order-answer.result c.take_in_order-answer.ensures.accepted
    (λ taken w0 calls s.
    let t = taken w0 calls s in
    let last : is_last c.args.call.now ≡ true = sym c.is_last.ensures ∙ c.if-is_last.true in
    let ended : list_any is_last (calls ++ c.args.call.now ∷ []) ≡ true =
    any_push is_last calls c.args.call.now ∙ ap (λ b. list_any is_last calls || b) last ∙ or-true (list_any is_last calls) in
    record {
      order = t.order;
      copy = t.copy;
      stage = λ h. absurd (true≢false (sym ended ∙ h));
      going = λ h. absurd (true≢false (sym ended ∙ h));
      ended = λ h. refl;
      left = λ h. t.left last;
      noted = λ h. absurd (true≢false (sym ended ∙ h));
    })

pub returns-else-is_last-clause-accepted : goal.returns-else-is_last-clause-accepted
returns-else-is_last-clause-accepted c = OnOk_then c.take_in_order-answer.result c.take_in_order-answer.ensures.accepted
    (λ taken w0 calls s.
    let t = taken w0 calls s in
    let going : is_last c.args.call.now ≡ false = sym c.is_last.ensures ∙ c.if-is_last.false in
    let still : list_any is_last (calls ++ c.args.call.now ∷ []) ≡ false = any_push is_last calls c.args.call.now
    ∙ (λ i. t.earlier i || going i) in
    record {
      order = t.order;
      copy = t.copy;
      stage = λ h. t.stage going;
      going = λ h. t.holds going;
      ended = λ h. absurd (true≢false (sym h ∙ still));
      left = λ h. absurd (true≢false (sym h ∙ still));
      noted = λ h. t.noted going;
    })
