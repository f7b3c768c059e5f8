use Rattle.std.proofs.Common.{◌≡◌, Some, sym, ap, subst, ◌∙◌}
use Rattle.std.specs.Prelude.{MatchOption}
use Rattle.std.specs.Option.{option_map}
use Rattle.svn_lists.proofs.Results.{IfErr_returned}
use Rattle.svn_wire.specs.Streams.{HoldsWithin, TakesItem as TakesTokens}
use Rattle.svn_wire.proofs.StreamItems.{fewer_bytes}
use Rattle.svn_ask.specs.declared.fault.AskFault.{AskFault}
use Rattle.svn_ask.specs.Reading.{Fails}
use Rattle.svn_ask.specs.Asking.{taken}
use Rattle.svn_ask.specs.Talks.{state_at, TakesItem, IsRefused}
use Rattle.svn_ask.proofs.HearLemmas.{goes_on, ends, bad_item, bad_answer}
use Rattle.svn_ask.proofs.talk.Talk.take_all.Goals as goal

pub returns-in_err-item-clause-refused : goal.returns-in_err-item-clause-refused
returns-in_err-item-clause-refused g c =
    let from = c.args.self.now in
    let start = state_at from c.args.questions.now in
    let e = c.in_err-item.field-0.0 in
    let Q : AskFault → Type 0 = λ x. IsRefused g.H.Hearer.hears from.speaker c.args.stream.now start c.args.hearer.now c.items.hearer x in
    IfErr_returned (λ x. x ≡ e) Q c.from_residual.result c.from_residual.ensures
    (λ x is. subst Q (sym is)
    (bad_item g.H.Hearer.hears from.speaker c.args.stream.now start c.args.hearer.now c.args.out.now.items c.items.stream
    (state_at c.items.self c.items.questions) c.items.hearer c.items.out.items e c.items.invariant.goes c.in_err-item.ensures.fault))

pub returns-in_err-take-clause-refused : goal.returns-in_err-take-clause-refused
returns-in_err-take-clause-refused g c =
    let from = c.args.self.now in
    let start = state_at from c.args.questions.now in
    let now = state_at c.items.self c.items.questions in
    let e = c.in_err-take.field-0.0 in
    let t : TakesTokens c.items.stream (Some c.in-Some.item.items) c.next_item.new.stream =
    subst (λ o. TakesTokens c.items.stream (option_map (λ v. v.items) o) c.next_item.new.stream) c.in-Some.is c.in_ok-item.ensures.item in
    let same : taken c.items.self.speaker now c.deref.result.now ≡ taken from.speaker now c.in-Some.item.items =
    ap (λ p. taken p now c.deref.result.now) c.items.invariant.speaker ∙ ap (taken from.speaker now) c.deref.ensures.value in
    let Q : AskFault → Type 0 = λ x. IsRefused g.H.Hearer.hears from.speaker c.args.stream.now start c.args.hearer.now c.take.new.hearer x in
    IfErr_returned (λ x. x ≡ e) Q c.from_residual-in_err-take.result c.from_residual-in_err-take.ensures
    (λ x is. subst Q (sym is)
    (bad_answer g.H.Hearer.hears from.speaker c.args.stream.now start c.args.hearer.now c.args.out.now.items c.items.stream c.next_item.new.stream now
    (state_at c.take.new.self c.take.new.questions) c.items.hearer c.take.new.hearer c.items.out.items c.in-Some.item.items e c.items.invariant.goes t
    (subst (Fails e) same c.in_err-take.ensures.fault) c.in_err-take.ensures.kept))

pub items-smaller : goal.items-smaller
items-smaller g c =
    let t : TakesTokens c.items.stream (Some c.in-Some.item.items) c.next_item.new.stream =
    subst (λ o. TakesTokens c.items.stream (option_map (λ v. v.items) o) c.next_item.new.stream) c.in-Some.is c.in_ok-item.ensures.item in
    fewer_bytes c.items.stream c.in-Some.item.items c.next_item.new.stream.bytes t.0

pub items-preserved : goal.items-preserved
items-preserved g c =
    let from = c.args.self.now in
    let start = state_at from c.args.questions.now in
    let now = state_at c.items.self c.items.questions in
    let next = state_at c.take.new.self c.take.new.questions in
    let t : TakesTokens c.items.stream (Some c.in-Some.item.items) c.next_item.new.stream =
    subst (λ o. TakesTokens c.items.stream (option_map (λ v. v.items) o) c.next_item.new.stream) c.in-Some.is c.in_ok-item.ensures.item in
    let same : taken c.items.self.speaker now c.deref.result.now ≡ taken from.speaker now c.in-Some.item.items =
    ap (λ p. taken p now c.deref.result.now) c.items.invariant.speaker ∙ ap (taken from.speaker now) c.deref.ensures.value in
    record {
      speaker = c.in_ok-take.ensures.same ∙ c.items.invariant.speaker;
      goes = goes_on g.H.Hearer.hears from.speaker c.args.stream.now start c.args.hearer.now c.args.out.now.items c.items.stream c.next_item.new.stream now
          next c.items.hearer c.take.new.hearer c.items.out.items c.take.new.out.items c.in-Some.item.items c.items.invariant.goes t
          (subst (λ r. TakesItem g.H.Hearer.hears r c.items.hearer c.items.out.items next c.take.new.hearer c.take.new.out.items) same
          c.in_ok-take.ensures.took);
    }

pub returns-clause-ends : goal.returns-clause-ends
returns-clause-ends g c =
    let from = c.args.self.now in
    ends g.H.Hearer.hears from.speaker c.args.stream.now (state_at from c.args.questions.now) c.args.hearer.now c.args.out.now.items c.items.stream
    c.next_item.new.stream (state_at c.items.self c.items.questions) c.items.hearer c.items.out.items c.items.invariant.goes
    (subst (λ o. TakesTokens c.items.stream (option_map (λ v. v.items) o) c.next_item.new.stream) c.in_default.is c.in_ok-item.ensures.item)

pub returns-clause-held : goal.returns-clause-held
returns-clause-held g c =
    subst (λ o. MatchOption o (HoldsWithin c.next_item.new.stream) (λ _. Unit {0})) c.in_default.is c.in_ok-item.ensures.held
