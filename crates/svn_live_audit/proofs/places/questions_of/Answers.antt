use Rattle.std.proofs.Common.{◌≡◌, ◌<◌, ◌∷◌, ◌++◌, [], length, map, Option, Some, None, Vec, Global, sym, ap, ◌∙◌, take, arith}
use Rattle.std.specs.Prelude.{option_map}
use Rattle.std.proofs.lemmas.List.{take_more}
use Rattle.svn_ask.specs.declared.question.Question.{Question}
use Rattle.svn_live_audit.specs.Rounds.{question_of, question_value}
use Rattle.svn_live_audit.specs.declared.places.Place.{Place}
use Rattle.svn_live_audit.proofs.Lookings.{looked_at, one_more, none_more}
use Rattle.svn_live_audit.proofs.places.questions_of.Goals as goal
use Rattle.svn_live_audit.proofs.places.questions_of.Goals.{in-Some+in_ok-extend_from_slice, in_default}

pub loop-place-preserved : goal.loop-place-preserved
loop-place-preserved c =
    let i = c.loop-place.place-index in
    let places = c.args.places.now in
    let done = c.loop-place.questions.items in
    let new = c.match-question_of.questions.items in
    let within : i < length places = omega arith in
    let more = take_more places i c.place-item.result within ∙ ap (λ (p : Place). take i places ++ p ∷ []) (sym c.place-item.is) in
    looked_at (λ (p : Place). question_of p.node.now) places i c.place-item.result (map question_value done) (map question_value new) more
    c.loop-place.invariant
    (elim c.match-question_of.branch [
      | in-Some+in_ok-extend_from_slice w ↦ one_more question_value done new w.in-Some.question (question_of c.place-item.result.node.now)
          (ap (λ (v : Vec Question Global). v.items) w.questions-is ∙ w.in_ok-extend_from_slice.ensures.items)
          (sym c.question_of.ensures ∙ ap (option_map question_value) w.in-Some.is)
      | in_default w ↦ none_more question_value done new (question_of c.place-item.result.node.now)
          (ap (λ (v : Vec Question Global). v.items) w.questions-is) (sym c.question_of.ensures ∙ ap (option_map question_value) w.in_default.is)
    ])
