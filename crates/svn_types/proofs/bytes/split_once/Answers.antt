use Rattle.std.proofs.Common.{ℕ, ◌+◌, ◌∷◌, Bool, List, nat_eq, take, refl, sym, ap, ◌∙◌}
use Rattle.std.specs.List.{slice_split}
use Rattle.std.proofs.lemmas.List.{take_rest}
use Rattle.svn_lists.proofs.Splits.{slice_split_at, slice_split_nowhere}
use Rattle.svn_types.proofs.bytes.split_once.Goals as goal

pub returns-in-Some-clause-parts : goal.returns-in-Some-clause-parts
returns-in-Some-clause-parts c =
    let p : ℕ → Bool = λ b. nat_eq b c.args.separator in
    slice_split_at p c.args.text.now c.in-Some.end (sym c.in-Some.ensures.place)
    ∙ ap (λ (rest : List ℕ). take c.in-Some.end c.args.text.now ∷ slice_split p rest) (sym (take_rest c.args.text.now (c.in-Some.end + 1)))

pub returns-in-None-clause-parts : goal.returns-in-None-clause-parts
returns-in-None-clause-parts c = slice_split_nowhere (λ b. nat_eq b c.args.separator) c.args.text.now (sym c.in-None.ensures.place)

pub returns-in-Some-clause-place : goal.returns-in-Some-clause-place
returns-in-Some-clause-place c =
    (c.in-Some.end, sym c.in-Some.ensures.place, refl, take_rest c.args.text.now (c.in-Some.end + 1))
