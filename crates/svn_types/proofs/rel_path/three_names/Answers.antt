use Rattle.std.proofs.Common.{◌≡◌, [], ◌∷◌, IfOk, arith, ap, sym, subst, ◌∙◌}
use Rattle.svn_lists.proofs.Splits.{slice_split_three}
use Rattle.svn_types.specs.Names.{Path, is_slash}
use Rattle.svn_types.specs.NameFaults.{names_fault}
use Rattle.svn_types.proofs.NameLemmas.{first_without_fault, rest_without_fault}
use Rattle.svn_types.proofs.rel_path.three_names.Goals as goal

pub from_checked-requires-4 : goal.from_checked-requires-4
from_checked-requires-4 c =
    let parts = slice_split_three is_slash c.args.text.now c.in-Some.first.now c.in-Some.rest.now c.in-Some-split_name.second.now
    c.in-Some-split_name.third.now c.in-Some.ensures.0 c.in-Some-split_name.ensures.0 (omega (arith, c.requires.counted)) in
    first_without_fault c.in-Some-split_name.third.now []
    (rest_without_fault c.in-Some-split_name.second.now (c.in-Some-split_name.third.now ∷ [])
    (rest_without_fault c.in-Some.first.now (c.in-Some-split_name.second.now ∷ c.in-Some-split_name.third.now ∷ [])
    (sym (ap names_fault parts) ∙ c.requires.checked)))

pub returns : goal.returns
returns c =
    let parts = slice_split_three is_slash c.args.text.now c.in-Some.first.now c.in-Some.rest.now c.in-Some-split_name.second.now
    c.in-Some-split_name.third.now c.in-Some.ensures.0 c.in-Some-split_name.ensures.0 (omega (arith, c.requires.counted)) in
    subst (λ (names : Path). IfOk c.three.result (λ p. p ≡ names))
    ((λ i. (c.first.view_is ∙ c.in_ok-first.ensures) i ∷ c.in_ok-second.ensures i ∷ c.in_ok-from_checked-3.ensures i ∷ []) ∙ sym parts)
    c.three.ensures
