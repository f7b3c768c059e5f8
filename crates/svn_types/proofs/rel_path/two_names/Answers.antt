use Rattle.std.proofs.Common.{◌≡◌, [], ◌∷◌, IfOk, arith, ap, sym, subst, ◌∙◌}
use Rattle.svn_lists.proofs.Splits.{slice_split_two}
use Rattle.svn_types.specs.Names.{Path, is_slash}
use Rattle.svn_types.specs.NameFaults.{names_fault}
use Rattle.svn_types.proofs.NameLemmas.{first_without_fault, rest_without_fault}
use Rattle.svn_types.proofs.rel_path.two_names.Goals as goal

pub from_checked-requires-3 : goal.from_checked-requires-3
from_checked-requires-3 c =
    let parts = slice_split_two is_slash c.args.text.now c.in-Some.first.now c.in-Some.second.now c.in-Some.ensures.0
    (omega (arith, c.requires.counted)) in
    first_without_fault c.in-Some.second.now [] (rest_without_fault c.in-Some.first.now (c.in-Some.second.now ∷ []) (sym (ap names_fault parts) ∙ c.requires.checked))

pub returns : goal.returns
returns c =
    let parts = slice_split_two is_slash c.args.text.now c.in-Some.first.now c.in-Some.second.now c.in-Some.ensures.0
    (omega (arith, c.requires.counted)) in
    subst (λ (names : Path). IfOk c.two.result (λ p. p ≡ names))
    ((λ i. c.in_ok-first.ensures i ∷ c.in_ok-from_checked-2.ensures i ∷ []) ∙ sym parts)
    c.two.ensures
