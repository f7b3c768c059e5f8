use Rattle.std.proofs.Common.{◌≡◌, [], ◌∷◌, IfOk, arith, ap, sym, subst, ◌∙◌}
use Rattle.svn_lists.proofs.Splits.{slice_split_one}
use Rattle.svn_types.specs.Names.{Path, is_slash}
use Rattle.svn_types.specs.NameFaults.{names_fault}
use Rattle.svn_types.proofs.NameLemmas.{first_without_fault}
use Rattle.svn_types.proofs.rel_path.parts_of.Goals as goal

pub from_checked-requires : goal.from_checked-requires
from_checked-requires c =
    let parts = slice_split_one is_slash c.args.text.now (omega (arith, c.requires.counted, c.in-1.is)) in
    first_without_fault c.args.text.now [] (sym (ap names_fault parts) ∙ c.requires.checked)

pub returns-in_ok-from_checked-in-1 : goal.returns-in_ok-from_checked-in-1
returns-in_ok-from_checked-in-1 c =
    let parts = slice_split_one is_slash c.args.text.now (omega (arith, c.requires.counted, c.in-1.is)) in
    subst (λ (names : Path). IfOk c.one.result (λ p. p ≡ names)) ((λ i. c.in_ok-from_checked-in-1.ensures i ∷ []) ∙ sym parts) c.one.ensures
