use Rattle.std.proofs.Common.{◌≡◌, true, false, sym, ap, subst, ◌∙◌}
use Rattle.std.specs.Prelude.{Option, None, IfOk}
use Rattle.svn_types.specs.Names.{Path}
use Rattle.svn_folder.specs.declared.summary.Summary.{Summary}
use Rattle.svn_folder.specs.Summaries.{Sums}
use Rattle.svn_folder.specs.States.{seen}
use Rattle.svn_disk.specs.Goes.{IsAlways}
use Rattle.svn_disk.specs.Places.{text_place}
use Rattle.svn_disk.specs.Crashes.{IsTextOf}
use Rattle.svn_disk.proofs.Reading.{summed_there, summed_other, sums_none}
use Rattle.svn_disk.proofs.texts.has_text.Goals as goal

pub returns-in-Some-clause-there : goal.returns-in-Some-clause-there
returns-in-Some-clause-there g c =
    let now = g.F.Folder.past c.args.folder.now in
    let sums = subst (λ (o : Option Summary). Sums now c.in_ok-place.place o) c.in-Some.is c.in_ok-found.ensures in
    subst (λ (p : Path). IfOk c.has_name.result (λ has. has ≡ true → IsAlways (λ s. IsTextOf c.args.name.now (seen s p)) now))
    (c.in_ok-place.ensures.place ∙ ap (text_place c.args.admin.now.name) c.as_slice.ensures)
    (summed_there now c.in_ok-place.place c.args.name.now c.in-Some.found c.has_name.result sums c.has_name.ensures)

pub returns-in-Some-clause-lacking : goal.returns-in-Some-clause-lacking
returns-in-Some-clause-lacking g c =
    let now = g.F.Folder.past c.args.folder.now in
    let sums = subst (λ (o : Option Summary). Sums now c.in_ok-place.place o) c.in-Some.is c.in_ok-found.ensures in
    subst (λ (p : Path). IfOk c.has_name.result (λ has. has ≡ false → IsAlways (λ s. IsTextOf c.args.name.now (seen s p) → ⊥) now))
    (c.in_ok-place.ensures.place ∙ ap (text_place c.args.admin.now.name) c.as_slice.ensures)
    (summed_other now c.in_ok-place.place c.args.name.now c.in-Some.found c.has_name.result sums c.has_name.ensures)

pub returns-clause-lacking : goal.returns-clause-lacking
returns-clause-lacking g c = λ has.
    let now = g.F.Folder.past c.args.folder.now in
    let sums = subst (λ (o : Option Summary). Sums now c.in_ok-place.place o) c.in-None.is c.in_ok-found.ensures in
    subst (λ (p : Path). IsAlways (λ s. IsTextOf c.args.name.now (seen s p) → ⊥) now)
    (c.in_ok-place.ensures.place ∙ ap (text_place c.args.admin.now.name) c.as_slice.ensures)
    (sums_none now c.in_ok-place.place c.args.name.now sums)
