use Rattle.std.proofs.Common.{◌≡◌, ℕ, List, ◌++◌, refl, ap, subst, ◌∙◌, rules}
use Rattle.std.specs.Prelude.{codes, Option, Some, None, IfSome}
use Rattle.svn_types.specs.Names.{Path}
use Rattle.svn_folder.specs.declared.entry.Mode.{Mode}
use Rattle.svn_folder.specs.declared.entry.Entry.TheVariants.{File, Link}
use Rattle.svn_folder.specs.States.{seen}
use Rattle.svn_disk.specs.Goes.{IsAlways}
use Rattle.svn_disk.specs.Places.{text_place}
use Rattle.svn_disk.specs.Ends.{Turns, CopiesText, own_place}
use Rattle.svn_disk.proofs.EndsTexts.{linked_turns}
use Rattle.svn_disk.proofs.prepared.prepare.Goals as goal

pub returns-in-Some-clause-ends : goal.returns-in-Some-clause-ends
returns-in-Some-clause-ends g c =
    let n = c.args.admin.now.name in
    let p = c.in_ok-place.place in
    let target = c.in-Some.target in
    let old = g.F.Folder.past c.args.folder.now in
    let new = g.F.Folder.past c.make.new.folder in
    subst (λ (x : Path). Turns (CopiesText x (own_place n c.args.number)) old new) (c.in_ok-place.ensures.place ∙ ap (text_place n) c.as_slice.ensures)
    (subst (λ (y : Path). Turns (CopiesText p y) old new) c.in_ok-new.ensures.place
    (linked_turns p c.in_ok-new.new (codes "link " ++ target) (Link target) None old new refl
    (subst (λ (o : Option (List ℕ)). IfSome o (λ t. IsAlways (λ s. (mode : Mode) × (seen s p ≡ Some (File (codes "link " ++ t) mode))) old)) c.in-Some.is
    c.in_ok-target.ensures)
    c.in_ok-make-in-Some.ensures.one.0))
