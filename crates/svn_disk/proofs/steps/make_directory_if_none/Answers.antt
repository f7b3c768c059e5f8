use Rattle.std.proofs.Common.{◌≡◌, true, [], ◌∷◌, refl, ap, subst, sym, ◌∙◌, rules}
use Rattle.std.specs.Prelude.{Some, None, OnOk}
use Rattle.svn_types.specs.Names.{Path}
use Rattle.svn_types.specs.Paths.{is_within}
use Rattle.svn_folder.specs.declared.entry.Entry.TheVariants.{Directory}
use Rattle.svn_folder.specs.declared.step.Step.TheVariants.{Make}
use Rattle.svn_folder.specs.States.{seen}
use Rattle.svn_disk.specs.Goes.{IsAlways}
use Rattle.svn_disk.specs.Ends.{Turns, IsPut, Stays}
use Rattle.svn_disk.proofs.Ends.{turns_none, turns_where, one_turns, makes_put, puts_same, made_stays}
use Rattle.svn_disk.proofs.Adding.{adds_none, adds_some_none, made_adding}
use Rattle.svn_disk.specs.Spared.{Spares}
use Rattle.svn_disk.proofs.Sparing.{one_goes_in, free_made}
use Rattle.svn_disk.proofs.steps.make_directory_if_none.Goals as goal

pub returns-in_err-is_vacant-clause-adds : goal.returns-in_err-is_vacant-clause-adds
returns-in_err-is_vacant-clause-adds g c = λ n inside. let stops = adds_some_none n (g.F.Folder.past c.args.folder.now) in search rules

pub returns-in_err-clone-clause-adds : goal.returns-in_err-clone-clause-adds
returns-in_err-clone-clause-adds g c = λ n inside. let stops = adds_some_none n (g.F.Folder.past c.args.folder.now) in search rules

pub returns-then-branch-clause-adds : goal.returns-then-branch-clause-adds
returns-then-branch-clause-adds g c = λ n inside.
    let p = c.in_ok-clone.field-0 in
    let same : p ≡ c.args.path.now = c.in_ok-clone.ensures.cases in
    let old = g.F.Folder.past c.args.folder.now in
    made_adding n p Directory None old (g.F.Folder.past c.make.new.folder) c.make.result (ap (is_within (n ∷ [])) same ∙ inside)
    (subst (λ (q : Path). IsAlways (λ s. seen s q ≡ None) old) (sym same) (c.in_ok-is_vacant.ensures.vacant c.if-branch.true)) c.make.ensures.does c.make.ensures.one

pub returns-clause-adds : goal.returns-clause-adds
returns-clause-adds g c = λ n inside. (adds_none n (g.F.Folder.past c.args.folder.now), tt)

pub returns-then-branch-clause-there : goal.returns-then-branch-clause-there
returns-then-branch-clause-there g c =
    let p = c.in_ok-clone.field-0 in
    let old = g.F.Folder.past c.args.folder.now in
    let new = g.F.Folder.past c.make.new.folder in
    subst (λ (q : Path). OnOk c.make.result (Turns (IsPut q (Some Directory)) old new)) c.in_ok-clone.ensures.cases
    (one_turns (IsPut p (Some Directory)) (Make p Directory None) old new c.make.result (makes_put p Directory None) c.make.ensures.one)

pub returns-then-branch-clause-stays : goal.returns-then-branch-clause-stays
returns-then-branch-clause-stays g c =
    let p = c.in_ok-clone.field-0 in
    let same : p ≡ c.args.path.now = c.in_ok-clone.ensures.cases in
    let old = g.F.Folder.past c.args.folder.now in
    let new = g.F.Folder.past c.make.new.folder in
    made_stays p Directory old new c.make.result (subst (λ (q : Path). IsAlways (λ s. seen s q ≡ None) old) (sym same) (c.in_ok-is_vacant.ensures.vacant c.if-branch.true))
    (one_turns (IsPut p (Some Directory)) (Make p Directory None) old new c.make.result (makes_put p Directory None) c.make.ensures.one)

pub returns-clause-there : goal.returns-clause-there
returns-clause-there g c =
    turns_where (λ s. seen s c.args.path.now ≡ Some Directory) (IsPut c.args.path.now (Some Directory)) (g.F.Folder.past c.args.folder.now)
    (c.in_ok-is_vacant.ensures.there c.if-branch.false) (λ s is. puts_same c.args.path.now (Some Directory) (seen s) is)

pub returns-clause-stays : goal.returns-clause-stays
returns-clause-stays g c = turns_none Stays (g.F.Folder.past c.args.folder.now) (λ a r some. refl)

pub returns-then-branch-clause-spares : goal.returns-then-branch-clause-spares
returns-then-branch-clause-spares g c = λ known n.
    let p = c.in_ok-clone.field-0 in
    let old = g.F.Folder.past c.args.folder.now in
    let free = subst (λ (q : Path). IsAlways (λ s. seen s q ≡ None) old) (sym c.in_ok-clone.ensures.cases) (c.in_ok-is_vacant.ensures.vacant c.if-branch.true) in
    one_goes_in (Spares known n) (Make p Directory None) old (g.F.Folder.past c.make.new.folder) (free_made known n p Directory None old free) c.make.result
    c.make.ensures.one
