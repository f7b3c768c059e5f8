use Rattle.std.proofs.Common.{rules}
use Rattle.std.specs.Prelude.{Some, None}
use Rattle.svn_folder.specs.declared.step.Step.TheVariants.{Make}
use Rattle.svn_folder.specs.declared.entry.Entry.TheVariants.{File}
use Rattle.svn_disk.specs.Places.{is_temporary}
use Rattle.svn_folder.specs.States.{seen}
use Rattle.svn_folder.specs.Steps.{after}
use Rattle.svn_disk.specs.Ends.{IsSameBut}
use Rattle.svn_disk.proofs.Going.{taken, refused, took, one_each}
use Rattle.svn_disk.proofs.Ends.{took_turns, makes_put, put_but}
use Rattle.svn_disk.proofs.layout.Admin.make_text.Goals as goal

pub returns-in_err-make_file-clause-steps : goal.returns-in_err-make_file-clause-steps
returns-in_err-make_file-clause-steps g c =
    let made = c.in_err-make_file.ensures.made in
    let step = Make c.args.path.now (File made.bytes c.args.mode) None in
    let n = c.args.self.now.name in
    let stops = refused step (g.F.Folder.past c.args.folder.now) (g.F.Folder.past c.make_file.new.self) c.in_err-make_file.field-0.0 made.takes (is_temporary n)
    (one_each (is_temporary n) step c.requires) in search rules

pub returns-clause-steps : goal.returns-clause-steps
returns-clause-steps g c =
    let made = c.in_ok-make_file.ensures.made in
    let step = Make c.args.path.now (File made.bytes c.args.mode) None in
    let n = c.args.self.now.name in (
      taken step (g.F.Folder.past c.args.folder.now) (g.F.Folder.past c.make_file.new.self) c.in_ok-make_file.field-0 made.takes (is_temporary n)
          (one_each (is_temporary n) step c.requires),
      tt,
    )

pub returns-clause-others : goal.returns-clause-others
returns-clause-others g c =
    let made = c.in_ok-make_file.ensures.made in
    let p = c.args.path.now in
    let step = Make p (File made.bytes c.args.mode) None in
    let old = g.F.Folder.past c.args.folder.now in
    let new = g.F.Folder.past c.make_file.new.self in
    took_turns (IsSameBut p) step old new (λ s. put_but p (Some (File made.bytes c.args.mode)) (seen s) (seen (after step s)) (makes_put p (File made.bytes c.args.mode) None s))
    (took step old new c.in_ok-make_file.field-0 made.takes)
