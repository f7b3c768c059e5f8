use Rattle.std.proofs.Common.{refl, rules}
use Rattle.svn_folder.specs.declared.step.Step.TheVariants.{Make}
use Rattle.svn_folder.specs.declared.entry.Entry.TheVariants.{File}
use Rattle.svn_disk.specs.Places.{is_temporary}
use Rattle.svn_disk.proofs.Going.{taken, refused, took, one_each}
use Rattle.svn_disk.proofs.EndsTexts.{copied_turns}
use Rattle.svn_disk.proofs.layout.Admin.copy_file.Goals as goal

pub returns-in_err-copy_file-clause-steps : goal.returns-in_err-copy_file-clause-steps
returns-in_err-copy_file-clause-steps g c =
    let made = c.in_err-copy_file.ensures in
    let step = Make c.args.to.now (File made.bytes c.args.mode) c.args.modified in
    let n = c.args.self.now.name in
    let stops = refused step (g.F.Folder.past c.args.folder.now) (g.F.Folder.past c.copy_file.new.self) c.in_err-copy_file.field-0.0 made.takes (is_temporary n)
    (one_each (is_temporary n) step c.requires) in search rules

pub returns-clause-steps : goal.returns-clause-steps
returns-clause-steps g c =
    let made = c.in_ok-copy_file.ensures in
    let step = Make c.args.to.now (File made.bytes c.args.mode) c.args.modified in
    let n = c.args.self.now.name in (
      taken step (g.F.Folder.past c.args.folder.now) (g.F.Folder.past c.copy_file.new.self) c.in_ok-copy_file.field-0 made.takes (is_temporary n)
          (one_each (is_temporary n) step c.requires),
      tt,
    )

pub returns-clause-ends : goal.returns-clause-ends
returns-clause-ends g c =
    let made = c.in_ok-copy_file.ensures in
    let p = c.args.from.now in
    let q = c.args.to.now in
    let e = File made.bytes c.args.mode in
    let old = g.F.Folder.past c.args.folder.now in
    let new = g.F.Folder.past c.copy_file.new.self in
    copied_turns p q made.bytes made.source.0 e c.args.modified old new refl made.source.1
    (took (Make q e c.args.modified) old new c.in_ok-copy_file.field-0 made.takes)
