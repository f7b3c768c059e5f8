use Rattle.std.proofs.Common.{◌≡◌, ◌<◌, ◌^◌, true, ap, ◌∙◌, subst, arith, rules}
use Rattle.std.specs.Prelude.{is_some}
use Rattle.svn_types.specs.Names.{Path}
use Rattle.svn_disk.specs.Tasks.{node_at}
use Rattle.svn_disk.specs.Ends.{IsHeld, CopiesNode, is_noted}
use Rattle.svn_disk.proofs.Adding.{adds_none, adds_some_none, adds_more, adds_some_more, adds_there, temporary_adds, temporary_adds_some}
use Rattle.svn_disk.proofs.Ends.{turns_more}
use Rattle.svn_disk.proofs.EndsTexts.{node_counts, node_held, node_comes}
use Rattle.svn_disk.proofs.EndsChange.{noted_after}
use Rattle.svn_disk.proofs.bringing.Bringing.prepare_file.Goals as goal

pub returns-in_default-clause-adds : goal.returns-in_default-clause-adds
returns-in_default-clause-adds g c =
    let none = adds_none c.args.self.now.admin.now.name (g.F.Folder.past c.args.folder.now) in
    let some = adds_some_none c.args.self.now.admin.now.name (g.F.Folder.past c.args.folder.now) in search rules

pub returns-in_err-clone-clause-adds : goal.returns-in_err-clone-clause-adds
returns-in_err-clone-clause-adds g c =
    let none = adds_none c.args.self.now.admin.now.name (g.F.Folder.past c.args.folder.now) in
    let some = adds_some_none c.args.self.now.admin.now.name (g.F.Folder.past c.args.folder.now) in search rules

pub returns-in_err-is_file-clause-adds : goal.returns-in_err-is_file-clause-adds
returns-in_err-is_file-clause-adds g c =
    let stops = adds_some_more c.in_ok-size.ensures.adds.0
    (temporary_adds_some c.args.self.now.admin.now.name (g.F.Folder.past c.keep_whole.new.folder) (g.F.Folder.past c.prepare_unless_locked.new.folder)
    c.in_err-is_file.ensures.steps.1) in search rules

pub returns-in_err-clone-2-clause-adds : goal.returns-in_err-clone-2-clause-adds
returns-in_err-clone-2-clause-adds g c =
    let stops = adds_there (adds_more c.in_ok-size.ensures.adds.0
    (temporary_adds c.args.self.now.admin.now.name (g.F.Folder.past c.keep_whole.new.folder) (g.F.Folder.past c.prepare_unless_locked.new.folder)
    c.in_ok-is_file.ensures.steps.0)) in search rules

pub returns-in_err-insert-clause-adds : goal.returns-in_err-insert-clause-adds
returns-in_err-insert-clause-adds g c =
    let stops = adds_there (adds_more c.in_ok-size.ensures.adds.0
    (temporary_adds c.args.self.now.admin.now.name (g.F.Folder.past c.keep_whole.new.folder) (g.F.Folder.past c.prepare_unless_locked.new.folder)
    c.in_ok-is_file.ensures.steps.0)) in search rules

pub returns-clause-adds : goal.returns-clause-adds
returns-clause-adds g c = (
  adds_more c.in_ok-size.ensures.adds.0
      (temporary_adds c.args.self.now.admin.now.name (g.F.Folder.past c.keep_whole.new.folder) (g.F.Folder.past c.prepare_unless_locked.new.folder)
      c.in_ok-is_file.ensures.steps.0),
  tt,
)

pub returns-clause-file : goal.returns-clause-file
returns-clause-file g c = node_counts (node_at c.args.self.now.wanted.now.copy c.args.file.0.now) c.in-Some.name.now c.in-Some.ensures

pub returns-clause-held : goal.returns-clause-held
returns-clause-held g c =
    node_held (node_at c.args.self.now.wanted.now.copy c.args.file.0.now) c.in-Some.name.now c.in-Some.ensures (IsHeld c.keep_whole.new.self.sizes.entries)
    c.in_ok-size.ensures.held

pub returns-clause-noted : goal.returns-clause-noted
returns-clause-noted g c =
    subst (λ (q : Path). is_noted c.insert.new.self.entries q ≡ true) c.in_ok-clone-2.ensures.cases (ap is_some c.in_ok-insert.ensures.updates.1)

pub returns-clause-all : goal.returns-clause-all
returns-clause-all g c = λ p noted. ap is_some (c.in_ok-insert.ensures.updates.0 p) ∙ noted_after _ _ _ noted

pub returns-clause-ends : goal.returns-clause-ends
returns-clause-ends g c =
    let n = c.args.self.now.admin.now.name in
    let sizes = c.args.keeping.now.texts.sizes.entries in
    let i = c.args.file.1 in
    let small : i < 2 ^ 64 = omega arith in
    let node = node_at c.args.self.now.wanted.now.copy c.args.file.0.now in
    turns_more (CopiesNode n i (IsHeld sizes) node)
    (λ a b x keeps copies. node_comes node c.in-Some.name.now c.in-Some.ensures n sizes i a b x small c.in_ok-is_file.ensures.stands keeps copies)
    c.in_ok-size.ensures.ends c.in_ok-is_file.ensures.ends
