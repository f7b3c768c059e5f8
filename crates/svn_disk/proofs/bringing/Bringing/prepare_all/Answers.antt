use Rattle.std.proofs.Common.{◌≡◌, ℕ, List, sym, subst, rules}
use Rattle.std.specs.Prelude.{Option, ⊤}
use Rattle.std.specs.BTreeMap.{BTreeMap}
use Rattle.svn_types.specs.Names.{Path}
use Rattle.svn_wcrows.specs.declared.work.Work.{Work}
use Rattle.svn_disk.specs.Places.{is_temporary}
use Rattle.svn_disk.specs.Tasks.{makings_in, work_nodes}
use Rattle.svn_disk.specs.declared.preparing.Ready.{Ready}
use Rattle.svn_disk.specs.Ends.{Turns, AreCopied, AreFiles, AreNoted}
use Rattle.svn_disk.proofs.Ends.{keeps_turns, turns_more}
use Rattle.svn_disk.proofs.EndsTexts.{on_ok}
use Rattle.svn_disk.proofs.EndsChange.{on_value}
use Rattle.svn_disk.proofs.Adding.{adds_more, adds_some_more, adds_there, adding_there, temporary_adds, temporary_adds_some}
use Rattle.svn_disk.proofs.bringing.Bringing.prepare_all.Goals as goal

pub returns-in_err-clear_temporary-clause-adds : goal.returns-in_err-clear_temporary-clause-adds
returns-in_err-clear_temporary-clause-adds g c =
    let stops = temporary_adds_some c.args.self.now.admin.now.name (g.F.Folder.past c.args.folder.now) (g.F.Folder.past c.clear_temporary.new.folder)
    c.in_err-clear_temporary.ensures.1 in search rules

pub returns-in_err-tables-clause-adds : goal.returns-in_err-tables-clause-adds
returns-in_err-tables-clause-adds g c =
    let stops = adds_there (temporary_adds c.args.self.now.admin.now.name (g.F.Folder.past c.args.folder.now) (g.F.Folder.past c.clear_temporary.new.folder)
    c.in_ok-clear_temporary.ensures.0) in search rules

pub returns-in_err-prepare_files-clause-adds : goal.returns-in_err-prepare_files-clause-adds
returns-in_err-prepare_files-clause-adds g c =
    let stops = adds_some_more (temporary_adds c.args.self.now.admin.now.name (g.F.Folder.past c.args.folder.now) (g.F.Folder.past c.clear_temporary.new.folder)
    c.in_ok-clear_temporary.ensures.0) c.in_err-prepare_files.ensures.adds.1 in search rules

pub returns-clause-adds : goal.returns-clause-adds
returns-clause-adds g c =
    adding_there c.images.result
    (adds_more (temporary_adds c.args.self.now.admin.now.name (g.F.Folder.past c.args.folder.now) (g.F.Folder.past c.clear_temporary.new.folder)
    c.in_ok-clear_temporary.ensures.0) c.in_ok-prepare_files.ensures.adds.0)

pub returns-clause-files : goal.returns-clause-files
returns-clause-files g c =
    on_ok c.images.result (subst (λ (xs : List Work). AreFiles c.args.self.now.wanted.now.copy xs) c.makings.ensures.same c.in_ok-prepare_files.ensures.files)

pub returns-clause-noted : goal.returns-clause-noted
returns-clause-noted g c =
    let keeping = c.prepare_files.new.keeping in
    let work = makings_in c.args.task.now in
    let noted = subst (λ (xs : List Work). AreNoted keeping.sizes.entries xs) c.makings.ensures.same c.in_ok-prepare_files.ensures.noted in
    on_value (λ (ready : Ready). ready.sizes ≡ keeping.sizes) (λ (ready : Ready). AreNoted ready.sizes.entries work) c.images.result
    (λ ready is. subst (λ (sizes : BTreeMap Path (Option ℕ)). AreNoted sizes.entries work) (sym is) noted) c.images.ensures.sizes

pub returns-clause-ends : goal.returns-clause-ends
returns-clause-ends g c =
    let n = c.args.self.now.admin.now.name in
    let copy = c.args.self.now.wanted.now.copy in
    let cleared = keeps_turns (λ a b. ⊤) (is_temporary n) (g.F.Folder.past c.args.folder.now) (g.F.Folder.past c.clear_temporary.new.folder) (λ s more each. tt)
    c.in_ok-clear_temporary.ensures.0 in
    let copied = subst (λ (xs : List Work). Turns (λ a b. AreCopied n 0 (work_nodes copy xs) b) (g.F.Folder.past c.clear_temporary.new.folder)
    (g.F.Folder.past c.prepare_files.new.folder)) c.makings.ensures.same c.in_ok-prepare_files.ensures.ends in
    on_ok c.images.result
    (turns_more (λ a b. AreCopied n 0 (work_nodes copy (makings_in c.args.task.now)) b) (λ a b x nothing are. are) cleared copied)
