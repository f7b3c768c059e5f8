use Rattle.std.proofs.Common.{◌<◌, ◌+◌, ◌^◌, length, drop, refl, ap, ◌∙◌, arith, rules}
use Rattle.std.specs.Prelude.{⊤}
use Rattle.svn_disk.specs.Places.{is_temporary}
use Rattle.svn_disk.specs.Plans.{path_of}
use Rattle.svn_disk.specs.Tasks.{work_node, work_nodes}
use Rattle.svn_disk.proofs.Going.{keeps_none, keeps_more, stops_more, stops_there}
use Rattle.svn_disk.proofs.EndsTexts.{none_come, one_comes, all_came}
use Rattle.svn_disk.proofs.EndsDone.{nodes_rest, nodes_count, nodes_end, work_counts, files_more, files_all}
use Rattle.svn_disk.proofs.EndsAgain.{no_text, number_below}
use Rattle.svn_disk.proofs.completion.Again.prepare_files.Goals as goal

pub loop-item-init : goal.loop-item-init
loop-item-init g c =
    let n = c.args.self.now.admin.now.name in
    let now = g.F.Folder.past c.args.folder.now in
    record {
      steps = keeps_none (is_temporary n) now;
      files = tt;
      ends = none_come n (λ name. ⊤) 0 (work_nodes c.args.self.now.existing.now.copy c.args.work.now) (work_nodes c.args.self.now.existing.now.copy c.args.work.now) now refl refl;
    }

pub returns-in_err-file-clause-steps : goal.returns-in_err-file-clause-steps
returns-in_err-file-clause-steps g c = let stops = stops_more c.loop-item.invariant.steps c.in_err-file.ensures.steps.1 in search rules

pub returns-in_err-push-clause-steps : goal.returns-in_err-push-clause-steps
returns-in_err-push-clause-steps g c = let stops = stops_there (keeps_more c.loop-item.invariant.steps c.in_ok-file.ensures.steps.0) in search rules

pub loop-item-preserved : goal.loop-item-preserved
loop-item-preserved g c =
    let copy = c.args.self.now.existing.now.copy in
    let work = c.args.work.now in
    let k = c.loop-item.item-index in
    let x = c.item-item.result in
    let below : k < length work = omega arith in
    let count = nodes_count copy work in
    let few : length (work_nodes copy work) < 2 ^ 63 = omega (arith, count) in
    let small = number_below c.args.self.now.admin.now.name (λ name. ⊤) c.loop-item.number (work_nodes copy (drop k work)) (work_nodes copy work)
    (g.F.Folder.past c.args.folder.now) (g.F.Folder.past c.loop-item.folder) few c.loop-item.invariant.ends in
    record {
      steps = keeps_more c.loop-item.invariant.steps c.in_ok-file.ensures.steps.0;
      files = files_more copy work k x below c.item-item.is c.loop-item.invariant.files c.in_ok-file.ensures.file;
      ends = one_comes c.args.self.now.admin.now.name (λ name. ⊤) (λ name. ⊤) c.loop-item.number c.saturating_add-number.result (work_nodes copy (drop k work))
          (work_nodes copy (drop (k + 1) work)) (work_nodes copy work) (path_of x) (work_node copy x) (g.F.Folder.past c.args.folder.now)
          (g.F.Folder.past c.loop-item.folder) (g.F.Folder.past c.prepare_one.new.folder) few (nodes_rest copy work k x below c.item-item.is)
          (work_counts copy x c.loop-item.number c.files_in.result c.saturating_add-number.result c.in_ok-file.ensures.file c.files_in.ensures small
          c.saturating_add-number.ensures) (no_text (work_node copy x)) (λ name held. held) c.in_ok-file.ensures.ends c.loop-item.invariant.ends;
    }

pub returns-clause-files : goal.returns-clause-files
returns-clause-files g c =
    files_all c.args.self.now.existing.now.copy c.args.work.now c.loop-item.item-index (omega arith) c.loop-item.invariant.files

pub returns-clause-ends : goal.returns-clause-ends
returns-clause-ends g c =
    let copy = c.args.self.now.existing.now.copy in
    all_came c.args.self.now.admin.now.name (λ name. ⊤) c.loop-item.number (work_nodes copy (drop c.loop-item.item-index c.args.work.now))
    (work_nodes copy c.args.work.now) (g.F.Folder.past c.args.folder.now) (g.F.Folder.past c.loop-item.folder)
    (nodes_end copy c.args.work.now c.loop-item.item-index (omega arith)) c.loop-item.invariant.ends
