use Rattle.std.proofs.Common.{◌<◌, ◌+◌, ◌^◌, length, drop, refl, arith, rules}
use Rattle.svn_disk.specs.Plans.{path_of}
use Rattle.svn_disk.specs.Tasks.{work_node, work_nodes}
use Rattle.svn_disk.specs.Ends.{IsHeld}
use Rattle.svn_disk.proofs.Adding.{adds_none, adds_more, adds_some_more}
use Rattle.svn_disk.proofs.EndsTexts.{none_come, one_comes, all_came}
use Rattle.svn_disk.proofs.EndsDone.{nodes_rest, nodes_count, nodes_end, work_counts, files_more, files_all}
use Rattle.svn_disk.proofs.EndsAgain.{number_below}
use Rattle.svn_disk.proofs.EndsChange.{noted_more, noted_all}
use Rattle.svn_disk.proofs.bringing.Bringing.prepare_files.Goals as goal

pub loop-item-init : goal.loop-item-init
loop-item-init g c =
    let n = c.args.self.now.admin.now.name in
    let now = g.F.Folder.past c.args.folder.now in
    let nodes = work_nodes c.args.self.now.wanted.now.copy c.args.work.now in
    record {
      adds = adds_none n now;
      files = tt;
      noted = tt;
      ends = none_come n (IsHeld c.args.keeping.now.texts.sizes.entries) 0 nodes nodes now refl refl;
    }

pub returns-in_err-prepare_one-clause-adds : goal.returns-in_err-prepare_one-clause-adds
returns-in_err-prepare_one-clause-adds g c = let stops = adds_some_more c.loop-item.invariant.adds c.in_err-prepare_one.ensures.adds.1 in search rules

pub loop-item-preserved : goal.loop-item-preserved
loop-item-preserved g c =
    let copy = c.args.self.now.wanted.now.copy in
    let work = c.args.work.now in
    let k = c.loop-item.item-index in
    let x = c.item-item.result in
    let below : k < length work = omega arith in
    let count = nodes_count copy work in
    let few : length (work_nodes copy work) < 2 ^ 63 = omega (arith, count) in
    let small = number_below c.args.self.now.admin.now.name (IsHeld c.loop-item.keeping.texts.sizes.entries) c.loop-item.number (work_nodes copy (drop k work))
    (work_nodes copy work) (g.F.Folder.past c.args.folder.now) (g.F.Folder.past c.loop-item.folder) few c.loop-item.invariant.ends in
    record {
      adds = adds_more c.loop-item.invariant.adds c.in_ok-prepare_one.ensures.adds.0;
      files = files_more copy work k x below c.item-item.is c.loop-item.invariant.files c.in_ok-prepare_one.ensures.file;
      noted = noted_more c.loop-item.keeping.sizes.entries c.prepare_one.new.keeping.sizes.entries work k x below c.item-item.is c.in_ok-prepare_one.ensures.all
          c.loop-item.invariant.noted c.in_ok-prepare_one.ensures.noted;
      ends = one_comes c.args.self.now.admin.now.name (IsHeld c.loop-item.keeping.texts.sizes.entries) (IsHeld c.prepare_one.new.keeping.texts.sizes.entries)
          c.loop-item.number c.saturating_add-number.result (work_nodes copy (drop k work)) (work_nodes copy (drop (k + 1) work)) (work_nodes copy work)
          (path_of x) (work_node copy x) (g.F.Folder.past c.args.folder.now) (g.F.Folder.past c.loop-item.folder) (g.F.Folder.past c.prepare_one.new.folder) few
          (nodes_rest copy work k x below c.item-item.is)
          (work_counts copy x c.loop-item.number c.files_in.result c.saturating_add-number.result c.in_ok-prepare_one.ensures.file c.files_in.ensures small
          c.saturating_add-number.ensures) c.in_ok-prepare_one.ensures.held c.in_ok-prepare_one.ensures.others c.in_ok-prepare_one.ensures.ends
          c.loop-item.invariant.ends;
    }

pub returns-clause-files : goal.returns-clause-files
returns-clause-files g c =
    files_all c.args.self.now.wanted.now.copy c.args.work.now c.loop-item.item-index (omega arith) c.loop-item.invariant.files

pub returns-clause-noted : goal.returns-clause-noted
returns-clause-noted g c =
    noted_all c.loop-item.keeping.sizes.entries c.args.work.now c.loop-item.item-index (omega arith) c.loop-item.invariant.noted

pub returns-clause-ends : goal.returns-clause-ends
returns-clause-ends g c =
    let copy = c.args.self.now.wanted.now.copy in
    all_came c.args.self.now.admin.now.name (IsHeld c.loop-item.keeping.texts.sizes.entries) c.loop-item.number
    (work_nodes copy (drop c.loop-item.item-index c.args.work.now)) (work_nodes copy c.args.work.now) (g.F.Folder.past c.args.folder.now)
    (g.F.Folder.past c.loop-item.folder) (nodes_end copy c.args.work.now c.loop-item.item-index (omega arith)) c.loop-item.invariant.ends
