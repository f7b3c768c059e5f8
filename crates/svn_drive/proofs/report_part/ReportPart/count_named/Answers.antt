use Rattle.std.proofs.Common.{rules, of_calls, ◌≤◌, ◌∙◌, sym, length}
use Rattle.std.specs.Map.Iter.{deref_pair}
use Rattle.std.proofs.lemmas.List.Sorted.{IsPartitionPoint-from_clause}
use Rattle.svn_drive.proofs.ByName.{apart_next, apart_none, cut_at, cut_one, parts, says}
use Rattle.svn_drive.proofs.report_part.ReportPart.count_named.Goals as goal

pub returns-in-Some-clause-some : goal.returns-in-Some-clause-some
returns-in-Some-clause-some c =
    let xs = c.args.self.now.entries.now in
    let n = c.args.depth in
    let m = c.args.name.now in
    (cut_at deref_pair n m xs c.requires.deeper c.requires.ordered c.requires.first c.partition_point.result c.partition_point.ensures.bound
    (IsPartitionPoint-from_clause (λ x. says n m x.0.now) xs c.partition_point.result c.partition_point.ensures.partitioned
    (parts deref_pair n m xs c.requires.deeper c.requires.ordered c.requires.first) (λ a r f k. search (rules, of_calls)))).0

pub returns-in-Some-clause-cut : goal.returns-in-Some-clause-cut
returns-in-Some-clause-cut c =
    let xs = c.args.self.now.entries.now in
    let n = c.args.depth in
    let m = c.args.name.now in
    (cut_at deref_pair n m xs c.requires.deeper c.requires.ordered c.requires.first c.partition_point.result c.partition_point.ensures.bound
    (IsPartitionPoint-from_clause (λ x. says n m x.0.now) xs c.partition_point.result c.partition_point.ensures.partitioned
    (parts deref_pair n m xs c.requires.deeper c.requires.ordered c.requires.first) (λ a r f k. search (rules, of_calls)))).1

pub returns-in_default-clause-cut : goal.returns-in_default-clause-cut
returns-in_default-clause-cut c =
    let xs = c.args.self.now.entries.now in
    let n = c.args.depth in
    let m = c.args.name.now in
    let looked = c.in-Some.ensures.lookup in
    (cut_one deref_pair n m xs c.requires.first
    (apart_next deref_pair n m xs c.in-Some.next.now looked.3.0 looked.1 c.requires.deeper (sym c.is_named.ensures ∙ c.if-is_named.false))).1

pub returns-in_default-2-clause-cut : goal.returns-in_default-2-clause-cut
returns-in_default-2-clause-cut c =
    let xs = c.args.self.now.entries.now in
    let few : length xs ≤ 1 = search rules in
    (cut_one deref_pair c.args.depth c.args.name.now xs c.requires.first (apart_none deref_pair c.args.depth c.args.name.now xs few)).1
