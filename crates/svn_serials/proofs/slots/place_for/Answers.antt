use Rattle.std.proofs.Common.{nat_lt, rules}
use Rattle.std.proofs.lemmas.List.Sorted.{IsPartitionPoint-from_clause, IsPartitionedBy-ltb}
use Rattle.svn_serials.proofs.Order.{place_below, place_from, rises}
use Rattle.svn_serials.proofs.slots.place_for.Goals as goal

pub returns-clause-below : goal.returns-clause-below
returns-clause-below g c =
    place_below c.args.slots.now c.partition_point.result c.args.serial c.partition_point.ensures.bound
    (IsPartitionPoint-from_clause
    (λ s. nat_lt s.serial c.args.serial) c.args.slots.now c.partition_point.result c.partition_point.ensures.partitioned
    (IsPartitionedBy-ltb (λ s. s.serial) c.args.slots.now c.args.serial (rises c.args.slots.now c.requires)) (λ a r q k. search rules))

pub returns-clause-from : goal.returns-clause-from
returns-clause-from g c =
    place_from c.args.slots.now c.partition_point.result c.args.serial
    (IsPartitionPoint-from_clause
    (λ s. nat_lt s.serial c.args.serial) c.args.slots.now c.partition_point.result c.partition_point.ensures.partitioned
    (IsPartitionedBy-ltb (λ s. s.serial) c.args.slots.now c.args.serial (rises c.args.slots.now c.requires)) (λ a r q k. search rules))
