use Rattle.std.proofs.Common.{◌-◌, length, nat_lt, take, drop, rules}
use Rattle.std.specs.Prelude.{nat_le}
use Rattle.std.proofs.lemmas.List.Sorted.{IsPartitionPoint-from_clause, IsPartitionedBy-leb, IsPartitionedBy-ltb}
use Rattle.mh_profile.proofs.KeyRuns.{rest_rises, run_found}
use Rattle.mh_profile.proofs.keyed.run_of.Goals as goal

pub returns : goal.returns
returns g c =
    let items = c.args.items.now in
    let start = c.partition_point-start.result in
    let key = g.T.Keyed.key in
    let first = IsPartitionPoint-from_clause (λ x. nat_lt (key x) c.args.key) items start c.partition_point-start.ensures.partitioned (IsPartitionedBy-ltb key items c.args.key c.requires.ordered) (λ a r q k. search rules) in
    let rest = take (length items - start) (drop start items) in
    let second = IsPartitionPoint-from_clause (λ x. nat_le (key x) c.args.key) rest c.partition_point-end.result c.partition_point-end.ensures.partitioned (IsPartitionedBy-leb key rest c.args.key (rest_rises key items start c.requires.ordered)) (λ a r q k. search rules) in
    record { value = run_found key items c.args.key start c.partition_point-end.result c.partition_point-start.ensures.bound c.partition_point-end.ensures.bound first second }
