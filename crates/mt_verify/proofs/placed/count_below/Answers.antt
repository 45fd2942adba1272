use Rattle.std.proofs.Common.{nat_lt, sym, rules}
use Rattle.std.proofs.lemmas.List.Sorted.{IsPartitionPoint-from_clause, IsPartitionedBy-ltb}
use Rattle.mt_terms.proofs.ListFacts.{count_to_point}
use Rattle.mt_verify.proofs.placed.count_below.Goals as goal

pub returns : goal.returns
returns c =
    let parted = IsPartitionedBy-ltb (λ r. r) _ c.args.rank c.requires in
    let point = IsPartitionPoint-from_clause (λ r. nat_lt r c.args.rank) _ _ c.partition_point.ensures.partitioned parted (λ a r q k. search rules) in
    sym (count_to_point (λ r. nat_lt r c.args.rank) _ _ c.partition_point.ensures.bound point)
