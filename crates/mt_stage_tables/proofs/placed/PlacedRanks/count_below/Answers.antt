use Rattle.std.proofs.Common.{◌≡◌, nat_lt, sym, rules, ◌∙◌, ap, subst}
use Rattle.std.specs.List.Sorted.{IsNonDecreasing}
use Rattle.mt_terms.specs.Lists.{count}
use Rattle.std.proofs.lemmas.List.Sorted.{IsPartitionPoint-from_clause, IsPartitionedBy-ltb}
use Rattle.std.proofs.lemmas.Map.Keys.{non_decreasing_from_sorted}
use Rattle.mt_terms.proofs.ListFacts.{count_to_point}
use Rattle.mt_stage_tables.proofs.placed.PlacedRanks.count_below.Goals as goal

pub returns : goal.returns
returns c =
    let xs = c.deref.result.now in
    let is : xs ≡ c.args.self.now = c.deref.ensures.value ∙ c.self.view_is in
    let parted = IsPartitionedBy-ltb (λ r. r) xs c.args.rank (subst IsNonDecreasing (sym is) (non_decreasing_from_sorted c.args.self.now c.requires)) in
    let point = IsPartitionPoint-from_clause (λ r. nat_lt r c.args.rank) xs c.partition_point.result c.partition_point.ensures.partitioned parted (λ a r q k. search rules) in
    sym (count_to_point (λ r. nat_lt r c.args.rank) xs c.partition_point.result c.partition_point.ensures.bound point) ∙ ap (count (λ r. nat_lt r c.args.rank)) is
