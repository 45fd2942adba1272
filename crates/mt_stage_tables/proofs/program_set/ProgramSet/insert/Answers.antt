use Rattle.std.proofs.Common.{◌≡◌, ◌∙◌, nat_lt, ◌≤◌, ℕ, List, true, false, insert, length, sym, rules, ap, subst}
use Rattle.std.specs.List.Sorted.{IsNonDecreasing, IsPartitionPoint, IsStrictlySortedBy}
use Rattle.std.specs.Ordering.{nat_cmp}
use Rattle.std.specs.BTreeSet.{insert_key}
use Rattle.mt_terms.specs.Lists.{has}
use Rattle.std.proofs.lemmas.List.Sorted.{IsPartitionPoint-from_clause, IsPartitionedBy-ltb}
use Rattle.std.proofs.lemmas.Map.Keys.{non_decreasing_from_sorted}
use Rattle.mt_terms.proofs.ListFacts.{count_to_point}
use Rattle.mt_stage_tables.proofs.OrderFacts.{has-insert_key, insert_at_place, sorted-insert_key}
use Rattle.mt_stage_tables.proofs.program_set.ProgramSet.insert.Goals as goal

-- a number that no list has is put in its place
put_in : (xs ks : List ℕ) (k place : ℕ) (new : List ℕ) → xs ≡ ks → IsStrictlySortedBy nat_cmp xs → has xs k ≡ false → place ≤ length xs
    → IsPartitionPoint (λ y. nat_lt y k ≡ true) (λ y. nat_lt y k ≡ false) xs place → new ≡ insert xs place k → new ≡ insert_key nat_cmp ks k
put_in xs ks k place new same sorted off bound point is =
    is ∙ ap (λ i. insert xs i k) (sym (count_to_point (λ r. nat_lt r k) xs place bound point)) ∙ insert_at_place xs k sorted off ∙ ap (λ ys. insert_key nat_cmp ys k) same

is_put : (c : goal.In_ok-insert) → c.insert.new.self.items ≡ insert_key nat_cmp c.args.self.now c.args.program
is_put c =
    let k = c.args.program in
    let xs = c.self.inside.programs.items in
    let sorted = c.self.invariant.sorted in
    let read : c.deref-2.result.now ≡ xs = c.deref-2.ensures.value in
    let parted = IsPartitionedBy-ltb (λ r. r) c.deref-2.result.now k (subst IsNonDecreasing (sym read) (non_decreasing_from_sorted xs sorted)) in
    let off : has xs k ≡ false = ap (λ ys. has ys k) (sym c.deref.ensures.value) ∙ sym c.contains.ensures.value ∙ c.if-contains.false in
    let point = IsPartitionPoint-from_clause (λ r. nat_lt r k) c.deref-2.result.now c.partition_point-place.result c.partition_point-place.ensures.partitioned parted (λ a r q j. search rules) in
    put_in c.deref-2.result.now c.args.self.now k c.partition_point-place.result c.insert.new.self.items (read ∙ c.self.view_is)
    (subst (IsStrictlySortedBy nat_cmp) (sym read) sorted) (ap (λ ys. has ys k) read ∙ off) c.partition_point-place.ensures.bound point
    (c.in_ok-insert.ensures.items ∙ ap (λ ys. insert ys c.partition_point-place.result k) (sym read))

pub invariant_of-self-2 : goal.invariant_of-self-2
invariant_of-self-2 c =
    let sorted = subst (IsStrictlySortedBy nat_cmp) c.self.view_is c.self.invariant.sorted in
    record { sorted = subst (IsStrictlySortedBy nat_cmp) (sym (is_put c)) (sorted-insert_key c.args.self.now c.args.program sorted) }

pub returns : goal.returns
returns c = λ p. ap (λ ks. has ks p) (is_put c) ∙ has-insert_key c.args.self.now c.args.program p
