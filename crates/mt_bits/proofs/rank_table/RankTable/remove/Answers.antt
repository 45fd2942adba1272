use Rattle.std.proofs.lemmas.Grind.{common_steps}
use Rattle.std.proofs.Common.{◌≡◌, ◌/◌, ◌<◌, ◌≤◌, ℕ, List, length, map, set, ap, subst, sym, arith}
use Rattle.std.proofs.lemmas.List.{length-map}
use Rattle.mt_bits.specs.Tables.{told_by, words_of, TakesRank}
use Rattle.mt_bits.proofs.Flags.{cleared}
use Rattle.mt_bits.proofs.TableFacts.{rank_less, rank_none}
use Rattle.mt_bits.proofs.rank_table.RankTable.remove.Goals as goal

pub returns-then-place-row : goal.returns-then-place-row
returns-then-place-row c =
    let rows = c.self.inside.rows in
    let k = c.args.list in
    let rank = c.args.rank in
    let within : k < length rows = omega (arith, c.requires, ap length c.self.view_is, length-map rows told_by) in
    let reaches : rank / 64 < length (words_of rows k) = omega (arith, c.if-place-row.true, ap length c.row-row.ensures) in
    let is : c.set.new.self ≡ set rows k (cleared (words_of rows k) rank) = rw c.row-row.ensures at c.set.ensures in
    subst (λ told. TakesRank told (map told_by c.set.new.self) k rank) c.self.view_is
    (subst (λ (rs : List (List ℕ)). TakesRank (map told_by rows) (map told_by rs) k rank) (sym is) (rank_less rows k rank within reaches))

pub returns-else-place-row : goal.returns-else-place-row
returns-else-place-row c =
    let rows = c.self.inside.rows in
    let past : length (words_of rows c.args.list) ≤ c.args.rank / 64 = omega (arith, ap length c.row-row.ensures, c.if-place-row.false) in
    subst (λ told. TakesRank told told c.args.list c.args.rank) c.self.view_is (rank_none rows c.args.list c.args.rank past)

pub invariant_of-self : goal.invariant_of-self
invariant_of-self c = grind (arith, common_steps)

pub row-row-requires : goal.row-row-requires
row-row-requires c = grind (arith, common_steps)

pub set-requires-clause-row : goal.set-requires-clause-row
set-requires-clause-row c = grind (arith, common_steps)
