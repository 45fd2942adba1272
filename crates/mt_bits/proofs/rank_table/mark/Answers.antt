use Rattle.std.proofs.Common.{◌≡◌, List, ℕ, map, set, subst, sym}
use Rattle.mt_bits.specs.Tables.{told_by, words_of, AddsRank}
use Rattle.mt_bits.proofs.Flags.{marked}
use Rattle.mt_bits.proofs.TableFacts.{rank_more, same_refl}
use Rattle.mt_bits.proofs.rank_table.mark.Goals as goal

pub returns-clause-marked : goal.returns-clause-marked
returns-clause-marked c =
    let rows = c.args.rows.now in
    let k = c.args.list in
    let rank = c.args.rank in
    let is : c.set.new.self ≡ set rows k (marked (words_of rows k) rank) = rw c.row.ensures at c.set.ensures in
    subst (λ (rs : List (List ℕ)). AddsRank (map told_by rows) (map told_by rs) k rank) (sym is) (rank_more rows rows k rank (same_refl rows) c.requires.list c.requires.place)
