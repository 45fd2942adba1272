use Rattle.std.proofs.Common.{◌∙◌, nat_lt, ap, ap₂, arith, insert, length}
use Rattle.mt_stage_tables.proofs.OrderFacts.{insert_at_place}
use Rattle.mt_terms.proofs.ListFacts.{count-le-length}
use Rattle.mt_stage_tables.proofs.placed.PlacedRanks.insert.Goals as goal

pub insert-requires : goal.insert-requires
insert-requires c = omega (arith, c.count_below-place.ensures, count-le-length (λ r. nat_lt r c.args.rank) c.args.self.now, ap length c.self.view_is)

pub returns-clause-ok : goal.returns-clause-ok
returns-clause-ok c =
    c.in_ok-insert.ensures.items ∙ ap₂ (λ xs i. insert xs i c.args.rank) c.self.view_is c.count_below-place.ensures
    ∙ insert_at_place c.args.self.now c.args.rank c.requires.sorted c.requires.absent
