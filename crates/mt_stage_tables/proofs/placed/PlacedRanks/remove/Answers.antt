use Rattle.std.proofs.Common.{◌∙◌, ap, ap₂, arith, remove, length}
use Rattle.mt_stage_tables.proofs.OrderFacts.{remove_at_place}
use Rattle.mt_stage_tables.proofs.placed.PlacedRanks.remove.Goals as goal

pub remove-requires : goal.remove-requires
remove-requires c = omega (arith, c.count_below-place.ensures, (remove_at_place c.args.self.now c.args.rank c.requires.sorted c.requires.present).0, ap length c.self.view_is)

pub returns : goal.returns
returns c =
    c.remove.ensures.items ∙ ap₂ remove c.self.view_is c.count_below-place.ensures
    ∙ (remove_at_place c.args.self.now c.args.rank c.requires.sorted c.requires.present).1
