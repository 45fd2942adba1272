use Rattle.std.proofs.Common.{arith, ◌∙◌}
use Rattle.mt_verify.proofs.MarketFacts.{placed_at, length_of_placed}
use Rattle.mt_verify.proofs.verifier.Verifier.placed_at.Goals as goal

pub index-requires-2 : goal.index-requires-2
index-requires-2 c =
    let self = c.args.self.now in
    omega (arith, length_of_placed self.roster.now.market self.matched.now.places self.placed.items self.placed_there, c.index.ensures, c.requires, self.placed.ok)

pub returns : goal.returns
returns c =
    let self = c.args.self.now in
    c.deref.ensures.value
    ∙ placed_at self.roster.now.market self.matched.now.places self.placed.items self.placed_there c.args.program c.index.result c.index-2.result.now c.index-2.ensures c.index.ensures c.requires
