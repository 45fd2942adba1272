use Rattle.std.proofs.Common.{arith}
use Rattle.mt_verify.proofs.verifier.Verifier.is_live.Goals as goal
use Rattle.mt_ranks.proofs.LiveMarket.{ranked_applicants}

pub live-entry-items-requires : goal.live-entry-items-requires
live-entry-items-requires c =
    let self = c.args.self.now in
    omega (arith, c.requires, ranked_applicants self.ranks.now self.roster.now.market self.one_market)
