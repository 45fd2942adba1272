use Rattle.mt_verify.proofs.MarketFacts.{at_place}
use Rattle.mt_verify.proofs.verifier.Verifier.rank_at_place.Goals as goal

pub rank-requires-clause-program : goal.rank-requires-clause-program
rank-requires-clause-program c =
    let self = c.args.self.now in
    self.are_places.within c.args.applicant c.in_ok-program.program
    (at_place self.matched.now.places c.args.applicant c.in_ok-program.program c.place.result c.place.ensures c.in_ok-program.was)
