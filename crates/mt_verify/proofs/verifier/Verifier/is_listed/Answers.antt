use Rattle.std.proofs.Common.{sym, ap, ◌∙◌}
use Rattle.mt_terms.specs.Stability.{is_listed}
use Rattle.mt_verify.proofs.MarketFacts.{at_place}
use Rattle.mt_verify.proofs.verifier.Verifier.is_listed.Goals as goal

pub rank-requires-clause-program : goal.rank-requires-clause-program
rank-requires-clause-program c =
    let self = c.args.self.now in
    self.are_places.within c.args.applicant c.in-Some.program (at_place self.matched.now.places c.args.applicant c.in-Some.program c.place.result c.place.ensures c.in-Some.is)

pub returns-then-is_live : goal.returns-then-is_live
returns-then-is_live c =
    c.if-is_live.true ∙ sym (c.is_live.ensures c.if-is_live.true) ∙ ap (is_listed c.args.self.now.roster.now.market c.args.applicant) (sym c.in-Some.is ∙ c.place.ensures)

pub returns-else-is_live : goal.returns-else-is_live
returns-else-is_live c =
    c.is_some.ensures ∙ c.rank.ensures.listed ∙ ap (is_listed c.args.self.now.roster.now.market c.args.applicant) (sym c.in-Some.is ∙ c.place.ensures)
