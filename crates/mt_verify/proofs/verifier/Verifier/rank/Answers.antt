use Rattle.std.proofs.Common.{◌==◌, ap, ◌∙◌, arith}
use Rattle.std.specs.List.{position}
use Rattle.mt_terms.specs.Lists.{has}
use Rattle.mt_terms.specs.Market.{Program}
use Rattle.mt_verify.proofs.verifier.Verifier.rank.Goals as goal
use Rattle.mt_ranks.proofs.LiveMarket.{ranked_programs, ranked_applicants, ranked_program}

pub rank-requires-clause-program : goal.rank-requires-clause-program
rank-requires-clause-program c =
    let self = c.args.self.now in omega (arith, c.requires.program, ranked_programs self.ranks.now self.roster.now.market self.one_market)

pub rank-requires-clause-applicant : goal.rank-requires-clause-applicant
rank-requires-clause-applicant c =
    let self = c.args.self.now in omega (arith, c.requires.applicant, ranked_applicants self.ranks.now self.roster.now.market self.one_market)

pub returns-clause-position : goal.returns-clause-position
returns-clause-position c =
    let self = c.args.self.now in
    c.rank.ensures.position ∙ ap (λ (p : Program). position (λ x. x == c.args.applicant) p.ranking) (ranked_program self.ranks.now self.roster.now.market c.args.program self.one_market)

pub returns-clause-listed : goal.returns-clause-listed
returns-clause-listed c =
    let self = c.args.self.now in
    c.rank.ensures.listed ∙ ap (λ (p : Program). has p.ranking c.args.applicant) (ranked_program self.ranks.now self.roster.now.market c.args.program self.one_market)
