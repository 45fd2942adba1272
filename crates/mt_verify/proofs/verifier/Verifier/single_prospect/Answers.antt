use Rattle.std.proofs.Common.{◌≡◌, ◌<◌, ◌==◌, List, ℕ, Some, length, take, length-take, sym, ◌∙◌, arith}
use Rattle.std.specs.List.{position}
use Rattle.mt_terms.specs.Market.{program_of}
use Rattle.mt_terms.specs.Matching.{at, send, single_placement}
use Rattle.mt_terms.proofs.ListFacts.{count-le-length}
use Rattle.mt_verify.proofs.MarketFacts.{few_ranked}
use Rattle.mt_verify.proofs.ProspectFacts.{ahead_of_single, prospect_ranked}
use Rattle.mt_verify.proofs.verifier.Verifier.single_prospect.Goals as goal

pub overflow_cast-ahead : goal.overflow_cast-ahead
overflow_cast-ahead c =
    let self = c.args.self.now in
    let ranking : List ℕ = (program_of self.roster.now.market c.args.program).ranking in
    omega (
      arith,
      c.count_above-ahead.ensures,
      count-le-length (at self.matched.now.places c.args.program) (take c.in_ok-rank.rank ranking),
      length-take c.in_ok-rank.rank ranking,
      few_ranked self.roster.now self.is_registration c.args.program c.requires.program,
    )

pub returns : goal.returns
returns c =
    let self = c.args.self.now in
    let m = self.roster.now.market in
    let places = self.matched.now.places in
    let is_at : position (λ x. x == c.args.applicant) (program_of m c.args.program).ranking ≡ Some c.in_ok-rank.rank =
    sym c.in_ok-rank.ensures.position in
    let applicant : c.args.applicant < length places = omega (arith, self.are_places.one_each, c.requires.applicant) in
    prospect_ranked m (send (single_placement c.args.applicant c.args.program) places) c.args.applicant c.args.program
    c.in_ok-rank.rank c.count_above-ahead.result is_at
    (ahead_of_single m places c.args.applicant c.args.program c.in_ok-rank.rank applicant is_at ∙ sym c.count_above-ahead.ensures)
