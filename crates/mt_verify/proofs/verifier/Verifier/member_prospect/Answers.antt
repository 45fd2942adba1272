use Rattle.std.proofs.Common.{◌≡◌, ◌<◌, ◌==◌, List, ℕ, Some, length, take, length-take, sym, ◌∙◌, arith}
use Rattle.std.specs.List.{position}
use Rattle.mt_terms.specs.Market.{program_of}
use Rattle.mt_terms.specs.Matching.{couple_placement, send}
use Rattle.mt_terms.proofs.ListFacts.{count-le-length}
use Rattle.mt_verify.specs.Moved.{at_moved}
use Rattle.mt_verify.proofs.MarketFacts.{few_ranked}
use Rattle.mt_verify.proofs.ProspectFacts.{ahead_of_member, prospect_ranked}
use Rattle.mt_verify.proofs.verifier.Verifier.member_prospect.Goals as goal

pub overflow_cast-ahead : goal.overflow_cast-ahead
overflow_cast-ahead c =
    let self = c.args.self.now in
    let ranking : List ℕ = (program_of self.roster.now.market c.args.program).ranking in
    omega (
      arith,
      c.count_above_moved-ahead.ensures,
      count-le-length (at_moved self.matched.now.places c.args.partner c.args.partner_place c.args.program) (take c.in_ok-rank.rank ranking),
      length-take c.in_ok-rank.rank ranking,
      few_ranked self.roster.now self.is_registration c.args.program c.requires.program,
    )

pub returns : goal.returns
returns c =
    let self = c.args.self.now in
    let m = self.roster.now.market in
    let places = self.matched.now.places in
    let sent = couple_placement c.args.member c.args.partner (Some c.args.program, c.args.partner_place) in
    let is_at : position (λ x. x == c.args.member) (program_of m c.args.program).ranking ≡ Some c.in_ok-rank.rank =
    sym c.in_ok-rank.ensures.position in
    let member : c.args.member < length places = omega (arith, self.are_places.one_each, c.requires.member) in
    let partner : c.args.partner < length places = omega (arith, self.are_places.one_each, c.requires.partner) in
    prospect_ranked m (send sent places) c.args.member c.args.program c.in_ok-rank.rank c.count_above_moved-ahead.result is_at
    (ahead_of_member places c.args.member c.args.partner c.args.program c.args.partner_place member partner c.requires.apart m
    c.in_ok-rank.rank is_at ∙ sym c.count_above_moved-ahead.ensures)
