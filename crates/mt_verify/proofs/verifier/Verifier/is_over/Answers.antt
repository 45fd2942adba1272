use Rattle.std.proofs.Common.{◌≡◌, ℕ, length, nat_lt, not, nat_le, ap, ◌∙◌, arith}
use Rattle.std.proofs.lemmas.Bool.Decides.{nat_tests}
use Rattle.mt_terms.specs.Matching.{filled}
use Rattle.mt_terms.specs.Market.{program_of}
use Rattle.mt_verify.proofs.MarketFacts.{filled_ranks}
use Rattle.mt_verify.proofs.verifier.Verifier.is_over.Goals as goal

over_test : (quota placed : ℕ) → nat_lt quota placed ≡ not (nat_le placed quota)
over_test quota placed = grind (arith, nat_tests)

pub returns : goal.returns
returns c =
    let self = c.args.self.now in
    let there : length c.placed_at.result.now ≡ filled self.matched.now.places c.args.program =
    ap length c.placed_at.ensures ∙ filled_ranks self.roster.now.market self.matched.now.places self.is_registration.well_formed self.are_places c.requires.listed c.args.program in
    rw (there, c.quota.ensures) (over_test (program_of self.roster.now.market c.args.program).quota (filled self.matched.now.places c.args.program))
