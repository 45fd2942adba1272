use Rattle.std.proofs.Common.{◌≡◌, ℕ, List, IsTrue, take, sym, ap, ◌∙◌, arith}
use Rattle.std.proofs.lemmas.List.{length-take}
use Rattle.mt_terms.specs.Lists.{has}
use Rattle.mt_terms.specs.Market.{program_of}
use Rattle.mt_terms.specs.Matching.{at, is_program}
use Rattle.mt_verify.proofs.MarketFacts.{few_ranked}
use Rattle.mt_terms.proofs.ListFacts.{distinct-take, count-le-length}
use Rattle.mt_verify.proofs.TakenFacts.{count_moved, count_unmoved, one_counts, one_if, one_if-from_byte, one_if_le}
use Rattle.mt_verify.proofs.verifier.Verifier.count_above_moved.Goals as goal
use Rattle.mt_terms.proofs.AgentFacts.{is_program_read}

pub returns-then-not-is_above : goal.returns-then-not-is_above
returns-then-not-is_above c =
    let self = c.args.self.now in
    let front : List ℕ = take c.args.rank (program_of self.roster.now.market c.args.program).ranking in
    c.count_above-there.ensures
    ∙ sym (count_unmoved self.matched.now.places c.args.applicant c.args.program c.args.place front (sym c.is_above.ensures ∙ c.if-not-is_above.true))

pub overflow_sub-result : goal.overflow_sub-result
overflow_sub-result c =
    let self = c.args.self.now in
    let front : List ℕ = take c.args.rank (program_of self.roster.now.market c.args.program).ranking in
    let leaves : c.from.result ≡ one_if (at self.matched.now.places c.args.program c.args.applicant) =
    c.from.ensures ∙ one_if-from_byte c.eq-leaves.result ∙ ap one_if (c.eq-leaves.ensures ∙ is_program_read c.args.program c.place.result ∙ ap (is_program c.args.program) c.place.ensures) in
    omega (arith, c.count_above-there.ensures, one_counts (at self.matched.now.places c.args.program) front c.args.applicant (sym c.is_above.ensures ∙ c.if-not-is_above.false))

pub overflow_add-result : goal.overflow_add-result
overflow_add-result c =
    let self = c.args.self.now in
    let ranking : List ℕ = (program_of self.roster.now.market c.args.program).ranking in
    let comes : c.from-2.result ≡ one_if (is_program c.args.program c.args.place) =
    c.from-2.ensures ∙ one_if-from_byte c.eq-comes.result ∙ ap one_if (c.eq-comes.ensures ∙ is_program_read c.args.program c.args.place) in
    omega (
      arith,
      c.count_above-there.ensures,
      count-le-length (at self.matched.now.places c.args.program) (take c.args.rank ranking),
      length-take c.args.rank ranking,
      few_ranked self.roster.now self.is_registration c.args.program c.requires.program,
      one_if_le (is_program c.args.program c.args.place),
    )

pub returns : goal.returns
returns c =
    let self = c.args.self.now in
    let ranking : List ℕ = (program_of self.roster.now.market c.args.program).ranking in
    let front : List ℕ = take c.args.rank ranking in
    let on : IsTrue (has front c.args.applicant) = sym c.is_above.ensures ∙ c.if-not-is_above.false in
    let leaves : c.from.result ≡ one_if (at self.matched.now.places c.args.program c.args.applicant) =
    c.from.ensures ∙ one_if-from_byte c.eq-leaves.result ∙ ap one_if (c.eq-leaves.ensures ∙ is_program_read c.args.program c.place.result ∙ ap (is_program c.args.program) c.place.ensures) in
    let comes : c.from-2.result ≡ one_if (is_program c.args.program c.args.place) =
    c.from-2.ensures ∙ one_if-from_byte c.eq-comes.result ∙ ap one_if (c.eq-comes.ensures ∙ is_program_read c.args.program c.args.place) in
    omega (
      arith,
      c.count_above-there.ensures,
      one_counts (at self.matched.now.places c.args.program) front c.args.applicant on,
      count_moved self.matched.now.places c.args.applicant c.args.program c.args.place front (distinct-take ranking c.args.rank (self.is_registration.well_formed.rankings_distinct c.args.program)) on,
    )
