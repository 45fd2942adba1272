use Rattle.std.proofs.Common.{◌&&◌, ◌==◌, length, ap, sym, ◌∙◌, arith}
use Rattle.std.specs.List.{position}
use Rattle.std.specs.Option.{option_eq}
use Rattle.mt_terms.specs.Market.{Pair}
use Rattle.mt_terms.specs.Matching.{place_of}
use Rattle.mt_verify.proofs.HeldFacts.{found_within, held_couple}
use Rattle.mt_verify.proofs.MarketFacts.{few_pairs}
use Rattle.mt_verify.proofs.verifier.Verifier.held_pair.Goals as goal

pub returns-in_err-option : goal.returns-in_err-option
returns-in_err-option c =
    let self = c.args.self.now in
    c.from_residual.ensures ∙ sym c.in_err-option.was ∙ c.position_of_pair.ensures
    ∙ ap (position (λ (pair : Pair). option_eq ◌==◌ c.place.result pair.0 && option_eq ◌==◌ c.place-2.result pair.1)) c.couple_list.ensures
    ∙ held_couple self.roster.now.market self.matched.now.places c.args.couple c.place.result c.place-2.result
    (c.place.ensures ∙ ap (place_of self.matched.now.places) c.members-first.ensures.first)
    (c.place-2.ensures ∙ ap (place_of self.matched.now.places) c.members-first.ensures.second)

pub overflow_cast-result : goal.overflow_cast-result
overflow_cast-result c =
    let self = c.args.self.now in
    omega (
      arith,
      found_within (λ (pair : Pair). option_eq ◌==◌ c.place.result pair.0 && option_eq ◌==◌ c.place-2.result pair.1) c.couple_list.result.now c.in_ok-option.option
          (sym c.position_of_pair.ensures ∙ c.in_ok-option.was),
      ap length c.couple_list.ensures,
      few_pairs self.roster.now self.is_registration c.args.couple c.requires,
    )

pub returns : goal.returns
returns c =
    let self = c.args.self.now in
    sym c.in_ok-option.was ∙ c.position_of_pair.ensures
    ∙ ap (position (λ (pair : Pair). option_eq ◌==◌ c.place.result pair.0 && option_eq ◌==◌ c.place-2.result pair.1)) c.couple_list.ensures
    ∙ held_couple self.roster.now.market self.matched.now.places c.args.couple c.place.result c.place-2.result
    (c.place.ensures ∙ ap (place_of self.matched.now.places) c.members-first.ensures.first)
    (c.place-2.ensures ∙ ap (place_of self.matched.now.places) c.members-first.ensures.second)
