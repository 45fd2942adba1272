-- A match that fits has a place of the market for each applicant.
use Rattle.std.proofs.Common.{◌≡◌, true}
use Rattle.mt_terms.specs.Market.{Market}
use Rattle.mt_terms.specs.Matching.{Places}
use Rattle.mt_terms.specs.Places.{ArePlaces}
use Rattle.mt_terms.specs.Stability.{fits}
use Rattle.mt_terms.specs.WellFormed.{IsWellFormed}
use Rattle.mt_round_laws.proofs.RoundsFits.{fitting_facts, listing_program}

pub fits_are_places : (m : Market) → IsWellFormed m → (places : Places) → fits m places ≡ true → ArePlaces m places
fits_are_places m wf places h =
    let fit = fitting_facts m wf places h in
    record { one_each = fit.one_each; within = λ a p at_p. listing_program m p a (fit.listed a p at_p) }
