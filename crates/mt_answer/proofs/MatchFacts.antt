-- A stable match has a place of the market for each applicant.
use Rattle.std.proofs.Common.{◌≡◌, true, not}
use Rattle.std.specs.List.{list_any}
use Rattle.std.proofs.lemmas.Bool.{and_parts}
use Rattle.mt_terms.specs.Market.{Market, agents}
use Rattle.mt_terms.specs.Matching.{Places}
use Rattle.mt_terms.specs.Places.{ArePlaces}
use Rattle.mt_terms.specs.Stability.{stable, fits, blocks}
use Rattle.mt_terms.specs.WellFormed.{IsWellFormed}
use Rattle.mt_round_laws.proofs.PlacesFacts.{fits_are_places}

pub stable_are_places : (m : Market) → IsWellFormed m → (places : Places) → stable m places ≡ true → ArePlaces m places
stable_are_places m wf places h = fits_are_places m wf places (and_parts (fits m places) (not (list_any (blocks m places) (agents m))) h).0
