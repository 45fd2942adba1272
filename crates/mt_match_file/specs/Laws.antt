-- Laws of what a match says.
use Rattle.std.specs.Prelude.{◌≡◌, List, [], ◌∷◌, ℕ, Ok, Err, IsTrue}
use Rattle.mt_terms.specs.Lists.{has}
use Rattle.mt_terms.specs.Market.{Registered}
use Rattle.mt_terms.specs.Places.{ArePlaces}
use Rattle.mt_terms.specs.Registration.Accepted.{IsRegistration}
use Rattle.mt_terms.specs.Registration.Faults.{Fault}
use Rattle.mt_terms.specs.Registration.Ids.{Bytes}
use Rattle.mt_terms.specs.Text.{is_none_or_id}
use Rattle.mt_order_laws.specs.Reordered.{IsOrderOfSome}
use Rattle.mt_match_file.specs.Submitted.{Submitted, submitted_by}
use Rattle.mt_match_file.specs.declared.codes.TheConstants.{OTHER_RECORD, OTHER_FIELDS, NO_SUCH_APPLICANT, PLACED_TWICE, NO_SUCH_PROGRAM, NOT_PLACED, NO_SUCH_COUPLE, ASIDE_TWICE}

-- the codes of the faults of a match
abbrev pub fault_codes : List ℕ
fault_codes =
    OTHER_RECORD ∷ OTHER_FIELDS ∷ NO_SUCH_APPLICANT ∷ PLACED_TWICE ∷ NO_SUCH_PROGRAM ∷ NOT_PLACED ∷ NO_SUCH_COUPLE ∷ ASIDE_TWICE ∷ []

-- a fault of a match has one of these codes, and its id is an id or empty
pub record IsMatchFault (f : Fault) : Type 0 where
  pub known : IsTrue (has fault_codes f.code)
  pub is_id : IsTrue (is_none_or_id f.id)

abbrev pub FaultsAreNamed : Type 0
FaultsAreNamed = (r : Registered) (rows : List (List Bytes)) (f : Fault) → submitted_by r rows ≡ Err f → IsMatchFault f

-- a match that is read has one place for each applicant: a program of the market, or none
abbrev pub TellsPlaces : Type 0
TellsPlaces = (r : Registered) → IsRegistration r → (rows : List (List Bytes)) (submitted : Submitted) → submitted_by r rows ≡ Ok submitted → ArePlaces r.market submitted.places

-- the couples that it sets aside are couples of the market, each of them once
abbrev pub TellsAside : Type 0
TellsAside = (r : Registered) → IsRegistration r → (rows : List (List Bytes)) (submitted : Submitted) → submitted_by r rows ≡ Ok submitted → IsOrderOfSome r.market submitted.aside
