-- Whether the lists of records stand, by the lists that are read.
use Rattle.std.proofs.Common.{◌≡◌, Bool, ◌&&◌, List, [], ◌∷◌, ℕ, refl, ap}
use Rattle.std.specs.List.{list_all}
use Rattle.mt_draft_laws.specs.Faultless.{ranking_stands, list_stands, pairs_stand}
use Rattle.mt_terms.specs.Registration.Ids.{stands_once}
use Rattle.mt_terms.specs.Registration.Records.{Record, ProgramRecord, ApplicantRecord, CoupleRecord, WithdrawRecord}
use Rattle.mt_id_lists.specs.Numbering.{Numbering}
use Rattle.mt_id_lists.specs.Reading.{ids_stand}
use Rattle.mt_numbering.specs.Numbered.{program_lists, applicant_lists, couple_lists}
use Rattle.mt_pair_lists.specs.Pairs.{pairs_once, pairs_stand_in}

module _ (n : Numbering ℕ) (stays : Record → Bool) where
  pub rankings_stand : (rs : List Record) → list_all (ranking_stands n.ids) rs ≡ list_all (ids_stand n) (program_lists stays rs)
  rankings_stand [] = refl
  rankings_stand (ProgramRecord id quota list ∷ rs) = ap (λ (b : Bool). stands_once n.ids list && b) (rankings_stand rs)
  rankings_stand (ApplicantRecord id list ∷ rs) = rankings_stand rs
  rankings_stand (CoupleRecord id a b pairs ∷ rs) = rankings_stand rs
  rankings_stand (WithdrawRecord kind id ∷ rs) = rankings_stand rs

  pub choices_stand : (rs : List Record) → list_all (list_stands n.ids) rs ≡ list_all (ids_stand n) (applicant_lists stays rs)
  choices_stand [] = refl
  choices_stand (ProgramRecord id quota list ∷ rs) = choices_stand rs
  choices_stand (ApplicantRecord id list ∷ rs) = ap (λ (b : Bool). stands_once n.ids list && b) (choices_stand rs)
  choices_stand (CoupleRecord id a b pairs ∷ rs) = choices_stand rs
  choices_stand (WithdrawRecord kind id ∷ rs) = choices_stand rs

  pub couples_stand : (half_pairs : Bool) (rs : List Record) → list_all (pairs_stand half_pairs n.ids) rs ≡ list_all (pairs_stand_in half_pairs n) (couple_lists stays rs)
  couples_stand half_pairs [] = refl
  couples_stand half_pairs (ProgramRecord id quota list ∷ rs) = couples_stand half_pairs rs
  couples_stand half_pairs (ApplicantRecord id list ∷ rs) = couples_stand half_pairs rs
  couples_stand half_pairs (CoupleRecord id a b pairs ∷ rs) = ap (λ (b : Bool). pairs_once half_pairs n.ids pairs && b) (couples_stand half_pairs rs)
  couples_stand half_pairs (WithdrawRecord kind id ∷ rs) = couples_stand half_pairs rs
