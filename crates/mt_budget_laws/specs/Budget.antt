-- How many rounds a stage makes, and markets that meet the premises of the laws of rounds.
use Rattle.std.specs.Prelude.{◌≡◌, [], ◌∷◌, Some, None}
use Rattle.mt_terms.specs.Market.{Market}
use Rattle.mt_terms.specs.Matching.{Places}
use Rattle.mt_terms.specs.Best.{IsBest}
use Rattle.mt_terms.specs.Rounds.{stage, IsRoundState, NeedsRounds, state}
use Rattle.mt_terms.specs.WellFormed.{IsWellFormed}
use Rattle.mt_terms.specs.Examples.Markets.{three_couples, partner_withdraws, nobody}
use Rattle.mt_terms.specs.declared.numbers.Agent.TheVariants.{Single, Couple}
use Rattle.mt_round_laws.specs.Rounds.{OfEveryEnd}

-- a stage makes just the rounds that it needs
abbrev pub StageRounds : Type 0
StageRounds = (m : Market) (places : Places) → OfEveryEnd m places (NeedsRounds m places)

-- if the partner withdraws: the single back in its post, beside the second couple
abbrev pub single_back : Places
single_back = Some 0 ∷ None ∷ None ∷ Some 0 ∷ Some 1 ∷ []

-- The premises of the laws of rounds hold in the market where the partner withdraws. There the match of the single
-- alone is the best one, and a stage ends. Once the second couple has moved, the first couple and the single are on
-- the work list. They also hold in the market of three couples when the second one enters, with the first one placed
-- and the third one outside.
pub record PremisesOfRounds : Type 0 where
  pub well_formed : IsWellFormed partner_withdraws
  pub best : IsBest partner_withdraws (Some 0 ∷ nobody 4)
  pub ends : stage partner_withdraws (Some 0 ∷ nobody 4) 5 ≡ Some (single_back, 5)
  pub all_entered : IsRoundState partner_withdraws 1
      (state (None ∷ None ∷ None ∷ Some 0 ∷ Some 1 ∷ []) (Couple 0 ∷ Single 0 ∷ []))
  pub one_outside : IsRoundState three_couples 1
      (state (Some 0 ∷ Some 2 ∷ None ∷ None ∷ None ∷ None ∷ []) (Couple 1 ∷ []))
