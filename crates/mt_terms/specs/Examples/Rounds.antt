-- The couples' rounds on the small markets, state by state.
use Rattle.std.specs.Prelude.{◌≡◌, [], ◌∷◌, Some, None}
use Rattle.mt_terms.specs.Examples.Markets
use Rattle.mt_terms.specs.Rounds.{stage, state}
use Rattle.mt_terms.specs.declared.numbers.Agent.TheVariants.{Single, Couple}

-- The couple drives the single out, the single drives the couple out, and after four rounds all is as before.
pub record UnstableRounds : Type 0 where
  pub rounds : Markets.rounds_of Markets.unstable 0 4 (state (Some 0 ∷ None ∷ None ∷ []) (Couple 0 ∷ []))
      ≡ state (None ∷ Some 0 ∷ Some 1 ∷ []) (Single 0 ∷ [])
      ∷ state (Some 1 ∷ None ∷ None ∷ []) (Couple 0 ∷ Single 0 ∷ [])
      ∷ state (Some 1 ∷ None ∷ None ∷ []) (Single 0 ∷ [])
      ∷ state (Some 0 ∷ None ∷ None ∷ []) (Couple 0 ∷ []) ∷ []
  pub spent : stage Markets.unstable (Some 0 ∷ None ∷ None ∷ []) 1000 ≡ None

-- The first couple goes in, the second takes its other pair, the third takes out the first, which opens
-- the second's first pair.
pub record ThreeCouplesRounds : Type 0 where
  pub first : Markets.rounds_of Markets.three_couples 0 1 (state (Markets.nobody 6) (Couple 0 ∷ []))
      ≡ state (Some 0 ∷ Some 2 ∷ None ∷ None ∷ None ∷ None ∷ []) [] ∷ []
  pub second : Markets.rounds_of Markets.three_couples 1 1 (state (Some 0 ∷ Some 2 ∷ None ∷ None ∷ None ∷ None ∷ []) (Couple 1 ∷ []))
      ≡ state (Some 0 ∷ Some 2 ∷ Some 4 ∷ Some 5 ∷ None ∷ None ∷ []) [] ∷ []
  pub third : Markets.rounds_of Markets.three_couples 2 3 (state (Some 0 ∷ Some 2 ∷ Some 4 ∷ Some 5 ∷ None ∷ None ∷ []) (Couple 2 ∷ []))
      ≡ state (None ∷ None ∷ Some 4 ∷ Some 5 ∷ Some 2 ∷ Some 3 ∷ []) (Couple 0 ∷ Couple 1 ∷ [])
      ∷ state (None ∷ None ∷ Some 4 ∷ Some 5 ∷ Some 2 ∷ Some 3 ∷ []) (Couple 1 ∷ [])
      ∷ state (None ∷ None ∷ Some 0 ∷ Some 1 ∷ Some 2 ∷ Some 3 ∷ []) [] ∷ []
  pub enough : stage Markets.three_couples (Markets.nobody 6) 5 ≡ Some (None ∷ None ∷ Some 0 ∷ Some 1 ∷ Some 2 ∷ Some 3 ∷ [], 5)
  pub spent : stage Markets.three_couples (Markets.nobody 6) 4 ≡ None
  pub half : stage Markets.three_couples_half (Markets.nobody 6) 5 ≡ Some (None ∷ None ∷ Some 0 ∷ None ∷ Some 2 ∷ Some 3 ∷ [], 5)
  pub half_spent : stage Markets.three_couples_half (Markets.nobody 6) 4 ≡ None

-- One pair that names a program twice: with the single in between it isn't taken, with the single last it is.
pub record SameProgramRounds : Type 0 where
  pub between : stage Markets.single_between (Some 0 ∷ None ∷ None ∷ []) 1 ≡ Some (Some 0 ∷ None ∷ None ∷ [], 1)
  pub last : Markets.rounds_of Markets.single_last 0 2 (state (Some 0 ∷ None ∷ None ∷ []) (Couple 0 ∷ []))
      ≡ state (None ∷ Some 0 ∷ Some 0 ∷ []) (Single 0 ∷ []) ∷ state (None ∷ Some 0 ∷ Some 0 ∷ []) [] ∷ []
  pub last_stage : stage Markets.single_last (Some 0 ∷ None ∷ None ∷ []) 2 ≡ Some (None ∷ Some 0 ∷ Some 0 ∷ [], 2)
  pub last_spent : stage Markets.single_last (Some 0 ∷ None ∷ None ∷ []) 1 ≡ None
  pub elsewhere : stage Markets.single_elsewhere (Some 1 ∷ None ∷ None ∷ []) 1 ≡ Some (Some 1 ∷ None ∷ None ∷ [], 1)

-- A displaced member takes its partner out, and the partner's seat goes to the single.
pub record PartnerRounds : Type 0 where
  pub first : Markets.rounds_of Markets.partner_withdraws 0 2 (state (Some 0 ∷ Markets.nobody 4) (Couple 0 ∷ []))
      ≡ state (None ∷ Some 0 ∷ Some 0 ∷ None ∷ None ∷ []) (Single 0 ∷ []) ∷ state (None ∷ Some 0 ∷ Some 0 ∷ None ∷ None ∷ []) [] ∷ []
  pub second : Markets.rounds_of Markets.partner_withdraws 1 3 (state (None ∷ Some 0 ∷ Some 0 ∷ None ∷ None ∷ []) (Couple 1 ∷ []))
      ≡ state (None ∷ None ∷ None ∷ Some 0 ∷ Some 1 ∷ []) (Couple 0 ∷ Single 0 ∷ [])
      ∷ state (None ∷ None ∷ None ∷ Some 0 ∷ Some 1 ∷ []) (Single 0 ∷ [])
      ∷ state (Some 0 ∷ None ∷ None ∷ Some 0 ∷ Some 1 ∷ []) [] ∷ []
  pub enough : stage Markets.partner_withdraws (Some 0 ∷ Markets.nobody 4) 5 ≡ Some (Some 0 ∷ None ∷ None ∷ Some 0 ∷ Some 1 ∷ [], 5)
  pub spent : stage Markets.partner_withdraws (Some 0 ∷ Markets.nobody 4) 4 ≡ None

-- The couple that moved is looked at itself, and moves into the seat from which it drove the single.
pub record OwnSeatRounds : Type 0 where
  pub rounds : Markets.rounds_of Markets.own_seat 0 4 (state (Some 1 ∷ None ∷ None ∷ []) (Couple 0 ∷ []))
      ≡ state (None ∷ Some 1 ∷ Some 2 ∷ []) (Single 0 ∷ Couple 0 ∷ [])
      ∷ state (None ∷ Some 1 ∷ Some 2 ∷ []) (Couple 0 ∷ [])
      ∷ state (None ∷ Some 0 ∷ Some 1 ∷ []) (Single 0 ∷ [])
      ∷ state (Some 1 ∷ None ∷ None ∷ []) (Couple 0 ∷ []) ∷ []
  pub spent : stage Markets.own_seat (Some 1 ∷ None ∷ None ∷ []) 1000 ≡ None

-- With a pair that leaves its second member unplaced, the couple of the unstable market comes to rest.
pub record HalfPairRounds : Type 0 where
  pub rounds : Markets.rounds_of Markets.half_pair 0 4 (state (Some 0 ∷ None ∷ None ∷ []) (Couple 0 ∷ []))
      ≡ state (None ∷ Some 0 ∷ Some 1 ∷ []) (Single 0 ∷ [])
      ∷ state (Some 1 ∷ None ∷ None ∷ []) (Couple 0 ∷ Single 0 ∷ [])
      ∷ state (Some 1 ∷ Some 0 ∷ None ∷ []) (Single 0 ∷ [])
      ∷ state (Some 1 ∷ Some 0 ∷ None ∷ []) [] ∷ []
  pub enough : stage Markets.half_pair (Some 0 ∷ None ∷ None ∷ []) 4 ≡ Some (Some 1 ∷ Some 0 ∷ None ∷ [], 4)
  pub spent : stage Markets.half_pair (Some 0 ∷ None ∷ None ∷ []) 3 ≡ None

-- A couple that hasn't entered is not looked at, though a seat on its list is left.
pub record OutsideRounds : Type 0 where
  pub second : Markets.rounds_of Markets.couple_outside 1 2 (state (Some 2 ∷ Some 0 ∷ Markets.nobody 4) (Couple 1 ∷ []))
      ≡ state (None ∷ None ∷ Some 2 ∷ Some 3 ∷ None ∷ None ∷ []) (Couple 0 ∷ []) ∷ state (None ∷ None ∷ Some 2 ∷ Some 3 ∷ None ∷ None ∷ []) [] ∷ []
