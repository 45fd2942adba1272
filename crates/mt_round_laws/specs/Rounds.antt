-- What the couples' rounds keep, and where they end.
use Rattle.std.specs.Prelude.{◌≡◌, ℕ, ◌+◌, ◌<◌, List, [], ◌∷◌, length, Some, IsTrue}
use Rattle.mt_terms.specs.Market.{Market}
use Rattle.mt_terms.specs.Matching.{Places}
use Rattle.mt_terms.specs.Stability.{fits, stable}
use Rattle.mt_terms.specs.Best.{IsBest}
use Rattle.mt_terms.specs.Rounds.{Work, round, stage, state, IsRoundState, IsFittingState}
use Rattle.mt_terms.specs.WellFormed.{IsWellFormed}
use Rattle.mt_terms.specs.declared.numbers.Agent.{Agent}
use Rattle.mt_terms.specs.declared.numbers.Agent.TheVariants.{Couple}

-- a step keeps what holds of a state
abbrev pub Keeps : (Work → Type 0) → (Work → Work) → Type 0
Keeps Holds step = (w : Work) → Holds w → Holds (step w)

-- whatever a stage ends in, with any budget
abbrev pub OfEveryEnd : Market → Places → (ℕ → Places × ℕ → Type 0) → Type 0
OfEveryEnd m places Holds = (budget : ℕ) (r : Places × ℕ) → stage m places budget ≡ Some r → Holds budget r

-- the first couple waits in the state between two rounds, after the best match of the singles
abbrev pub FirstCoupleWaits : Type 0
FirstCoupleWaits =
    (m : Market) → IsWellFormed m → (places : Places) → IsBest m places
    → 0 < length m.couples → IsRoundState m 0 (state places (Couple 0 ∷ []))

-- each next couple waits in that state, once the list of the one before it is empty
abbrev pub NextCoupleWaits : Type 0
NextCoupleWaits =
    (m : Market) → IsWellFormed m → (k : ℕ) (places : Places) → IsRoundState m k (state places [])
    → k + 1 < length m.couples → IsRoundState m (k + 1) (state places (Couple (k + 1) ∷ []))

-- once the list of the last couple is empty, the match is stable
abbrev pub LastListIsStable : Type 0
LastListIsStable =
    (m : Market) → IsWellFormed m → (k : ℕ) (places : Places) → IsRoundState m k (state places [])
    → k + 1 ≡ length m.couples → IsTrue (stable m places)

-- a round keeps the state between two rounds
abbrev pub RoundKeeps : Type 0
RoundKeeps = (m : Market) → IsWellFormed m → (k : ℕ) → Keeps (IsRoundState m k) (round m k)

-- a round keeps a match that fits, and a work list of agents of the market
abbrev pub RoundFits : Type 0
RoundFits = (m : Market) → IsWellFormed m → (k : ℕ) → Keeps (IsFittingState m) (round m k)

-- whatever a stage ends in, from the best match of the singles, is stable
abbrev pub StageIsStable : Type 0
StageIsStable =
    (m : Market) → IsWellFormed m → (places : Places) → IsBest m places
    → OfEveryEnd m places (λ budget r. IsTrue (stable m r.0))

-- whatever a stage ends in, from any match that fits, fits
abbrev pub StageFits : Type 0
StageFits =
    (m : Market) → IsWellFormed m → (places : Places) → IsTrue (fits m places)
    → OfEveryEnd m places (λ budget r. IsTrue (fits m r.0))
