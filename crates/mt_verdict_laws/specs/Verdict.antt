-- The laws of the verdict. It is that a match is stable exactly if the match is stable. Every other verdict names the
-- first finding against it, in this project's own order.
use Rattle.std.specs.Prelude.{◌≡◌, ◌↔◌, ℕ, ◌<◌, ◌≤◌, ◌&&◌, [], ◌∷◌, Some, None, length, slice_index_or, IsTrue, IsFalse}
use Rattle.mt_terms.specs.Lists.{Set}
use Rattle.mt_terms.specs.Market.{Market, applicants, agent_of, leads}
use Rattle.mt_terms.specs.Matching.{Places, options, holds}
use Rattle.mt_terms.specs.Stability.{fits, stable, would_be_taken, blocks}
use Rattle.mt_terms.specs.Verdict.{is_unlisted, is_over, verdict_of}
use Rattle.mt_terms.specs.WellFormed.{IsWellFormed}
use Rattle.mt_terms.specs.declared.numbers.Agent.{Agent}
use Rattle.mt_terms.specs.declared.numbers.Agent.TheVariants.{Single}
use Rattle.mt_terms.specs.declared.verdict.Verdict.{Verdict}
use Rattle.mt_terms.specs.declared.verdict.Verdict.TheVariants.{Stable, Unlisted, Over, Blocks}
use Rattle.mt_terms.specs.Examples.Markets

-- a number is the first below n that passes a test
pub record IsFirstBelow (test : Set) (n a : ℕ) : Type 0 where
  pub within : a < n
  pub passes : IsTrue (test a)
  pub none_before : (b : ℕ) → b < a → IsFalse (test b)

-- The match doesn't fit: this applicant is the first whose place isn't allowed by its agent's list or by its
-- program's.
pub record IsFirstUnlisted (m : Market) (places : Places) (a : ℕ) : Type 0 where
  pub is_first : IsFirstBelow (is_unlisted m places) (applicants m) a
  pub unfit : IsFalse (fits m places)

-- The match doesn't fit: all places are allowed, and this program is the first with more applicants than its
-- quota.
pub record IsFirstOver (m : Market) (places : Places) (p : ℕ) : Type 0 where
  pub all_listed : (a : ℕ) → a < applicants m → IsFalse (is_unlisted m places a)
  pub is_first : IsFirstBelow (is_over m places) (length m.programs) p
  pub unfit : IsFalse (fits m places)

-- This option of the agent is better than what it has and would be taken, and none before it would be.
pub record IsFirstTaken (m : Market) (places : Places) (g : Agent) (option : ℕ) : Type 0 where
  pub within : option < length (options m g)
  pub is_better : (k : ℕ) → k ≤ option → IsFalse (holds places (slice_index_or (options m g) k []))
  pub is_taken : IsTrue (would_be_taken m places (slice_index_or (options m g) option []))
  pub none_before : (k : ℕ) → k < option → IsFalse (would_be_taken m places (slice_index_or (options m g) k []))

-- The match fits, and this agent is the first that blocks it, by the number of the single or of the couple's first
-- member. This option is the first with which it blocks.
pub record IsFirstBlocker (m : Market) (places : Places) (g : Agent) (option : ℕ) : Type 0 where
  pub fitting : IsTrue (fits m places)
  pub number : ℕ
  pub is_first : IsFirstBelow (λ a. leads m a && blocks m places (agent_of m a)) (applicants m) number
  pub is_agent : agent_of m number ≡ g
  pub with_option : IsFirstTaken m places g option

-- What a verdict says of a match.
abbrev pub VerdictSays : Market → Places → Verdict → Type 0
VerdictSays m places Stable = IsTrue (stable m places)
VerdictSays m places (Unlisted a) = IsFirstUnlisted m places a
VerdictSays m places (Over p) = IsFirstOver m places p
VerdictSays m places (Blocks b) = IsFirstBlocker m places b.agent b.option

-- The verdict of a match says what is so of it.
abbrev pub VerdictInWords : Type 0
VerdictInWords =
    (m : Market) → IsWellFormed m → (places : Places) → length places ≡ applicants m
    → VerdictSays m places (verdict_of m places)

-- The verdict is that a match is stable exactly if it is.
abbrev pub StableVerdict : Type 0
StableVerdict =
    (m : Market) → IsWellFormed m → (places : Places) → length places ≡ applicants m
    → (verdict_of m places ≡ Stable) ↔ IsTrue (stable m places)

-- An example: with the applicants of the rejection chain at their first wishes, the third one blocks with the
-- first program.
abbrev pub ChainIsBlocked : Type 0
ChainIsBlocked = IsFirstBlocker Markets.chain (Some 0 ∷ Some 1 ∷ None ∷ []) (Single 2) 0
