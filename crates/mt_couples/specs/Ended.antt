-- How far the rounds of one couple went when they ended without a match.
use Rattle.std.specs.Prelude.{◌≡◌, ◌≤◌, ℕ, Bool, None, IsFalse, IsTrue}
use Rattle.mt_entry.specs.declared.ends.CoupleEnd.{CoupleEnd}
use Rattle.mt_entry.specs.declared.ends.CoupleEnd.TheVariants.{BudgetSpent}
use Rattle.mt_entry.specs.declared.ends.Spent.{Spent}
use Rattle.mt_couples.specs.Staged.{entered_within, settled_within}
use Rattle.mt_couples.specs.declared.rounds.Stage.{Stage}

-- the end of the rounds while a couple was entering
abbrev pub spent_by : ℕ → ℕ → Bool → CoupleEnd
spent_by k rounds comes_back = BudgetSpent (record { couple = k; rounds = rounds; comes_back = comes_back })

-- How far the rounds of the couple that entered last went, from a stage: they don't end with what was left, nor with any
-- number of rounds if a state came back.
pub record IsSpentFrom (t : Stage) (budget left : ℕ) (s : Spent) : Type 0 where
  pub unsettled : settled_within t left ≡ None
  pub couple : s.couple ≡ t.last
  pub within : s.rounds ≤ budget
  pub all_made : IsFalse s.comes_back → s.rounds ≡ budget
  pub endless : IsTrue s.comes_back → (b : ℕ) → settled_within t b ≡ None

-- The same of the rounds of a couple that enters alone.
pub record IsSpentEntering (t : Stage) (k budget left : ℕ) (s : Spent) : Type 0 where
  pub unsettled : entered_within t k left ≡ None
  pub couple : s.couple ≡ k
  pub within : s.rounds ≤ budget
  pub all_made : IsFalse s.comes_back → s.rounds ≡ budget
  pub endless : IsTrue s.comes_back → (b : ℕ) → entered_within t k b ≡ None
