-- How far the rounds went when they ended without a match.
use Rattle.std.specs.Prelude.{◌≡◌, ◌≤◌, ℕ, None, Some, IsFalse, IsTrue, ⊤}
use Rattle.mt_terms.specs.Market.{Market}
use Rattle.mt_terms.specs.Matching.{Places}
use Rattle.mt_terms.specs.Rounds.{stage}
use Rattle.mt_order_laws.specs.Aside.{entering_at_end}
use Rattle.mt_entry.specs.declared.ends.CoupleEnd.{CoupleEnd}
use Rattle.mt_entry.specs.declared.ends.CoupleEnd.TheVariants.{BudgetSpent, Memory}
use Rattle.mt_entry.specs.declared.ends.Spent.{Spent}

-- what is so of how far the rounds went, if the budget was spent
abbrev pub IfSpent : CoupleEnd → (Spent → Type 0) → Type 0
IfSpent (BudgetSpent s) P = P s
IfSpent Memory P = ⊤

-- When the budget was spent, this couple was entering. All rounds of the budget were made, unless a state came back.
-- Then no budget is enough.
pub record IsSpent (m : Market) (places : Places) (budget : ℕ) (s : Spent) : Type 0 where
  pub entering : entering_at_end m places budget ≡ Some s.couple
  pub within : s.rounds ≤ budget
  pub all_made : IsFalse s.comes_back → s.rounds ≡ budget
  pub endless : IsTrue s.comes_back → (b : ℕ) → stage m places b ≡ None
