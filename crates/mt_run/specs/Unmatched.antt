-- Why a run has no match, as a refusal beside the couple that was entering.
use Rattle.std.specs.Prelude.{◌≡◌, ℕ, [], None, Some, Result}
use Rattle.mt_terms.specs.Text.{IsNamedRefusal}
use Rattle.mt_terms.specs.declared.codes.TheConstants.{BUDGET_SPENT, OUT_OF_MEMORY}
use Rattle.mt_terms.specs.declared.refusal.Refusal.{Refusal}
use Rattle.mt_input.specs.Refusals.{code_by}
use Rattle.mt_answer.specs.declared.ways.Unanswered.{Unanswered}
use Rattle.mt_answer.specs.declared.ways.Unanswered.TheVariants.{BudgetSpent, Memory}
use Rattle.mt_run.specs.declared.in_ways.Unmatched.{Unmatched}

-- the code with which a step ends: 0 if it isn't refused
abbrev pub code_of : {X : Type 0} → Result X Unmatched → ℕ
code_of result = code_by (λ (n : Unmatched). n.refusal) result

-- a refusal with this code, which names neither a record nor an id
pub record IsAlone (code : ℕ) (e : Refusal) : Type 0 where
  pub named : IsNamedRefusal e.code e.row e.id
  pub same_code : e.code ≡ code
  pub no_row : e.row ≡ 0
  pub no_id : e.id ≡ []

-- a market that has no match is refused for its budget, with the couple that was entering, or for want of memory
abbrev pub IsUnmatchedBy : Unanswered → Unmatched → Type 0
IsUnmatchedBy (BudgetSpent e) n = IsAlone BUDGET_SPENT n.refusal × (n.entering ≡ Some e)
IsUnmatchedBy Memory n = IsAlone OUT_OF_MEMORY n.refusal × (n.entering ≡ None)
