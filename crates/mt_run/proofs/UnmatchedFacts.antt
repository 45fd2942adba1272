-- Why a market has no match is the refusal of its bytes.
use Rattle.std.proofs.Common.{◌≡◌, ℕ, List, [], Option, refl}
use Rattle.mt_terms.specs.Market.{Registered}
use Rattle.mt_terms.specs.Text.{refused}
use Rattle.mt_terms.specs.declared.refusal.Refusal.{Refusal}
use Rattle.mt_answer.specs.Refusals.{line_of}
use Rattle.mt_answer.specs.Ways.{IsUnanswered}
use Rattle.mt_answer.specs.declared.ways.Unanswered.{Unanswered}
use Rattle.mt_answer.specs.declared.ways.Unanswered.TheVariants.{BudgetSpent, Memory}
use Rattle.mt_answer.specs.declared.ways.Ways.{Ways}
use Rattle.mt_input.specs.Files.{IsMarketOf}
use Rattle.mt_input.specs.Left.{OfLeft}
use Rattle.mt_run_laws.specs.Ways.{IsRefusalIn}
use Rattle.mt_run_laws.proofs.WayFacts.{text_in_market}
use Rattle.mt_run.specs.Unmatched.{IsAlone, IsUnmatchedBy}
use Rattle.mt_run.specs.declared.in_ways.Unmatched.{Unmatched}

module _ (left : Option (List ℕ)) (budget : ℕ) (ways : Ways) (r : Registered) (of : OfLeft left (λ bytes. IsMarketOf bytes r)) where
  line_is : (code : ℕ) (e : Refusal) → IsAlone code e → line_of e ≡ refused code 0 []
  line_is code e h = rw (h.same_code, h.no_row, h.no_id) refl

  pub unmatched_in : (u : Unanswered) (n : Unmatched) → IsUnmatchedBy u n → IsUnanswered r budget ways u
      → IsRefusalIn left budget ways n.refusal
  unmatched_in (BudgetSpent e) n is h = record {
    named = is.0.named;
    answer = λ m read.
        rw (line_is 41 n.refusal is.0, is.0.same_code) (text_in_market left budget ways r of 41 (refused 41 0 []) h.0);
  }
  unmatched_in Memory n is h = record { named = is.0.named; answer = λ m read. absurd (m is.0.same_code) }
