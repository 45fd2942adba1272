-- A refusal of the bytes is their answer: of the market that a reader gives, and of what is made of that market.
use Rattle.std.proofs.Common.{◌≡◌, ℕ, true, List, Option, Result, Ok, Err, refl, sym, ap, ◌∙◌}
use Rattle.std.proofs.lemmas.Bool.{true≢false}
use Rattle.std.specs.Prelude.{◌≢◌, IfErr, IfOk}
use Rattle.mt_terms.specs.Market.{Registered}
use Rattle.mt_terms.specs.Text.{is_known_code}
use Rattle.mt_terms.specs.declared.refusal.Refusal.{Refusal}
use Rattle.mt_answer.specs.Answer.{IsAnswerOfMarket}
use Rattle.mt_answer.specs.Refusals.{IsRefusalBy, line_of}
use Rattle.mt_input.specs.Files.{IsMarketOf, market_in}
use Rattle.mt_input.specs.Left.{OfLeft}
use Rattle.mt_input.specs.Refusals.{IsRefusalOf, fault_of}
use Rattle.mt_input.proofs.LeftFacts.{of_left}
use Rattle.mt_input.proofs.MarketFacts.{market_refusal_named}
use Rattle.mt_run_laws.specs.Answer.{IsAnswer, IsAnswerTo}
use Rattle.mt_run_laws.specs.Refusals.{IsRefusalTo}

pub refusals_are_not_zero : (code : ℕ) → is_known_code code ≡ true → code ≢ 0
refusals_are_not_zero code h e = true≢false (sym h ∙ ap is_known_code e)

answer_of_fault : (bytes : List ℕ) (budget : ℕ) (e : Refusal) → market_in bytes ≡ Err (fault_of e) → IsAnswer bytes budget e.code (line_of e)
answer_of_fault bytes budget e is = rw is (record { same_code = refl; line = refl })

answer_of_market : (bytes : List ℕ) (budget : ℕ) (r : Registered) (code : ℕ) (text : List ℕ) → IsMarketOf bytes r → IsAnswerOfMarket r budget code text → IsAnswer bytes budget code text
answer_of_market bytes budget r code text is a = let market : market_in bytes ≡ Ok r = is in rw market a

-- why there is no market
pub market_refused : (left : Option (List ℕ)) (budget : ℕ) (e : Refusal) → IsRefusalOf left market_in e → IsRefusalTo left budget e
market_refused left budget e h = record {
  named = market_refusal_named left e h;
  answer = λ m r. of_left left (λ bytes is. answer_of_fault bytes budget e is) (h.fault m r);
}

module _ (left : Option (List ℕ)) (budget : ℕ) (r : Registered) (of : OfLeft left (λ bytes. IsMarketOf bytes r)) where
  pub text_of_market : {X : Type 0} (items : X → List ℕ) (x : Result X Refusal) → IfOk x (λ t. IsAnswerOfMarket r budget 0 (items t)) → IfOk x (λ t. IsAnswerTo left budget 0 (items t))
  text_of_market items (Ok t) h = of_left left (λ bytes is. answer_of_market bytes budget r 0 (items t) is h) of
  text_of_market items (Err e) h = tt

  pub refusal_of_market : {X : Type 0} (x : Result X Refusal) → IfErr x (IsRefusalBy (IsAnswerOfMarket r budget)) → IfErr x (IsRefusalTo left budget)
  refusal_of_market (Ok t) h = tt
  refusal_of_market (Err e) h = record {
    named = h.named;
    answer = λ m read. of_left left (λ bytes is. answer_of_market bytes budget r e.code (line_of e) is (h.answer m)) of;
  }
