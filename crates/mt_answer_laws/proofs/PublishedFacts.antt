-- What is behind a published text: a market, its best match, and the stable match in which the couples' stage ends.
use Rattle.std.proofs.Common.{◌≡◌, ℕ, ◌*◌, ◌≤◌, List, [], length, get_or, Bool, true, false, Option, None, Some, Result, Ok, Err, inl, inr, refl, sym, ◌∙◌, ap, arith, if◌then◌else◌}
use Rattle.std.specs.Prelude.{IsTrue, MatchResult, slice_index_or}
use Rattle.std.proofs.lemmas.Bool.{cases_lt}
use Rattle.std.proofs.lemmas.List.{get_or_past}
use Rattle.mt_terms.specs.Best.{IsBest, proposals, proposed_to}
use Rattle.mt_terms.specs.Lists.{has, total_below}
use Rattle.mt_terms.specs.Market.{Market, Registered, applicants}
use Rattle.mt_terms.specs.Matching.{Places}
use Rattle.mt_terms.specs.Registration.Accepted.{IsRegistration}
use Rattle.mt_terms.specs.Registration.Faults.{Fault}
use Rattle.mt_terms.specs.Rounds.{stage}
use Rattle.mt_terms.specs.Stability.{stable}
use Rattle.mt_terms.specs.Text.{published}
use Rattle.mt_terms.proofs.BelowFacts.{length-map_below, map_below_at}
use Rattle.mt_round_laws.proofs.RoundsStage.{stage_is_stable_lem}
use Rattle.mt_answer.specs.Answer.{IsAnswerOfStage, IsAnswerOfMarket, all_proposals}
use Rattle.mt_input.specs.Files.{market_in}
use Rattle.mt_input.proofs.MarketFacts.{market_fault, registration_of}
use Rattle.mt_run_laws.specs.Answer.{IsAnswer, IsAnswerOfFault}
use Rattle.mt_run_laws.proofs.HeadlineLemmas.{not_zero, stage_of_singles}
use Rattle.mt_text_laws.proofs.Bounds.{total_at_most}

pub record PublishedOf (bytes text : List ℕ) : Type 0 where
  pub registered : Registered
  pub is_market : market_in bytes ≡ Ok registered
  pub registration : IsRegistration registered
  pub best : Places
  pub is_best : IsBest registered.market best
  pub places : Places
  pub is_stable : IsTrue (stable registered.market places)
  pub is_text : text ≡ published registered.market registered.names places (all_proposals registered best)
  pub same_alone : registered.market.couples ≡ [] → best ≡ places

module _ (bytes : List ℕ) (budget : ℕ) (text : List ℕ) where
  abbrev end_of : Option (Places × ℕ) → Places
  end_of None = []
  end_of (Some s) = s.0

  of_stage : (r : Registered) → market_in bytes ≡ Ok r → (best : Places) → IsBest r.market best → (s : Option (Places × ℕ)) → stage r.market best budget ≡ s
      → IsAnswerOfStage r best s 0 text → PublishedOf bytes text
  of_stage r is_market best is_best None ends h = absurd (not_zero 41 refl h.0)
  of_stage r is_market best is_best (Some s) ends h =
      let registration = registration_of bytes r is_market in
      record {
        registered = r;
        is_market = is_market;
        registration = registration;
        best = best;
        is_best = is_best;
        places = s.0;
        is_stable = stage_is_stable_lem r.market registration.well_formed best is_best budget s ends;
        is_text = h.1;
        same_alone = λ none. ap end_of (sym (stage_of_singles r.market best budget none) ∙ ends);
      }

  of_bytes : (m : Result Registered Fault) → market_in bytes ≡ m
      → MatchResult m (λ r. IsAnswerOfMarket r budget 0 text) (λ f. IsAnswerOfFault f 0 text) → PublishedOf bytes text
  of_bytes (Ok r) is_market h = of_stage r is_market h.best h.is_best (stage r.market h.best budget) refl h.ends
  of_bytes (Err f) is_fault h = absurd ((market_fault bytes f is_fault).some (sym h.same_code))

pub published_of : (bytes : List ℕ) (budget : ℕ) (text : List ℕ) → IsAnswer bytes budget 0 text → PublishedOf bytes text
published_of bytes budget text h = of_bytes bytes budget text (market_in bytes) refl h

-- no program received more proposals than there are applicants
one_or_none : (b : Bool) → (if b then 1 else 0) ≤ 1
one_or_none true = omega arith
one_or_none false = omega arith

proposals_at_most : (m : Market) (best : Places) (p : ℕ) → proposals m best p ≤ applicants m
proposals_at_most m best p =
    let most : total_below (λ a. if has (proposed_to m best a) p then 1 else 0) (applicants m) ≤ applicants m * 1 =
    total_at_most (λ a. if has (proposed_to m best a) p then 1 else 0) 1 (applicants m) (λ a. one_or_none (has (proposed_to m best a) p)) in
    omega arith

pub received_at_most : (r : Registered) (best : Places) (p : ℕ) → slice_index_or (all_proposals r best) p 0 ≤ applicants r.market
received_at_most r best p = elim (cases_lt p (length r.market.programs)) [
  | inl low ↦ rw (map_below_at (proposals r.market best) (length r.market.programs) p 0 low) (proposals_at_most r.market best p)
  | inr high ↦ (
      let past : length (all_proposals r best) ≤ p = omega (arith, length-map_below (proposals r.market best) (length r.market.programs)) in
      let none : get_or (all_proposals r best) p 0 ≡ 0 = get_or_past (all_proposals r best) p 0 past in
      rw none (omega arith))
]
