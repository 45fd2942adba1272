-- What is published is the text of a stable match, and without couples of the best one.
use Rattle.std.proofs.Common.{◌≡◌, ℕ, ◌-◌, List, [], false, ◌==◌, Option, None, Some, Result, Ok, Err, length, refl, sym, ◌∙◌, ap, subst}
use Rattle.std.specs.Prelude.{◌≢◌, IfSome, IsTrue, slice_index_or, MatchResult}
use Rattle.std.specs.Option.{option_map}
use Rattle.std.proofs.lemmas.Bool.{true≢false}
use Rattle.mt_terms.specs.Best.{IsBest}
use Rattle.mt_terms.specs.Registration.Accepted.{IsRegistration}
use Rattle.mt_terms.specs.Text.{IsOneRecord, refusal_fields}
use Rattle.mt_terms.specs.Lists.{below}
use Rattle.mt_terms.specs.Market.{Market, Partners, Registered}
use Rattle.mt_terms.specs.Matching.{Places}
use Rattle.mt_terms.specs.Registration.Faults.{Fault}
use Rattle.mt_terms.specs.Rounds.{after_entries, stage}
use Rattle.mt_terms.specs.Stability.{stable}
use Rattle.mt_terms.specs.WellFormed.{IsWellFormed}
use Rattle.mt_stability_laws.proofs.ExclusionLemmas.{best_is_at_least_lem}
use Rattle.mt_file_laws.proofs.RefusalLine.{refusal_is_one_record_lem}
use Rattle.mt_round_laws.proofs.RoundsStage.{stage_is_stable_lem}
use Rattle.mt_floor_laws.proofs.RuralLemmas.{fill_alike_without_couples}
use Rattle.mt_answer.specs.Answer.{IsAnswerOfStage, IsAnswerOfMarket, all_proposals}
use Rattle.mt_input.specs.Files.{market_in}
use Rattle.mt_input.proofs.LeftFacts.{of_left}
use Rattle.mt_input.proofs.MarketFacts.{market_fault, registration_of}
use Rattle.mt_run_laws.specs.Answer.{IsAnswer, IsAnswerOfFault, IsAnswerTo}
use Rattle.mt_run_laws.specs.Refusals.{HasNoCouple, PublishesSingles}
use Rattle.mt_run_laws.specs.Headline.{IsBestOfAll, IsStableText, IsStableTextOf}
use Rattle.mt_run_laws.specs.Laws.{PublishedIsNoRefusal, PublishedIsStable, RefusalIsOneRecord}

-- the match that a stage ends in, or the empty one
abbrev end_of : Option (Places × ℕ) → Places
end_of None = []
end_of (Some s) = s.0

-- without couples a stage ends where it begins
pub stage_of_singles : (m : Market) (best : Places) (budget : ℕ) → m.couples ≡ [] → stage m best budget ≡ Some (best, budget - budget)
stage_of_singles m best budget none =
    ap (λ (couples : List Partners). option_map (λ (r : Places × ℕ). (r.0, budget - r.1)) (after_entries m (below (length couples)) budget best)) none

-- without couples a best match is the best of all stable ones
pub best_of_all : (m : Market) → IsWellFormed m → m.couples ≡ [] → (best : Places) → IsBest m best → IsTrue (stable m best) → IsBestOfAll m best
best_of_all m wf none best is_best is_stable =
    record {
      at_least = λ other o. best_is_at_least_lem m best other is_best (rw none at o);
      fills_alike = λ other o. fill_alike_without_couples m wf none best other is_stable o;
    }

pub not_zero : (code : ℕ) → (code == 0) ≡ false → 0 ≢ code
not_zero code h e = true≢false (ap (λ n. n == 0) e ∙ h)

module _ (bytes : List ℕ) (budget : ℕ) (text : List ℕ) where
  of_stage : (r : Registered) → market_in bytes ≡ Ok r → (best : Places) → IsBest r.market best → (s : Option (Places × ℕ)) → stage r.market best budget ≡ s
      → IsAnswerOfStage r best s 0 text → IsStableText bytes text
  of_stage r is_market best is_best None ends h = absurd (not_zero 41 refl h.0)
  of_stage r is_market best is_best (Some s) ends h =
      let well_formed = IsRegistration.well_formed (registration_of bytes r is_market) in
      let is_stable = stage_is_stable_lem r.market well_formed best is_best budget s ends in
      record {
        registered = r;
        of_bytes = is_market;
        places = s.0;
        proposals = all_proposals r best;
        is_text = h.1;
        is_stable = is_stable;
        best = λ none.
            let same : best ≡ s.0 = ap end_of (sym (stage_of_singles r.market best budget none) ∙ ends) in
            best_of_all r.market well_formed none s.0 (subst (IsBest r.market) same is_best) is_stable;
      }

  of_bytes : (m : Result Registered Fault) → market_in bytes ≡ m
      → MatchResult m (λ r. IsAnswerOfMarket r budget 0 text) (λ f. IsAnswerOfFault f 0 text) → IsStableText bytes text
  of_bytes (Ok r) is_market h = of_stage r is_market h.best h.is_best (stage r.market h.best budget) refl h.ends
  of_bytes (Err f) is_fault h = absurd ((market_fault bytes f is_fault).some (sym h.same_code))

pub published_is_stable_lem : PublishedIsStable
published_is_stable_lem bytes budget text h = of_bytes bytes budget text (market_in bytes) refl h

-- the answer to a file that no couple enters is published
published_alone : (bytes : List ℕ) (budget code : ℕ) (text : List ℕ) → HasNoCouple bytes → IsAnswer bytes budget code text → code ≡ 0
published_alone bytes budget code text h a =
    let is_market : market_in bytes ≡ Ok h.registered = h.of_bytes in
    let here : IsAnswerOfMarket h.registered budget code text = rw is_market at a in
    (rw (stage_of_singles h.registered.market here.best budget h.none) at here.ends).0

-- so a run of such a file refuses for want of memory, or a failed read, alone
pub publishes_singles : (left : Option (List ℕ)) (budget code : ℕ) (text : List ℕ)
    → (code ≢ 30 → code ≢ 31 → IsAnswerTo left budget code text) → PublishesSingles left code
publishes_singles left budget code text answer bytes same h m r =
    let a = answer m r in
    let are : a.bytes ≡ bytes = subst (λ (x : Option (List ℕ)). IfSome x (λ xs. a.bytes ≡ xs)) same a.are_left in
    published_alone bytes budget code text h (subst (λ (xs : List ℕ). IsAnswer xs budget code text) are a.is_so)

-- the same of what a reader had left
pub published_to : (left : Option (List ℕ)) (budget : ℕ) (text : List ℕ) → IsAnswerTo left budget 0 text → IsStableTextOf left text
published_to left budget text h = of_left left (λ bytes a. published_is_stable_lem bytes budget text a) h

-- the first byte of the word after the second comma tells them apart
pub published_is_no_refusal_lem : PublishedIsNoRefusal
published_is_no_refusal_lem m names places received code row id e =
    true≢false (ap (λ (text : List ℕ). slice_index_or text 8 0 == 112) e)

pub refusal_is_one_record : RefusalIsOneRecord
refusal_is_one_record code text r =
    subst (λ (t : List ℕ). IsOneRecord (refusal_fields code r.row r.id) t) (sym r.line) (refusal_is_one_record_lem code r.row r.id r.named.is_id)
