-- What a change of one record does to the applicants: the markets of the two files differ in that list or quota alone, and
-- what is published for either is its best match. So the laws of the applicants give it.
use Rattle.std.proofs.Common.{◌≡◌, ◌≢◌, ℕ, ◌≤◌, List, [], ◌⊎◌, inl, inr, length, Some, Ok, refl, sym, ap, ◌∙◌, subst, arith}
use Rattle.std.specs.Prelude.{IsTrue}
use Rattle.std.proofs.lemmas.Bool.{cases_lt}
use Rattle.std.proofs.lemmas.List.{get_or_past}
use Rattle.mt_order_laws.proofs.RegistrationFacts.{one_place}
use Rattle.mt_lists.specs.Records.{records_of}
use Rattle.mt_terms.specs.Best.{IsBest}
use Rattle.mt_terms.specs.Market.{Market, Partners, Registered, list_of, singles_market}
use Rattle.mt_terms.specs.Matching.{Places}
use Rattle.mt_terms.specs.Registration.{market_of}
use Rattle.mt_terms.specs.Registration.Accepted.{IsRegistration}
use Rattle.mt_terms.specs.Registration.Ids.{Bytes, numbers_of}
use Rattle.mt_terms.specs.Stability.{stable}
use Rattle.mt_terms.specs.Text.{name_of}
use Rattle.mt_stability_laws.proofs.ExclusionLemmas.{best_is_at_least_lem}
use Rattle.mt_input.specs.Files.{market_in}
use Rattle.mt_input.proofs.MarketFacts.{market_of_rows, registration_of}
use Rattle.mt_match_file.specs.Submitted.{Submitted}
use Rattle.mt_files.specs.Files.{submitted_in}
use Rattle.mt_check.proofs.AnswerFacts.{answers_are_so_lem, by_all_lists}
use Rattle.mt_first_finding.specs.Findings.{judged}
use Rattle.mt_first_finding.specs.Text.{stable_line, stable_line_with}
use Rattle.mt_applicant_laws.specs.Changes.{HasAtLeast, with_list}
use Rattle.mt_applicant_laws.proofs.EasierMarkets.{more_posts_hurt_none_lem, one_less_hurts_no_other_lem}
use Rattle.mt_applicant_laws.proofs.ListChanges.{no_stable_match_gives_more_lem}
use Rattle.mt_change_laws.specs.Changes.{ListChanged, QuotaChanged}
use Rattle.mt_change_laws.proofs.FileChanges.{lists_of_files, quotas_of_files}
use Rattle.mt_text_laws.specs.Counts.{published_counts}
use Rattle.mt_answer_laws.specs.FileLaws.{HigherQuotaInFileHurtsNone, NoCalledMatchGivesMore, NoneGainsByAnotherRecord, OneLessInFileHurtsNoOther}
use Rattle.mt_answer_laws.specs.TwoFiles.{CalledStable, Publishes}
use Rattle.mt_answer_laws.proofs.CalledStable.{of_match}
use Rattle.mt_answer_laws.proofs.PublishedFacts.{published_of}

-- what is published for a file: its market is registered, and without couples the match is the best one
pub record IsAccepted (rows : List (List Bytes)) (r : Registered) (places : Places) : Type 0 where
  pub is_market : market_of rows ≡ Ok r
  pub registration : IsRegistration r
  pub is_best : r.market.couples ≡ [] → IsBest r.market places

pub accepted : (bytes : List ℕ) (r : Registered) (places : Places) (rows : List (List Bytes)) → records_of bytes ≡ Some rows → Publishes bytes r places → IsAccepted rows r places
accepted bytes r places rows are h =
    let p = published_of bytes h.budget h.text h.is_answer in
    let market : market_in bytes ≡ Ok p.registered = p.is_market in
    let read : submitted_in p.registered h.text ≡ Ok (record { places = p.places; counts = published_counts p.registered.market p.places; aside = [] }) = of_match bytes h.text p in
    let same : p.registered ≡ r = cc (h.of_bytes) in
    let of_text : submitted_in p.registered h.text ≡ Ok (record { places = places; counts = h.counts; aside = [] }) = ap (λ (q : Registered). submitted_in q h.text) same ∙ h.of_text in
    let both : ◌≡◌ {A = Submitted} (record { places = p.places; counts = published_counts p.registered.market p.places; aside = [] }) (record { places = places; counts = h.counts; aside = [] }) = cc in
    let same_places : p.places ≡ places = ap (λ (submitted : Submitted). submitted.places) both in
    record {
      is_market = market_of_rows bytes r rows h.of_bytes are;
      registration = registration_of bytes r h.of_bytes;
      is_best = λ none.
          let none_there : p.registered.market.couples ≡ [] = ap (λ (q : Registered). q.market.couples) same ∙ none in
          subst (λ (q : Registered). IsBest q.market places) same (subst (λ (ps : Places). IsBest p.registered.market ps) (p.same_alone none_there ∙ same_places) p.is_best);
    }

-- who has no list has at least as much in any match
no_list : (m : Market) (a : ℕ) (places other : Places) → list_of m a ≡ [] → HasAtLeast m a places other
no_list m a places other none p there = rw none refl

module _ (r s : Registered) (places other : Places) (registration : IsRegistration r) (best : IsBest r.market places) where
  -- if the other match is stable
  gains_nothing : IsTrue (stable (singles_market s.market) other) → (id : Bytes) (list : List Bytes) → (s.market ≡ r.market) ⊎ ListChanged r s id list
      → (a : ℕ) → name_of r.names.applicants a ≡ id → HasAtLeast r.market a places other
  gains_nothing is_stable id list (inl same) a named =
      best_is_at_least_lem r.market places other best (subst (λ (m : Market). IsTrue (stable (singles_market m) other)) same is_stable) a
  gains_nothing is_stable id list (inr changed) a named = elim (cases_lt a (length r.names.applicants)) [
    | inl low ↦
        let here : a ≡ changed.number = one_place r.names.applicants a changed.number registration.applicant_names.differ low changed.within (named ∙ sym changed.has_id) in
        let market_is : s.market ≡ with_list r.market a (numbers_of r.names.programs list) = changed.market_is ∙ ap (λ (k : ℕ). with_list r.market k (numbers_of r.names.programs list)) (sym here) in
        no_stable_match_gives_more_lem r.market a (numbers_of r.names.programs list) registration.well_formed places other best
        (subst (λ (m : Market). IsTrue (stable (singles_market m) other)) market_is is_stable)
    | inr high ↦ no_list r.market a places other (get_or_past r.market.lists a [] (omega (arith, registration.applicant_names.one_each)))
  ]

  -- if it is the best one
  same_market : IsBest r.market other → (a : ℕ) → HasAtLeast r.market a other places
  same_market other_best a = best_is_at_least_lem r.market other places other_best best.is_stable a

  hurts_no_other : IsBest s.market other → (id : Bytes) → (s.market ≡ r.market) ⊎ ListChanged r s id [] → (b : ℕ) → name_of r.names.applicants b ≢ id → HasAtLeast r.market b other places
  hurts_no_other other_best id (inl same) b unnamed = same_market (subst (λ (m : Market). IsBest m other) same other_best) b
  hurts_no_other other_best id (inr changed) b unnamed =
      one_less_hurts_no_other_lem r.market changed.number registration.well_formed places other best (subst (λ (m : Market). IsBest m other) changed.market_is other_best) b
      (λ here. unnamed (ap (λ (k : ℕ). name_of r.names.applicants k) here ∙ changed.has_id))

  hurts_none : IsBest s.market other → (quota more : ℕ) → quota ≤ more → (s.market ≡ r.market) ⊎ QuotaChanged r s quota more → (a : ℕ) → HasAtLeast r.market a other places
  hurts_none other_best quota more le (inl same) a = same_market (subst (λ (m : Market). IsBest m other) same other_best) a
  hurts_none other_best quota more le (inr changed) a =
      more_posts_hurt_none_lem r.market changed.number more registration.well_formed (omega (arith, changed.quota_is)) places other best
      (subst (λ (m : Market). IsBest m other) changed.market_is other_best) a

-- the second market has no couple either
couples_after_list : (r s : Registered) (id : Bytes) (list : List Bytes) → (s.market ≡ r.market) ⊎ ListChanged r s id list → r.market.couples ≡ [] → s.market.couples ≡ []
couples_after_list r s id list (inl same) none = ap (λ (m : Market). m.couples) same ∙ none
couples_after_list r s id list (inr changed) none = ap (λ (m : Market). m.couples) changed.market_is ∙ none

couples_after_quota : (r s : Registered) (quota more : ℕ) → (s.market ≡ r.market) ⊎ QuotaChanged r s quota more → r.market.couples ≡ [] → s.market.couples ≡ []
couples_after_quota r s quota more (inl same) none = ap (λ (m : Market). m.couples) same ∙ none
couples_after_quota r s quota more (inr changed) none = ap (λ (m : Market). m.couples) changed.market_is ∙ none

-- without couples a stable match is one of the singles
stable_alone : (m : Market) (places : Places) → m.couples ≡ [] → IsTrue (stable m places) → IsTrue (stable (singles_market m) places)
stable_alone m places none is_stable = subst (λ (couples : List Partners). IsTrue (stable (record m { couples = couples }) places)) none is_stable

-- what is called stable is a stable match of the market of the rows
record IsStableOf (rows : List (List Bytes)) (r : Registered) (places : Places) : Type 0 where
  is_market : market_of rows ≡ Ok r
  is_stable : IsTrue (stable r.market places)

called : (bytes : List ℕ) (r : Registered) (places : Places) (rows : List (List Bytes)) → records_of bytes ≡ Some rows → CalledStable bytes r places → IsStableOf rows r places
called bytes r places rows are h =
    let answer = (answers_are_so_lem bytes h.text 0 stable_line h.is_answer).0 (omega arith) in
    let same : answer.registered ≡ r = cc (answer.of_market, h.of_bytes) in
    let of_text : submitted_in answer.registered h.text ≡ Ok (record { places = places; counts = h.counts; aside = [] }) = ap (λ (q : Registered). submitted_in q h.text) same ∙ h.of_text in
    let submitted : ◌≡◌ {A = Submitted} answer.submitted (record { places = places; counts = h.counts; aside = [] }) = cc (answer.of_match) in
    let same_places : answer.submitted.places ≡ places = ap (λ (t : Submitted). t.places) submitted in
    let none : answer.submitted.aside ≡ [] = ap (λ (t : Submitted). t.aside) submitted in
    let line : stable_line ≡ stable_line_with (length answer.submitted.aside) = ap (λ (aside : List ℕ). stable_line_with (length aside)) (sym none) in
    let by_all : judged answer.registered answer.submitted ≡ answer.registered = by_all_lists answer.registered answer.submitted none in
    let is_stable : IsTrue (stable answer.registered.market answer.submitted.places) =
    subst (λ (q : Registered). IsTrue (stable q.market answer.submitted.places)) by_all (answer.stable.0 line).0 in
    record {
      is_market = market_of_rows bytes r rows h.of_bytes are;
      is_stable = subst (λ (q : Registered). IsTrue (stable q.market places)) same (subst (λ (ps : Places). IsTrue (stable answer.registered.market ps)) same_places is_stable);
    }

pub none_gains_by_another_record_lem : NoneGainsByAnotherRecord
none_gains_by_another_record_lem bytes other_bytes id list other_list d r s places other one two none =
    let p = accepted bytes r places _ d.one one in
    let q = accepted other_bytes s other _ d.two two in
    let change = lists_of_files d.before d.after r s id list other_list p.is_market q.is_market in
    let best = q.is_best (couples_after_list r s id other_list change.1 none) in
    (change.0, gains_nothing r s places other p.registration (p.is_best none) best.is_stable id other_list change.1)

pub no_called_match_gives_more_lem : NoCalledMatchGivesMore
no_called_match_gives_more_lem bytes other_bytes id list other_list d r s places other one two none =
    let p = accepted bytes r places _ d.one one in
    let q = called other_bytes s other _ d.two two in
    let change = lists_of_files d.before d.after r s id list other_list p.is_market q.is_market in
    let is_stable = stable_alone s.market other (couples_after_list r s id other_list change.1 none) q.is_stable in
    (change.0, gains_nothing r s places other p.registration (p.is_best none) is_stable id other_list change.1)

pub one_less_in_file_hurts_no_other_lem : OneLessInFileHurtsNoOther
one_less_in_file_hurts_no_other_lem bytes fewer_bytes id list d r s places fewer one two none =
    let p = accepted bytes r places _ d.one one in
    let q = accepted fewer_bytes s fewer _ d.two two in
    let change = lists_of_files d.before d.after r s id list [] p.is_market q.is_market in
    (change.0, hurts_no_other r s places fewer p.registration (p.is_best none) (q.is_best (couples_after_list r s id [] change.1 none)) id change.1)

pub higher_quota_in_file_hurts_none_lem : HigherQuotaInFileHurtsNone
higher_quota_in_file_hurts_none_lem bytes more_bytes id quota more_quota d le r s places more one two none =
    let p = accepted bytes r places _ d.one one in
    let q = accepted more_bytes s more _ d.two two in
    let change = quotas_of_files d.before d.after r s id d.quota_field d.other_field quota more_quota d.list d.quota_is d.other_is p.is_market q.is_market in
    (change.0, hurts_none r s places more p.registration (p.is_best none) (q.is_best (couples_after_quota r s quota more_quota change.1 none)) quota more_quota le change.1)
