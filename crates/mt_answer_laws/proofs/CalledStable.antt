-- What is published is called stable: the text is read back as the places and the counts of the match, which is stable.
use Rattle.std.proofs.Common.{◌≡◌, ℕ, ◌+◌, ◌-◌, ◌≤◌, zero, suc, List, [], ◌∷◌, ◌++◌, length, Ok, None, not, sym, refl, ap, ◌∙◌, arith, lt-ltb, eq-eqb}
use Rattle.std.specs.Prelude.{find, slice_index_or, IsTrue}
use Rattle.mt_terms.specs.Market.{Market, Registered, applicants, program_of}
use Rattle.mt_terms.specs.Matching.{Places, filled}
use Rattle.mt_terms.specs.Places.{ArePlaces}
use Rattle.mt_terms.specs.Text.{all_filled, positions, unmatched}
use Rattle.mt_terms.specs.Verdict.{verdict_of}
use Rattle.mt_terms.specs.declared.verdict.Verdict.TheVariants.{Stable}
use Rattle.mt_terms.specs.Registration.Accepted.{IsRegistration}
use Rattle.mt_terms.specs.Stability.{stable}
use Rattle.mt_terms.specs.WellFormed.{IsWellFormed}
use Rattle.mt_order_laws.specs.Reordered.{IsOrderOfSome, set_aside}
use Rattle.mt_order_laws.proofs.FormedFacts.{well_formed_aside_lem}
use Rattle.mt_report.specs.Aside.{published_aside}
use Rattle.mt_answer.specs.Answer.{all_proposals}
use Rattle.mt_answer.proofs.MatchFacts.{stable_are_places}
use Rattle.mt_verdict_laws.proofs.VerdictLemmas.{stable_verdict_lem}
use Rattle.mt_match_file.specs.Submitted.{Submitted}
use Rattle.mt_match_file.specs.declared.submitted_match.Counted.{Counted}
use Rattle.mt_input.specs.Files.{market_in}
use Rattle.mt_input.proofs.MarketFacts.{registration_of}
use Rattle.mt_files.specs.Files.{submitted_in}
use Rattle.mt_check.specs.Answer.{Answer, answer_to, finding_answer, judged_answer}
use Rattle.mt_first_finding.specs.Findings.{finding_of, first_differing_of, fits_count, judged}
use Rattle.mt_first_finding.specs.Text.{finding_line, stable_line, stable_line_with}
use Rattle.mt_check.proofs.AnswerFacts.{judged_by_all_lists_lem}
use Rattle.mt_first_finding.proofs.FindingFacts.{stable_line_is}
use Rattle.mt_text_laws.specs.Counts.{counts_aside, counts_from, published_counts, totals_count}
use Rattle.mt_text_laws.proofs.TextFacts.{published_aside_is_read_lem, published_is_read_lem}
use Rattle.mt_answer_laws.specs.Laws.{PublishedAsideIsJudged, PublishedIsCalledStable, PublishedIsReadBack}
use Rattle.mt_answer_laws.proofs.PublishedFacts.{PublishedOf, published_of, received_at_most}

-- these counts fit
counts_fit : (m : Market) (places : Places) (i p k : ℕ) (more : List Counted) → p + k ≤ length m.programs
    → find (λ c. not (fits_count m places (Counted.count c))) (counts_from m places i p k ++ more) ≡ find (λ c. not (fits_count m places (Counted.count c))) more
counts_fit m places i p zero more le = refl
counts_fit m places i p (suc k) more le =
    rw (lt-ltb p (length m.programs) (omega arith), eq-eqb (program_of m p).quota (program_of m p).quota refl, eq-eqb (filled places p) (filled places p) refl)
    (counts_fit m places (i + 1) (p + 1) k more (omega arith))

none_differs_at : (m : Market) (places : Places) (row : ℕ)
    → first_differing_of m places (counts_from m places (2 + applicants m) 0 (length m.programs) ++ totals_count m places row ∷ []) ≡ None
none_differs_at m places row =
    rw (
      counts_fit m places (2 + applicants m) 0 (length m.programs) (totals_count m places row ∷ []) (omega arith),
      eq-eqb (applicants m) (applicants m) refl,
      eq-eqb (unmatched places) (unmatched places) refl,
      eq-eqb (positions m) (positions m) refl,
      eq-eqb (positions m - all_filled m places) (positions m - all_filled m places) refl,
    ) refl

pub none_differs : (m : Market) (places : Places) → first_differing_of m places (published_counts m places) ≡ None
none_differs m places = none_differs_at m places (2 + applicants m + length m.programs)

module _ (bytes text : List ℕ) (p : PublishedOf bytes text) where
  abbrev submitted_is : Submitted
  submitted_is = record { places = p.places; counts = published_counts p.registered.market p.places; aside = [] }

  are : ArePlaces p.registered.market p.places
  are = stable_are_places p.registered.market p.registration.well_formed p.places p.is_stable

  pub of_match : submitted_in p.registered text ≡ Ok submitted_is
  of_match =
      ap (submitted_in p.registered) p.is_text
      ∙ published_is_read_lem p.registered p.registration p.places are (all_proposals p.registered p.best) (received_at_most p.registered p.best)

  pub called_stable : answer_to bytes text ≡ record { code = 0; text = stable_line }
  called_stable =
      let verdict : verdict_of p.registered.market p.places ≡ Stable =
      (stable_verdict_lem p.registered.market p.registration.well_formed p.places are.one_each).1 p.is_stable in
      let of_market : market_in bytes ≡ Ok p.registered = p.is_market in
      let by_all : judged_answer p.registered submitted_is ≡ finding_answer p.registered 0 (finding_of p.registered.market submitted_is) =
      judged_by_all_lists_lem p.registered submitted_is refl in
      rw (of_market, of_match, by_all, verdict, none_differs p.registered.market p.places) refl

pub published_is_called_stable_lem : PublishedIsCalledStable
published_is_called_stable_lem bytes budget text h = called_stable bytes text (published_of bytes budget text h)

pub published_is_read_back_lem : PublishedIsReadBack
published_is_read_back_lem bytes budget text h =
    let p = published_of bytes budget text h in
    record {
      registered = p.registered;
      of_bytes = p.is_market;
      places = p.places;
      received = all_proposals p.registered p.best;
      is_text = p.is_text;
      is_stable = p.is_stable;
      submitted = submitted_is bytes text p;
      of_text = of_match bytes text p;
      same_places = refl;
    }

-- what a text with couples set aside is called, and how it is judged
module _ (bytes : List ℕ) (r : Registered) (of_market : market_in bytes ≡ Ok r) (places : Places) (in_market : ArePlaces r.market places) (received : List ℕ)
    (few : (p : ℕ) → slice_index_or received p 0 ≤ applicants r.market) (aside : List ℕ) (some : IsOrderOfSome r.market aside) where
  abbrev text_aside : List ℕ
  text_aside = published_aside r.market r.names places received aside

  abbrev aside_is : Submitted
  aside_is = record { places = places; counts = counts_aside r.market places (length aside); aside = aside }

  registration : IsRegistration r
  registration = registration_of bytes r of_market

  answer_is : answer_to bytes text_aside ≡ judged_answer r aside_is
  answer_is = rw (of_market, published_aside_is_read_lem r registration places in_market received few aside some) refl

  -- its counts fit the market
  fits : first_differing_of (set_aside aside r.market) places (counts_aside r.market places (length aside)) ≡ None
  fits = none_differs_at r.market places (2 + applicants r.market + length r.market.programs + length aside)

  formed : IsWellFormed (set_aside aside r.market)
  formed = well_formed_aside_lem r.market aside registration.well_formed

  called : IsTrue (stable (set_aside aside r.market) places) → answer_to bytes text_aside ≡ record { code = 0; text = stable_line_with (length aside) }
  called is_stable =
      let verdict : verdict_of (set_aside aside r.market) places ≡ Stable = (stable_verdict_lem (set_aside aside r.market) formed places in_market.one_each).1 is_stable in
      answer_is ∙ rw (verdict, fits) refl

  is_so : answer_to bytes text_aside ≡ record { code = 0; text = stable_line_with (length aside) } → IsTrue (stable (set_aside aside r.market) places)
  is_so answer =
      let line : finding_line (judged r aside_is) (length aside) (finding_of (set_aside aside r.market) aside_is) ≡ stable_line_with (length aside) =
      ap (λ (a : Answer). a.text) (sym answer_is ∙ answer) in
      ((stable_line_is (judged r aside_is) (length aside) formed aside_is in_market.one_each).0 line).0

pub published_aside_is_judged_lem : PublishedAsideIsJudged
published_aside_is_judged_lem bytes r of_market places in_market received few aside some =
    (is_so bytes r of_market places in_market received few aside some, called bytes r of_market places in_market received few aside some)
