-- The answer in the ways in which couples may enter: one for the bytes, and the usual one with one order. A refusal of the
-- bytes is their answer.
use Rattle.std.proofs.Common.{◌≡◌, ◌≢◌, ◌⊎◌, ℕ, ◌≤◌, true, false, List, Option, None, Result, Ok, Err, inl, inr, refl, sym, ap, ◌∙◌, arith}
use Rattle.std.specs.Prelude.{◌↔◌, MatchResult}
use Rattle.std.proofs.lemmas.Bool.{true≢false}
use Rattle.mt_terms.specs.Market.{Registered}
use Rattle.mt_terms.specs.Registration.Accepted.{IsRegistration}
use Rattle.mt_terms.specs.Registration.Faults.{Fault}
use Rattle.mt_terms.specs.Text.{is_known_code}
use Rattle.mt_terms.specs.declared.refusal.Refusal.{Refusal}
use Rattle.mt_answer.specs.Answer.{IsAnswerOfMarket}
use Rattle.mt_answer.specs.Refusals.{line_of}
use Rattle.mt_answer.specs.Ways.{IsAnswerInWays}
use Rattle.mt_answer.specs.WayLaws.{IsStableAside, IsStableIn}
use Rattle.mt_answer.proofs.AsideFacts.{published_in_ways_is_stable_lem}
use Rattle.mt_answer.proofs.WayFacts.{one_answer_in_ways_lem, one_way_is_usual_lem}
use Rattle.mt_answer.specs.declared.ways.Ways.{Ways}
use Rattle.mt_input.specs.Files.{IsMarketOf, market_in}
use Rattle.mt_input.specs.Left.{OfLeft}
use Rattle.mt_input.specs.Refusals.{IsRefusalOf, fault_of}
use Rattle.mt_input.proofs.LeftFacts.{of_left}
use Rattle.mt_input.proofs.MarketFacts.{market_fault, market_refusal_named, registration_of}
use Rattle.mt_run_laws.specs.Answer.{IsAnswerOfFault}
use Rattle.mt_run_laws.specs.Headline.{IsStableText, IsStableTextOf}
use Rattle.mt_run_laws.specs.Ways.{IsAnswerIn, IsAnswerInTo, IsRefusalIn, IsStableAsideText, NamesEntering}
use Rattle.mt_run_laws.specs.WayLaws.{OneAnswerIn, OneWayIsAnswer, PublishedInIsStable}
use Rattle.mt_run_laws.proofs.HeadlineLemmas.{best_of_all}

-- ---- laws

bytes_once : (m : Result Registered Fault) (budget : ℕ) (ways : Ways) (c d : ℕ) (text other : List ℕ)
    → MatchResult m (λ r. IsAnswerInWays r budget ways c text) (λ f. IsAnswerOfFault f c text)
    → MatchResult m (λ r. IsAnswerInWays r budget ways d other) (λ f. IsAnswerOfFault f d other) → (c ≡ d) × (text ≡ other)
bytes_once (Ok r) budget ways c d text other h k = one_answer_in_ways_lem r budget ways c d text other h k
bytes_once (Err f) budget ways c d text other h k = (h.same_code ∙ sym k.same_code, h.line ∙ sym k.line)

pub one_answer_in_lem : OneAnswerIn
one_answer_in_lem bytes budget ways c d text other h k = bytes_once (market_in bytes) budget ways c d text other h k

usual : (m : Result Registered Fault) (budget code : ℕ) (text : List ℕ)
    → MatchResult m (λ r. IsAnswerInWays r budget (record { orders = 1; set_aside = false }) code text) (λ f. IsAnswerOfFault f code text)
    ↔ MatchResult m (λ r. IsAnswerOfMarket r budget code text) (λ f. IsAnswerOfFault f code text)
usual (Ok r) budget code text = one_way_is_usual_lem r budget code text
usual (Err f) budget code text = ((λ h. h), (λ h. h))

pub one_way_is_answer_lem : OneWayIsAnswer
one_way_is_answer_lem bytes budget code text = usual (market_in bytes) budget code text

module _ (bytes : List ℕ) (budget : ℕ) (ways : Ways) (code : ℕ) (text : List ℕ) (one : 1 ≤ ways.orders) where
  stable_text : (r : Registered) → IsMarketOf bytes r → IsStableIn r text → IsStableText bytes text
  stable_text r is h = record {
    registered = r;
    of_bytes = is;
    places = h.places;
    proposals = h.proposals;
    is_text = h.is_text;
    is_stable = h.is_stable;
    best = λ none. best_of_all r.market (IsRegistration.well_formed (registration_of bytes r is)) none h.places (h.best none) h.is_stable;
  }

  aside_text : (r : Registered) → IsMarketOf bytes r → IsStableAside r text → IsStableAsideText bytes text
  aside_text r is h = record {
    registered = r;
    of_bytes = is;
    aside = h.aside;
    some = h.some;
    are_couples = h.are_couples;
    places = h.places;
    proposals = h.proposals;
    is_text = h.is_text;
    is_stable = h.is_stable;
  }

  published : (m : Result Registered Fault) → market_in bytes ≡ m → MatchResult m (λ r. IsAnswerInWays r budget ways code text) (λ f. IsAnswerOfFault f code text)
      → (code ≡ 0 → IsStableText bytes text) × (code ≡ 6 → (ways.set_aside ≡ true) × IsStableAsideText bytes text)
  published (Ok r) is h =
      let both = published_in_ways_is_stable_lem r budget ways code text (registration_of bytes r is) one h in
      ((λ c. stable_text r is (both.0 c)), (λ c. ((both.1 c).0, aside_text r is (both.1 c).1)))
  published (Err f) is h = (
    (λ c. absurd ((market_fault bytes f is).some (sym h.same_code ∙ c))),
    (λ c. absurd (true≢false (sym (market_fault bytes f is).named.known ∙ ap is_known_code (sym h.same_code ∙ c)))),
  )

pub published_in_is_stable_lem : PublishedInIsStable
published_in_is_stable_lem bytes budget ways code text one h = published bytes budget ways code text one (market_in bytes) refl h

-- the same of what a reader had left
pub published_in_to : (left : Option (List ℕ)) (budget : ℕ) (ways : Ways) (code : ℕ) (text : List ℕ) → 1 ≤ ways.orders → IsAnswerInTo left budget ways code text
    → (code ≡ 0 → IsStableTextOf left text) × (code ≡ 6 → (ways.set_aside ≡ true) × OfLeft left (λ bytes. IsStableAsideText bytes text))
published_in_to left budget ways code text one h = (
  (λ c. of_left left (λ bytes a. (published_in_is_stable_lem bytes budget ways code text one a).0 c) h),
  (λ c. (((published_in_is_stable_lem h.bytes budget ways code text one h.is_so).1 c).0, of_left left (λ bytes a. ((published_in_is_stable_lem bytes budget ways code text one a).1 c).1) h)),
)

-- a published text has one of two codes, and no refusal has either
pub neither : (code : ℕ) → (code ≡ 0) ⊎ (code ≡ 6) → code ≢ 0 → code ≢ 6 → ⊥
neither code (inl zero_is) n s = n zero_is
neither code (inr six) n s = s six

pub refusals_are_not_six : (code : ℕ) → is_known_code code ≡ true → code ≢ 6
refusals_are_not_six code h e = true≢false (sym h ∙ ap is_known_code e)

-- ---- refusals

answer_in_fault : (bytes : List ℕ) (budget : ℕ) (ways : Ways) (e : Refusal) → market_in bytes ≡ Err (fault_of e) → IsAnswerIn bytes budget ways e.code (line_of e)
answer_in_fault bytes budget ways e is = rw is (record { same_code = refl; line = refl })

answer_in_market : (bytes : List ℕ) (budget : ℕ) (ways : Ways) (r : Registered) (code : ℕ) (text : List ℕ) → IsMarketOf bytes r → IsAnswerInWays r budget ways code text
    → IsAnswerIn bytes budget ways code text
answer_in_market bytes budget ways r code text is a = let market : market_in bytes ≡ Ok r = is in rw market a

-- why there is no market
pub market_refused_in : (left : Option (List ℕ)) (budget : ℕ) (ways : Ways) (e : Refusal) → IsRefusalOf left market_in e → IsRefusalIn left budget ways e
market_refused_in left budget ways e h = record {
  named = market_refusal_named left e h;
  answer = λ m r. of_left left (λ bytes is. answer_in_fault bytes budget ways e is) (h.fault m r);
}

-- then no couple was entering
pub none_entering : (left : Option (List ℕ)) (budget : ℕ) (e : Refusal) → IsRefusalOf left market_in e → NamesEntering left budget e.code None
none_entering left budget e h = record {
  named = λ is. absurd (by is);
  spent = λ none. absurd (true≢false (sym none));
  is_so = tt;
}
  where
    by : e.code ≡ 41 → ⊥
    by is =
        let fault = h.fault (λ m. omega arith) (λ r. omega arith) in
        let low = (market_fault fault.bytes (fault_of e) fault.is_so).low in
        omega arith

module _ (left : Option (List ℕ)) (budget : ℕ) (ways : Ways) (r : Registered) (of : OfLeft left (λ bytes. IsMarketOf bytes r)) where
  pub text_in_market : (code : ℕ) (text : List ℕ) → IsAnswerInWays r budget ways code text → IsAnswerInTo left budget ways code text
  text_in_market code text h = of_left left (λ bytes is. answer_in_market bytes budget ways r code text is h) of
