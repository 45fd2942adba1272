-- What the verdict of a match says of it.
use Rattle.std.proofs.Common.{◌≡◌, ℕ, zero, suc, ◌+◌, ◌<◌, ◌≤◌, Bool, true, false, not, ◌&&◌, ◌||◌, ◌==◌, nat_le, List, [], ◌∷◌, map, filter, length, Option, Some, None, unwrap_or, IsTrue, IsFalse, refl, ap, sym, ◌∙◌, subst, get_or, eq-eqb, inl, inr, arith, ◌⊎◌}
use Rattle.std.specs.List.{list_any, list_all, range_with_len, find, position, position_or_len}
use Rattle.std.specs.Option.{option_map}
use Rattle.std.proofs.lemmas.Bool.{and_parts, and_from, or_parts, or_from, and_right, or_right, cases_lt, not-true, not-false, not_from_true, not_from_false, cases_Bool, both_ways, lt-ltb, false_from_ne_true, true_from_ne_false}
use Rattle.std.proofs.lemmas.Bool.Decides.{nat_tests}
use Rattle.std.proofs.lemmas.List.Quantifiers.{position-Some}
use Rattle.mt_terms.specs.Lists.{Set, until, below}
use Rattle.mt_terms.specs.Market.{Market, Partners, applicants, program_of, couple_of, is_member, agent_from, agent_of, leads, agents}
use Rattle.mt_terms.specs.Matching.{Places, place_of, filled, options, holds, better}
use Rattle.mt_terms.specs.Stability.{is_listed, has_own_option, fits, stable, would_be_taken, blocks}
use Rattle.mt_terms.specs.Verdict.{lowest_number, is_unlisted, is_over, blocking_option, blocks_verdict, over_verdict, unlisted_verdict, verdict_of}
use Rattle.mt_terms.specs.WellFormed.{IsWellFormed, IsMember}
use Rattle.mt_verdict_laws.specs.Verdict.{IsFirstBelow, IsFirstTaken, VerdictSays, VerdictInWords, StableVerdict}
use Rattle.mt_terms.specs.declared.numbers.Agent.{Agent}
use Rattle.mt_terms.specs.declared.numbers.Agent.TheVariants.{Single, Couple}
use Rattle.mt_terms.specs.declared.verdict.Verdict.{Verdict}
use Rattle.mt_terms.specs.declared.verdict.Verdict.TheVariants.{Stable, Unlisted, Over, Blocks}
use Rattle.mt_stability_laws.proofs.ListLemmas.{all_below, each_below, each_fails_below, list_any-not}

-- a search that finds nothing
pub find_nothing : {X : Type 0} (test : X → Bool) (xs : List X) → find test xs ≡ None → IsFalse (list_any test xs)
find_nothing test [] h = refl
find_nothing test (x ∷ xs) h = elim (cases_Bool (test x)) [
  | inl here ↦ (let e : Some x ≡ None = rw here at h in absurd (cc))
  | inr other ↦ rw other (find_nothing test xs (rw other at h))
]

-- a search that finds a number of a range
find_in_range : (test : Set) (low n a : ℕ) → find test (range_with_len low n) ≡ Some a
    → (low ≤ a) × (a < low + n) × IsTrue (test a) × ((b : ℕ) → low ≤ b → b < a → IsFalse (test b))
find_in_range test low zero a h = absurd (cc)
find_in_range test low (suc n) a h = elim (cases_Bool (test low)) [
  | inl here ↦
      let e : Some low ≡ Some a = rw here at h in
      let same : low ≡ a = cc in
      (omega arith, omega arith, subst (λ (i : ℕ). IsTrue (test i)) same here, (λ b from before. absurd (omega arith)))
  | inr other ↦
      let r = find_in_range test (low + 1) n a (rw other at h) in
      (omega (arith, r.0), omega (arith, r.1), r.2, (λ b from before. first test low b a other r.3 from before))
]
  where
    first : (test : Set) (low b a : ℕ) → IsFalse (test low) → ((k : ℕ) → low + 1 ≤ k → k < a → IsFalse (test k)) → low ≤ b → b < a → IsFalse (test b)
    first test low b a other rest from before = grind (arith, nat_tests, rest b)

pub find_below : (test : Set) (n a : ℕ) → find test (below n) ≡ Some a → IsFirstBelow test n a
find_below test n a h =
    let r = find_in_range test 0 n a h in
    record { within = omega (arith, r.1); passes = r.2; none_before = λ b before. r.3 b (omega arith) before }

pub none_found_below : (test : Set) (n : ℕ) → find test (below n) ≡ None → (a : ℕ) → a < n → IsFalse (test a)
none_found_below test n h a a_in = each_fails_below test n (find_nothing test (below n) h) a a_in

-- a search among the agents goes by the numbers of those who lead them
pub find-map-filter : {X : Type 0} (test : X → Bool) (f : ℕ → X) (keep : Set) (xs : List ℕ)
    → find test (map f (filter keep xs)) ≡ option_map f (find (λ a. keep a && test (f a)) xs)
find-map-filter test f keep [] = refl
find-map-filter test f keep (x ∷ xs) = elim (cases_Bool (keep x)) [
  | inl kept ↦ elim (cases_Bool (test (f x))) [
    | inl here ↦ rw (kept, here) refl
    | inr other ↦ rw (kept, other) (find-map-filter test f keep xs)
  ]
  | inr dropped ↦ rw dropped (find-map-filter test f keep xs)
]

some_of_map : {X : Type 0} (f : ℕ → X) (o : Option ℕ) (x : X) → option_map f o ≡ Some x → (a : ℕ) × (o ≡ Some a) × (f a ≡ x)
some_of_map f None x h = absurd (cc)
some_of_map f (Some a) x h = (a, refl, cc)

-- an applicant's agent is itself, or a couple of the market
agent_from_cases : (xs : List Partners) (k a : ℕ) → (agent_from xs k a ≡ Single a) ⊎ ((c : ℕ) × (agent_from xs k a ≡ Couple c) × (c < k + length xs))
agent_from_cases [] k a = inl refl
agent_from_cases (x ∷ xs) k a = elim (cases_Bool (is_member x a)) [
  | inl member ↦ inr (k, rw member refl, omega arith)
  | inr other ↦ rw other (elim (agent_from_cases xs (k + 1) a) [
    | inl alone ↦ inl alone
    | inr w ↦ inr (w.0, w.1, omega (arith, w.2))
  ])
]

pub agent_cases : (m : Market) (a : ℕ) → (agent_of m a ≡ Single a) ⊎ ((c : ℕ) × (agent_of m a ≡ Couple c) × (c < length m.couples))
agent_cases m a = elim (agent_from_cases m.couples 0 a) [
  | inl alone ↦ inl alone
  | inr w ↦ inr (w.0, w.1, omega (arith, w.2))
]

-- singles lead themselves, and first members their couples
pub leads-Single : (m : Market) (a : ℕ) → agent_of m a ≡ Single a → IsTrue (leads m a)
leads-Single m a is = rw is refl

pub leads-first : (m : Market) (c a : ℕ) → agent_of m a ≡ Couple c → a ≡ (couple_of m c).first → IsTrue (leads m a)
leads-first m c a is first = rw is (eq-eqb (couple_of m c).first a (sym first))

-- what holds of every agent, and of the agent of every number
list_all-filter : {X : Type 0} (test : X → Bool) (f : ℕ → X) (keep : Set) (xs : List ℕ)
    → list_all test (map f (filter keep xs)) ≡ list_all (λ a. not (keep a) || test (f a)) xs
list_all-filter test f keep [] = refl
list_all-filter test f keep (x ∷ xs) = elim (cases_Bool (keep x)) [
  | inl kept ↦ rw kept (ap (λ (b : Bool). test (f x) && b) (list_all-filter test f keep xs))
  | inr dropped ↦ rw dropped (list_all-filter test f keep xs)
]

-- Below, the market is well formed.
module _ (m : Market) (h : IsWellFormed m) where
  -- what holds of all agents holds of each applicant's
  of_each_agent : (test : Agent → Bool) → IsTrue (list_all test (agents m)) → (a : ℕ) → a < applicants m → IsTrue (test (agent_of m a))
  of_each_agent test all a a_in = elim (agent_cases m a) [
    | inl alone ↦ at a a_in (leads-Single m a alone)
    | inr w ↦
        let first = (couple_of m w.0).first in
        let member : IsMember m w.0 first = h.first_member w.0 w.2 in
        let there : IsTrue (test (agent_of m first)) = at first member.within (leads-first m w.0 first member.belongs refl) in
        subst (λ g. IsTrue (test g)) (member.belongs ∙ sym w.1) there
  ]
    where
      at : (b : ℕ) → b < applicants m → IsTrue (leads m b) → IsTrue (test (agent_of m b))
      at b b_in leading =
          let here : IsTrue (not (leads m b) || test (agent_of m b)) =
          each_below (λ i. not (leads m i) || test (agent_of m i)) (applicants m) (sym (list_all-filter test (agent_of m) (leads m) (below (applicants m))) ∙ all) b b_in in
          rw leading at here

  -- what holds of the agent of each number at which a finding on it is reported holds of all agents
  of_all_agents : (test : Agent → Bool) → ((a : ℕ) → a < applicants m → lowest_number m (agent_of m a) ≡ a → IsTrue (test (agent_of m a)))
      → IsTrue (list_all test (agents m))
  of_all_agents test each =
      list_all-filter test (agent_of m) (leads m) (below (applicants m))
      ∙ all_below (λ a. not (leads m a) || test (agent_of m a)) (applicants m) (λ a a_in. or_right _ _ (here a a_in))
    where
      lowest : (c : ℕ) (b a : ℕ) → IsMember m c b → lowest_number m (Couple c) ≡ b → agent_of m a ≡ Couple c → IsTrue (test (agent_of m a))
      lowest c b a member low is =
          let there : IsTrue (test (agent_of m b)) = each b member.within (ap (lowest_number m) member.belongs ∙ low) in
          subst (λ g. IsTrue (test g)) (member.belongs ∙ sym is) there

      here : (a : ℕ) → a < applicants m → IsTrue (test (agent_of m a))
      here a a_in = elim (agent_cases m a) [
        | inl alone ↦ each a a_in (ap (lowest_number m) alone)
        | inr w ↦ elim (cases_lt (couple_of m w.0).first (couple_of m w.0).second) [
          | inl first_low ↦ lowest w.0 (couple_of m w.0).first a (h.first_member w.0 w.2) (omega arith) w.1
          | inr second_low ↦ lowest w.0 (couple_of m w.0).second a (h.second_member w.0 w.2) (omega arith) w.1
        ]
      ]

-- a place is allowed if the agent whose number this is has an option of its own, and the program lists
-- the applicant
pub allowed_parts : (m : Market) (places : Places) (a : ℕ) → IsFalse (is_unlisted m places a)
    → IsTrue (is_listed m a (place_of places a)) × (lowest_number m (agent_of m a) ≡ a → IsTrue (has_own_option m places (agent_of m a)))
allowed_parts m places a h =
    let parts = or_parts ((lowest_number m (agent_of m a) == a) && not (has_own_option m places (agent_of m a))) (not (is_listed m a (place_of places a))) h in (
      true_from_ne_false _ (λ unlisted. both_ways _ parts.1 (not_from_false _ unlisted)),
      (λ low. true_from_ne_false _ (λ none. both_ways _ parts.0 (and_from _ _ (eq-eqb (lowest_number m (agent_of m a)) a low) (not_from_false _ none)))),
    )

pub allowed_from : (m : Market) (places : Places) (a : ℕ)
    → IsTrue (is_listed m a (place_of places a)) → IsTrue (has_own_option m places (agent_of m a)) → IsFalse (is_unlisted m places a)
allowed_from m places a listed own = or_from _ _ (and_right _ _ (not_from_true _ own)) (not_from_true _ listed)

-- whether a number isn't over a limit, either way
within_from : (n q : ℕ) → IsFalse (not (nat_le n q)) → IsTrue (nat_le n q)
within_from n q h = not_false _ h
  where
    not_false : (b : Bool) → IsFalse (not b) → IsTrue b
    not_false true h = refl
    not_false false h = sym h

-- the three parts of the test of a match that fits
pub record FittingParts (m : Market) (places : Places) : Type 0 where
  pub own_options : IsTrue (list_all (has_own_option m places) (agents m))
  pub listed : IsTrue (list_all (λ a. is_listed m a (place_of places a)) (below (applicants m)))
  pub within : IsTrue (list_all (λ p. nat_le (filled places p) (program_of m p).quota) (below (length m.programs)))

pub fitting_parts : (m : Market) (places : Places) → IsTrue (fits m places) → FittingParts m places
fitting_parts m places h =
    let last = and_parts _ (list_all (λ p. nat_le (filled places p) (program_of m p).quota) (below (length m.programs))) h in
    let third = and_parts _ (list_all (λ a. is_listed m a (place_of places a)) (below (applicants m))) last.0 in
    record { own_options = (and_parts (length places == applicants m) _ third.0).1; listed = third.1; within = last.1 }

pub fits_from_parts : (m : Market) (places : Places) → length places ≡ applicants m → FittingParts m places → IsTrue (fits m places)
fits_from_parts m places one_each h = and_from _ _ (and_from _ _ (and_from _ _ (eq-eqb _ _ one_each) h.own_options) h.listed) h.within

-- A match fits if every place is allowed, and no program has more than its quota.
pub record IsInOrder (m : Market) (places : Places) : Type 0 where
  pub all_listed : (a : ℕ) → a < applicants m → IsFalse (is_unlisted m places a)
  pub none_over : (p : ℕ) → p < length m.programs → IsFalse (is_over m places p)

pub fits_in_order : (m : Market) → IsWellFormed m → (places : Places) → length places ≡ applicants m → IsInOrder m places → IsTrue (fits m places)
fits_in_order m h places one_each order = fits_from_parts m places one_each (record {
  own_options = of_all_agents m h (has_own_option m places) (λ a a_in low. (allowed_parts m places a (order.all_listed a a_in)).1 low);
  listed = all_below (λ a. is_listed m a (place_of places a)) (applicants m) (λ a a_in. (allowed_parts m places a (order.all_listed a a_in)).0);
  within = all_below (λ p. nat_le (filled places p) (program_of m p).quota) (length m.programs) (λ p p_in. within_from _ _ (order.none_over p p_in));
})

pub in_order_from_fits : (m : Market) → IsWellFormed m → (places : Places) → IsTrue (fits m places) → IsInOrder m places
in_order_from_fits m h places fitting =
    let parts = fitting_parts m places fitting in
    record {
      all_listed = λ a a_in. allowed_from m places a
          (each_below (λ b. is_listed m b (place_of places b)) (applicants m) parts.listed a a_in)
          (of_each_agent m h (has_own_option m places) parts.own_options a a_in);
      none_over = λ p p_in. not_from_true _ (each_below (λ q. nat_le (filled places q) (program_of m q).quota) (length m.programs) parts.within p p_in);
    }

-- what stands before the first element that stops
pub until_at : {X : Type 0} (stop : X → Bool) (xs : List X) (k : ℕ) (d : X) → k < length (until stop xs)
    → (k < length xs) × (get_or (until stop xs) k d ≡ get_or xs k d) × IsFalse (stop (get_or xs k d))
until_at stop [] k d h = absurd (omega arith)
until_at stop (x ∷ xs) zero d h = elim (cases_Bool (stop x)) [
  | inl here ↦ (let none : 0 < 0 = rw here at h in absurd (omega arith))
  | inr other ↦ (omega arith, rw other refl, other)
]
until_at stop (x ∷ xs) (suc k) d h = elim (cases_Bool (stop x)) [
  | inl here ↦ (let none : suc k < 0 = rw here at h in absurd (omega arith))
  | inr other ↦
      let less : suc k < length (x ∷ until stop xs) = rw other at h in
      let r = until_at stop xs k d (omega arith) in
      (omega (arith, r.0), rw other r.1, r.2)
]

-- a test that something passes has a first place if it passes
pub position_from_any : {X : Type 0} (test : X → Bool) (xs : List X) → IsTrue (list_any test xs) → position test xs ≡ Some (unwrap_or (position test xs) 0)
position_from_any test xs some = let low : position_or_len test xs < length xs = place test xs some in rw (lt-ltb _ _ low) refl
  where
    place : {X : Type 0} (test : X → Bool) (xs : List X) → IsTrue (list_any test xs) → position_or_len test xs < length xs
    place test [] some = absurd (both_ways false refl some)
    place test (x ∷ xs) some = elim (cases_Bool (test x)) [
      | inl here ↦ rw here (omega arith)
      | inr other ↦ rw other (let rest : position_or_len test xs < length xs = place test xs (rw other at some) in omega arith)
    ]

-- an agent that blocks does so with the first option that the verdict names
pub first_taken : (m : Market) (places : Places) (g : Agent) → IsTrue (blocks m places g) → IsFirstTaken m places g (blocking_option m places g)
first_taken m places g blocking =
    let at = position-Some (would_be_taken m places) (better m places g) (blocking_option m places g) [] (position_from_any (would_be_taken m places) (better m places g) blocking) in
    let here = until_at (holds places) (options m g) (blocking_option m places g) [] at.0 in
    record {
      within = here.0;
      is_better = λ k up_to. (until_at (holds places) (options m g) k [] (omega (arith, at.0))).2;
      is_taken = subst (λ sent. IsTrue (would_be_taken m places sent)) here.1 at.1;
      none_before = λ k before.
          subst (λ sent. IsFalse (would_be_taken m places sent)) (until_at (holds places) (options m g) k [] (omega (arith, at.0))).1 (at.2 k before);
    }

-- the agent found first is led by the first number that leads one that blocks
find_agent : (m : Market) (test : Agent → Bool) (g : Agent) → find test (agents m) ≡ Some g
    → (a : ℕ) × IsFirstBelow (λ b. leads m b && test (agent_of m b)) (applicants m) a × (agent_of m a ≡ g)
find_agent m test g h =
    let found = some_of_map (agent_of m) (find (λ a. leads m a && test (agent_of m a)) (below (applicants m))) g (sym (find-map-filter test (agent_of m) (leads m) (below (applicants m))) ∙ h) in
    (found.0, find_below (λ a. leads m a && test (agent_of m a)) (applicants m) found.0 found.1, found.2)

-- each stage of the verdict
blocks_says : (m : Market) (places : Places) (o : Option Agent) → find (blocks m places) (agents m) ≡ o → IsTrue (fits m places)
    → VerdictSays m places (blocks_verdict m places o)
blocks_says m places None none fitting = and_from _ _ fitting (not_from_false _ (find_nothing (blocks m places) (agents m) none))
blocks_says m places (Some g) found fitting =
    let w = find_agent m (blocks m places) g found in
    let parts = and_parts (leads m w.0) (blocks m places (agent_of m w.0)) w.1.passes in
    record {
      fitting = fitting;
      number = w.0;
      is_first = w.1;
      is_agent = w.2;
      with_option = first_taken m places g (subst (λ a. IsTrue (blocks m places a)) w.2 parts.1);
    }

over_says : (m : Market) → IsWellFormed m → (places : Places) → length places ≡ applicants m
    → ((a : ℕ) → a < applicants m → IsFalse (is_unlisted m places a))
    → (o : Option ℕ) → find (is_over m places) (below (length m.programs)) ≡ o → VerdictSays m places (over_verdict m places o)
over_says m h places one_each listed None none =
    blocks_says m places (find (blocks m places) (agents m)) refl
    (fits_in_order m h places one_each (record { all_listed = listed; none_over = none_found_below (is_over m places) (length m.programs) none }))
over_says m h places one_each listed (Some p) found =
    let first = find_below (is_over m places) (length m.programs) p found in
    record {
      all_listed = listed;
      is_first = first;
      unfit = false_from_ne_true _ (λ fitting. both_ways _ ((in_order_from_fits m h places fitting).none_over p first.within) first.passes);
    }

unlisted_says : (m : Market) → IsWellFormed m → (places : Places) → length places ≡ applicants m
    → (o : Option ℕ) → find (is_unlisted m places) (below (applicants m)) ≡ o → VerdictSays m places (unlisted_verdict m places o)
unlisted_says m h places one_each None none =
    over_says m h places one_each (none_found_below (is_unlisted m places) (applicants m) none) (find (is_over m places) (below (length m.programs))) refl
unlisted_says m h places one_each (Some a) found =
    let first = find_below (is_unlisted m places) (applicants m) a found in
    record {
      is_first = first;
      unfit = false_from_ne_true _ (λ fitting. both_ways _ ((in_order_from_fits m h places fitting).all_listed a first.within) first.passes);
    }

-- the verdict of a match says what is so of it
pub verdict_in_words_lem : VerdictInWords
verdict_in_words_lem m h places one_each = unlisted_says m h places one_each (find (is_unlisted m places) (below (applicants m))) refl

-- no verdict but the first is given of a stable match
only_stable : (m : Market) → IsWellFormed m → (places : Places) (v : Verdict) → VerdictSays m places v → IsTrue (stable m places) → v ≡ Stable
only_stable m h places Stable says is = refl
only_stable m h places (Unlisted a) says is = absurd (both_ways _ says.unfit (and_parts (fits m places) _ is).0)
only_stable m h places (Over p) says is = absurd (both_ways _ says.unfit (and_parts (fits m places) _ is).0)
only_stable m h places (Blocks b) says is =
    let none : IsTrue (list_all (λ g. not (blocks m places g)) (agents m)) =
    not-false _ (sym (list_any-not (blocks m places) (agents m)) ∙ not-true _ (and_parts (fits m places) _ is).1) in
    let not_it = of_each_agent m h (λ g. not (blocks m places g)) none says.number says.is_first.within in
    absurd (both_ways _ (not-true _ not_it) (and_parts (leads m says.number) (blocks m places (agent_of m says.number)) says.is_first.passes).1)

pub stable_verdict_lem : StableVerdict
stable_verdict_lem m h places one_each = (
  (λ is. subst (VerdictSays m places) is (verdict_in_words_lem m h places one_each)),
  only_stable m h places (verdict_of m places) (verdict_in_words_lem m h places one_each),
)
