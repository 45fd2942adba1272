-- A match that fits, fact by fact, and what its facts are read from.
use Rattle.std.proofs.Common.{◌≡◌, ℕ, ◌<◌, ◌≤◌, Bool, true, false, ◌&&◌, ◌||◌, ◌==◌, [], length, Option, Some, None, inl, inr, refl, ap₂, arith, subst, eq-eqb, eqb-true, nat_le, leb-true, le-leb}
use Rattle.std.specs.List.{list_all}
use Rattle.std.proofs.lemmas.Bool.{cases_lt, false≢true}
use Rattle.std.proofs.lemmas.List.{get_or_past}
use Rattle.mt_terms.specs.Lists.{has, below, count}
use Rattle.mt_terms.specs.Market.{Market, applicants, program_of, members, agents}
use Rattle.mt_terms.specs.Matching.{Places, place_of, at, filled, options, holds, better, Placement}
use Rattle.mt_terms.specs.Stability.{is_listed, has_own_option, fits}
use Rattle.mt_terms.specs.WellFormed.{IsWellFormed}
use Rattle.mt_terms.specs.declared.numbers.Agent.{Agent}
use Rattle.mt_round_laws.proofs.RoundsLists.{in_below, each, all_pass, same_any, same_until, In}
use Rattle.mt_stability_laws.proofs.ExclusionLemmas.{lt_of_there}
use Rattle.mt_round_laws.proofs.RoundsPlaces.{is_program_some, at_some, filled_is_count, holds_same, none_placed_same}
use Rattle.mt_round_laws.proofs.RoundsAgents.{IsAgent, agent_on_list, agent_from_list, option_movers}

-- What it means that a match fits: each agent has an option of its list or nothing, each placed applicant is
-- on its program's list, and no program has more of its list than its quota.
pub record IsFitting (m : Market) (places : Places) : Type 0 where
  pub one_each : length places ≡ applicants m
  pub own : (g : Agent) → IsAgent m g → has_own_option m places g ≡ true
  pub listed : (a p : ℕ) → at places p a ≡ true → has (program_of m p).ranking a ≡ true
  pub within : (p : ℕ) → count (at places p) (program_of m p).ranking ≤ (program_of m p).quota

-- four tests that all pass
all_four : (t u v w : Bool) → (t && u && v && w) ≡ true → (t ≡ true) × (u ≡ true) × (v ≡ true) × (w ≡ true)
all_four true true true true h = (refl, refl, refl, refl)
all_four true true true false h = absurd (false≢true h)
all_four true true false w h = absurd (false≢true h)
all_four true false v w h = absurd (false≢true h)
all_four false u v w h = absurd (false≢true h)

-- a number past the programs has no list
program_past : (m : Market) (p : ℕ) → length m.programs ≤ p → program_of m p ≡ record { quota = 0; ranking = [] }
program_past m p h = get_or_past m.programs p (record { quota = 0; ranking = [] }) h

-- who is on a program's list is on that of a program of the market
pub listing_program : (m : Market) (p a : ℕ) → has (program_of m p).ranking a ≡ true → p < length m.programs
listing_program m p a h = elim (cases_lt p (length m.programs)) [
  | inl l ↦ l
  | inr past ↦ absurd (false≢true (rw (program_past m p past) at h))
]

-- how many are placed at a program whose list has them all
filled_of_list : (m : Market) → IsWellFormed m → (places : Places) (p : ℕ) → length places ≡ applicants m
    → ((a : ℕ) → at places p a ≡ true → has (program_of m p).ranking a ≡ true) → filled places p ≡ count (at places p) (program_of m p).ranking
filled_of_list m wf places p e listed =
    filled_is_count (program_of m p).ranking places p (wf.rankings_distinct p) (λ a i. let l = wf.rankings_within p a i in omega arith) listed

-- what the test of a match that fits tests
pub fitting_facts : (m : Market) → IsWellFormed m → (places : Places) → fits m places ≡ true → IsFitting m places
fitting_facts m wf places h = record { one_each = one_each; own = own; listed = listed; within = within }
  where
    parts : (((length places == applicants m) ≡ true) × (list_all (has_own_option m places) (agents m) ≡ true)
        × (list_all (λ a. is_listed m a (place_of places a)) (below (applicants m)) ≡ true)
        × (list_all (λ p. nat_le (filled places p) (program_of m p).quota) (below (length m.programs)) ≡ true))
    parts = all_four (length places == applicants m) (list_all (has_own_option m places) (agents m))
        (list_all (λ a. is_listed m a (place_of places a)) (below (applicants m)))
        (list_all (λ p. nat_le (filled places p) (program_of m p).quota) (below (length m.programs))) h

    one_each : length places ≡ applicants m
    one_each = eqb-true (length places) (applicants m) parts.0

    own : (g : Agent) → IsAgent m g → has_own_option m places g ≡ true
    own g i = each (has_own_option m places) g (agents m) parts.1 (agent_on_list m g i)

    listed : (a p : ℕ) → at places p a ≡ true → has (program_of m p).ranking a ≡ true
    listed a p here =
        let l = lt_of_there places a p here in
        let one = one_each in
        let placed = each (λ b. is_listed m b (place_of places b)) a (below (applicants m)) parts.2 (in_below a (applicants m) (omega arith)) in
        rw (is_program_some p (place_of places a) here) at placed

    within : (p : ℕ) → count (at places p) (program_of m p).ranking ≤ (program_of m p).quota
    within p = elim (cases_lt p (length m.programs)) [
      | inl l ↦
          let few = each (λ q. nat_le (filled places q) (program_of m q).quota) p (below (length m.programs)) parts.3 (in_below p (length m.programs) l) in
          let le = leb-true (filled places p) (program_of m p).quota few in
          let same = filled_of_list m wf places p one_each (λ a. listed a p) in
          omega arith
      | inr past ↦ rw (program_past m p past) (omega arith)
    ]

-- if an applicant is placed its program lists it
listed_place : (m : Market) (places : Places) → IsFitting m places → (a : ℕ) (v : Option ℕ) → place_of places a ≡ v → is_listed m a v ≡ true
listed_place m places f a None e = refl
listed_place m places f a (Some p) e = f.listed a p (at_some places p a e)

-- what passes the test of a match that fits
pub fits_from : (m : Market) → IsWellFormed m → (places : Places) → IsFitting m places → fits m places ≡ true
fits_from m wf places f =
    rw (
      eq-eqb (length places) (applicants m) f.one_each,
      all_pass (has_own_option m places) (agents m) (λ g i. f.own g (agent_from_list m wf g i)),
      all_pass (λ a. is_listed m a (place_of places a)) (below (applicants m)) (λ a i. listed_place m places f a (place_of places a) refl),
      all_pass (λ p. nat_le (filled places p) (program_of m p).quota) (below (length m.programs)) (λ p i. within p),
    ) refl
  where
    within : (p : ℕ) → nat_le (filled places p) (program_of m p).quota ≡ true
    within p =
        let same = filled_of_list m wf places p f.one_each (λ a. f.listed a p) in
        let few = f.within p in
        le-leb (filled places p) (program_of m p).quota (omega arith)

-- an option is held alike if the agent's members have the same places
same_holds : (m : Market) (P Q : Places) (g : Agent) → ((a : ℕ) → has (members m g) a ≡ true → place_of P a ≡ place_of Q a)
    → (o : Placement) → In o (options m g) → holds P o ≡ holds Q o
same_holds m P Q g h o i = holds_same P Q o (λ a j. h a (subst (λ xs. has xs a ≡ true) (option_movers m g o i) j))

-- what an agent has, and what is better, go by its members' places
pub same_own_option : (m : Market) (P Q : Places) (g : Agent) → ((a : ℕ) → has (members m g) a ≡ true → place_of P a ≡ place_of Q a)
    → has_own_option m P g ≡ has_own_option m Q g
same_own_option m P Q g h =
    ap₂ ◌||◌ (same_any (holds P) (holds Q) (options m g) (same_holds m P Q g h)) (none_placed_same P Q (members m g) h)

-- and so does what is better
pub same_better : (m : Market) (P Q : Places) (g : Agent) → ((a : ℕ) → has (members m g) a ≡ true → place_of P a ≡ place_of Q a)
    → better m P g ≡ better m Q g
same_better m P Q g h = same_until (holds P) (holds Q) (options m g) (same_holds m P Q g h)
