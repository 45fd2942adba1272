-- A test goes by an agent's options and members. It passes for all agents of a market in an order if it does once the
-- others are set aside. Fitting and blocking are such tests.
use Rattle.std.proofs.Common.{◌≡◌, ℕ, ◌<◌, Bool, true, false, not, ◌&&◌, ◌||◌, ◌==◌, nat_lt, nat_le, List, [], ◌∷◌, map, length, inl, inr, refl, ap, ap₂, sym, ◌∙◌, arith, subst, get_or, lt-ltb, if◌then◌else◌}
use Rattle.std.specs.List.{list_any, list_all}
use Rattle.std.proofs.lemmas.Bool.{cases_Bool, and_parts, and_from, both_ways, not-true, not-false}
use Rattle.std.proofs.lemmas.List.{length-map}
use Rattle.mt_terms.specs.Lists.{has, below, until}
use Rattle.mt_terms.specs.Market.{Market, Partners, applicants, program_of, list_of, couple_of, agent_of, members, agents}
use Rattle.mt_terms.specs.Matching.{Places, Placement, place_of, filled, couple_placement, single_placement, options, holds, none_placed}
use Rattle.mt_terms.specs.Stability.{is_listed, would_be_taken, blocks}
use Rattle.mt_terms.specs.WellFormed.{IsMember, IsWellFormed}
use Rattle.mt_terms.specs.declared.numbers.Agent.{Agent}
use Rattle.mt_terms.specs.declared.numbers.Agent.TheVariants.{Single, Couple}
use Rattle.std.specs.Cmp.{both_ways as same_tests}
use Rattle.mt_stability_laws.proofs.ListLemmas.{list_any-not}
use Rattle.mt_round_laws.proofs.RoundsLists.{each, all_pass}
use Rattle.mt_round_laws.proofs.RoundsSets.{has_head}
use Rattle.mt_round_laws.proofs.RoundsAgents.{IsAgent, agent_on_list, agent_from_list, couple_members, couple_number, single_member, one_of_two, member_of_agent}
use Rattle.mt_terms.proofs.ListFacts.{has_item}
use Rattle.mt_order_laws.specs.Reordered.{reordered, unless_aside, set_aside, IsOrderOfSome, IsOrderWithout}
use Rattle.mt_order_laws.specs.Laws.{FitsInAnyOrder, StableInAnyOrder, BestInAnyOrder}
use Rattle.mt_order_laws.proofs.OrderLists.{place_in}
use Rattle.mt_order_laws.proofs.FormedFacts.{couple_at, places_of_order, single_is, couple_within, no_single, single_in_order, couple_in_order, well_formed_reordered, couple_aside, couples_aside, agent_aside, well_formed_set_aside, order_of_some}

-- a test of options and members
abbrev Test : Type 0
Test = List Placement → List ℕ → Bool

-- the test of an agent, and of a couple
abbrev of_agent : Test → Market → Agent → Bool
of_agent test m g = test (options m g) (members m g)

abbrev of_couple : Test → Partners → Bool
of_couple test x = test (map (couple_placement x.first x.second) x.pairs) (x.first ∷ x.second ∷ [])

-- a couple is whole if it is not set aside, and bare if it is
whole : (b : Bool) (x : Partners) → b ≡ false → (if b then record x { pairs = [] } else x) ≡ x
whole b x e = rw e refl

bare : (b : Bool) (x : Partners) → b ≡ true → (if b then record x { pairs = [] } else x) ≡ record x { pairs = [] }
bare b x e = rw e refl

module _ (test : Test) (apart : (a b : ℕ) → test [] (a ∷ b ∷ []) ≡ (test [] (a ∷ []) && test [] (b ∷ [])))
    (m : Market) (wf : IsWellFormed m) (aside order : List ℕ) (o : IsOrderWithout m aside order) where
  some : IsOrderOfSome m order
  some = order_of_some m aside order o

  -- a couple that is not in the order is set aside
  out_is_aside : (c : ℕ) → c < length m.couples → has order c ≡ false → has aside c ≡ true
  out_is_aside c l out =
      let e : (nat_lt c (length m.couples) && not (has aside c)) ≡ false = sym (o.of_others c) ∙ out in
      not-false (has aside c) (rw (lt-ltb c (length m.couples) l) at e)

  in_is_not_aside : (c : ℕ) → has order c ≡ true → has aside c ≡ false
  in_is_not_aside c on = not-true (has aside c) (and_parts (nat_lt c (length m.couples)) (not (has aside c)) (sym (o.of_others c) ∙ on)).1

  aside_is_out : (c : ℕ) → has aside c ≡ true → has order c ≡ false
  aside_is_out c on = elim (cases_Bool (has order c)) [ inl there ↦ absurd (both_ways (has aside c) (in_is_not_aside c there) on) | inr out ↦ out ]

  -- a single that wants nothing is tested by its one member
  empty_single : (a : ℕ) → list_of m a ≡ [] → test (map (single_placement a) (list_of m a)) (a ∷ []) ≡ test [] (a ∷ [])
  empty_single a none = ap (λ xs. test (map (single_placement a) xs) (a ∷ [])) none

  -- the member of a couple that is not in the order is a single there
  member_alone : (c a : ℕ) → IsMember m c a → has order c ≡ false → IsAgent (reordered order m) (Single a)
  member_alone c a h out = single_member (reordered order m) a h.within (single_in_order m wf order some a (λ d on e.
      let both : Couple c ≡ Couple d = sym h.belongs ∙ e in
      let is : c ≡ d = cc in
      both_ways (has order c) out (subst (λ x. has order x ≡ true) (sym is) on)))

  to_aside : ((g : Agent) → IsAgent (reordered order m) g → of_agent test (reordered order m) g ≡ true)
      → (g : Agent) → IsAgent (set_aside aside m) g → of_agent test (set_aside aside m) g ≡ true
  to_aside h (Single a) i =
      let within = i.within a (has_head a []) in
      let is : agent_of m a ≡ Single a = sym (agent_aside m wf aside a) ∙ i.belongs a (has_head a []) in
      h (Single a) (single_member (reordered order m) a within (single_in_order m wf order some a (λ c on e. no_single a c (sym is ∙ e))))
  to_aside h (Couple c) i = elim (cases_Bool (has order c)) [
    | inl on ↦
        let p = place_in order c on in
        let l : p.0 < length (map (couple_of m) order) = omega (arith, length-map order (couple_of m), p.1) in
        let passes = h (Couple p.0) (couple_members (reordered order m) (well_formed_reordered m wf order some) p.0 l) in
        let is : couple_of (reordered order m) p.0 ≡ couple_of (set_aside aside m) c =
        couple_at m order p.0 p.1 ∙ ap (couple_of m) p.2 ∙ sym (whole (has aside c) (couple_of m c) (in_is_not_aside c on)) ∙ sym (couple_aside m aside c here) in
        subst (λ (x : Partners). of_couple test x ≡ true) is passes
    | inr out ↦
        let one = wf.first_member c here in
        let two = wf.second_member c here in
        let first = sym (empty_single (couple_of m c).first one.no_list) ∙ h (Single (couple_of m c).first) (member_alone c (couple_of m c).first one out) in
        let second = sym (empty_single (couple_of m c).second two.no_list) ∙ h (Single (couple_of m c).second) (member_alone c (couple_of m c).second two out) in
        let is : couple_of (set_aside aside m) c ≡ record (couple_of m c) { pairs = [] } =
        couple_aside m aside c here ∙ bare (has aside c) (couple_of m c) (out_is_aside c here out) in
        subst (λ (x : Partners). of_couple test x ≡ true) (sym is)
        (apart (couple_of m c).first (couple_of m c).second ∙ and_from _ _ first second)
  ]
    where
      here : c < length m.couples
      here = let l : c < length (map (unless_aside aside m) (below (length m.couples))) = couple_number (set_aside aside m) c i in omega (arith, couples_aside m aside)

  from_aside : ((g : Agent) → IsAgent (set_aside aside m) g → of_agent test (set_aside aside m) g ≡ true)
      → (g : Agent) → IsAgent (reordered order m) g → of_agent test (reordered order m) g ≡ true
  from_aside h (Couple k) i =
      let l : k < length order = places_of_order m order k (couple_number (reordered order m) k i) in
      let c = get_or order k 0 in
      let on = has_item order k l in
      let here : c < length m.couples = some.within c on in
      let enough : c < length (map (unless_aside aside m) (below (length m.couples))) = omega (arith, couples_aside m aside) in
      let passes = h (Couple c) (couple_members (set_aside aside m) (well_formed_set_aside m wf aside) c enough) in
      let is : couple_of (set_aside aside m) c ≡ couple_of (reordered order m) k =
      couple_aside m aside c here ∙ whole (has aside c) (couple_of m c) (in_is_not_aside c on) ∙ sym (couple_at m order k l) in
      subst (λ (x : Partners). of_couple test x ≡ true) is passes
  from_aside h (Single a) i = by_kind (agent_of m a) refl
    where
      within : a < applicants m
      within = i.within a (has_head a [])

      by_kind : (g : Agent) → agent_of m a ≡ g → of_agent test (reordered order m) (Single a) ≡ true
      by_kind (Single b) e =
          let is : b ≡ a = single_is m a b e in
          h (Single a) (single_member (set_aside aside m) a within (agent_aside m wf aside a ∙ e ∙ ap Single is))
      by_kind (Couple c) e = elim (cases_Bool (has order c)) [
        | inl on ↦
            let p = place_in order c on in
            absurd (no_single a p.0 (sym (i.belongs a (has_head a [])) ∙ couple_in_order m wf order some a p.0 p.1 (e ∙ ap Couple (sym p.2))))
        | inr out ↦
            let here : c < length m.couples = (let w = couple_within m.couples 0 a c e in omega arith) in
            let enough : c < length (map (unless_aside aside m) (below (length m.couples))) = omega (arith, couples_aside m aside) in
            let passes = h (Couple c) (couple_members (set_aside aside m) (well_formed_set_aside m wf aside) c enough) in
            let is : couple_of (set_aside aside m) c ≡ record (couple_of m c) { pairs = [] } =
            couple_aside m aside c here ∙ bare (has aside c) (couple_of m c) (out_is_aside c here out) in
            let both = and_parts _ _ (sym (apart (couple_of m c).first (couple_of m c).second) ∙ subst (λ (x : Partners). of_couple test x ≡ true) is passes) in
            elim (one_of_two _ _ a (subst (λ g. has (members m g) a ≡ true) e (member_of_agent m a))) [
              | inl first ↦ empty_single a (subst (λ x. list_of m x ≡ []) first (wf.first_member c here).no_list) ∙ subst (λ x. test [] (x ∷ []) ≡ true) first both.0
              | inr second ↦ empty_single a (subst (λ x. list_of m x ≡ []) second (wf.second_member c here).no_list) ∙ subst (λ x. test [] (x ∷ []) ≡ true) second both.1
            ]
      ]

  -- so all agents pass alike
  pub all_alike : list_all (of_agent test (reordered order m)) (agents (reordered order m)) ≡ list_all (of_agent test (set_aside aside m)) (agents (set_aside aside m))
  all_alike = same_tests _ _
      (λ h. all_pass _ (agents (set_aside aside m)) (λ g i.
      to_aside (λ k j. each _ k (agents (reordered order m)) h (agent_on_list (reordered order m) k j)) g
      (agent_from_list (set_aside aside m) (well_formed_set_aside m wf aside) g i)))
      (λ h. all_pass _ (agents (reordered order m)) (λ g i.
      from_aside (λ k j. each _ k (agents (set_aside aside m)) h (agent_on_list (set_aside aside m) k j)) g
      (agent_from_list (reordered order m) (well_formed_reordered m wf order some) g i)))

-- Whether an agent has an option of its list or nothing: a test of its options and members.
abbrev own_test : Places → Test
own_test places opts xs = list_any (holds places) opts || none_placed places xs

-- whether nothing that an agent wants more would be taken
abbrev quiet_test : Market → Places → Test
quiet_test m places opts xs = not (list_any (would_be_taken m places) (until (holds places) opts))

none_apart : (x y : Bool) → (x && (y && true)) ≡ ((x && true) && (y && true))
none_apart true y = refl
none_apart false y = refl

-- a match fits alike
pub fits_in_any_order_lem : FitsInAnyOrder
fits_in_any_order_lem m aside order wf o places =
    ap (λ (b : Bool). (length places == applicants m) && b
    && list_all (λ a. is_listed m a (place_of places a)) (below (applicants m))
    && list_all (λ p. nat_le (filled places p) (program_of m p).quota) (below (length m.programs)))
    (all_alike (own_test places) (λ a b. none_apart _ _) m wf aside order o)

-- and as many agents block it: none, or some
quiet_in_any_order : (m : Market) (aside order : List ℕ) → IsWellFormed m → IsOrderWithout m aside order → (places : Places)
    → list_any (blocks (reordered order m) places) (agents (reordered order m)) ≡ list_any (blocks (set_aside aside m) places) (agents (set_aside aside m))
quiet_in_any_order m aside order wf o places =
    list_any-not (blocks (reordered order m) places) (agents (reordered order m))
    ∙ ap not (all_alike (quiet_test m places) (λ a b. refl) m wf aside order o)
    ∙ sym (list_any-not (blocks (set_aside aside m) places) (agents (set_aside aside m)))

pub stable_in_any_order_lem : StableInAnyOrder
stable_in_any_order_lem m aside order wf o places =
    ap₂ ◌&&◌ (fits_in_any_order_lem m aside order wf o places) (ap not (quiet_in_any_order m aside order wf o places))

-- the best match is one of the singles alone
pub best_in_any_order_lem : BestInAnyOrder
best_in_any_order_lem m order places best = record { is_stable = best.is_stable; none_better = best.none_better }
