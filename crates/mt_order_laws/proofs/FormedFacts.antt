-- A market with some couples in an order, or with some of them set aside, is well formed. An applicant's agent is its
-- couple's place in the order, or the applicant itself if its couple is not there.
use Rattle.std.proofs.Common.{◌≡◌, ℕ, ◌+◌, ◌<◌, ◌≤◌, Bool, true, false, not, ◌&&◌, ◌==◌, nat_lt, List, [], ◌∷◌, map, length, inl, inr, refl, ap, sym, ◌∙◌, arith, subst, get_or, eqb-true, ltb-true, if◌then◌else◌}
use Rattle.std.proofs.lemmas.Bool.{cases_Bool, and_parts, or_cases, false≢true}
use Rattle.std.proofs.lemmas.List.{get_or-map, length-map, ext_get_or}
use Rattle.std.proofs.lemmas.List.FromFn.{get_or-range_with_len}
use Rattle.mt_terms.specs.Lists.{has, below}
use Rattle.mt_terms.specs.Market.{Market, Partners, couple_of, is_member, agent_from, agent_of, members}
use Rattle.mt_terms.specs.WellFormed.{IsMember, IsWellFormed}
use Rattle.mt_terms.specs.declared.numbers.Agent.{Agent}
use Rattle.mt_terms.specs.declared.numbers.Agent.TheVariants.{Single, Couple}
use Rattle.mt_terms.proofs.BelowFacts.{length-map_below, map_below_at}
use Rattle.mt_terms.proofs.ListFacts.{has_item, has-filter, distinct-filter}
use Rattle.mt_terms.specs.Places.{ArePlaces}
use Rattle.mt_terms.specs.Matching.{Places}
use Rattle.mt_round_laws.proofs.RoundsAgents.{member_of_agent}
use Rattle.mt_order_laws.specs.Reordered.{reordered, unless_aside, set_aside, IsOrderOfSome, IsOrderWithout}
use Rattle.mt_order_laws.specs.Laws.{WellFormedInAnyOrder, WellFormedAside, NoneAside, OthersAreOrder}
use Rattle.mt_order_laws.proofs.AgentsOf.{single_among, couple_among}
use Rattle.mt_order_laws.proofs.OrderLists.{and_swap, below_distinct, has_below, length_below}

-- a couple that no market has
abbrev pub no_couple : Partners
no_couple = record { first = 0; second = 0; pairs = [] }

-- a couple of an order is the one at its place
pub couple_at : (m : Market) (order : List ℕ) (i : ℕ) → i < length order → couple_of (reordered order m) i ≡ couple_of m (get_or order i 0)
couple_at m order i l = get_or-map (couple_of m) order i 0 no_couple l

-- as many couples enter as the order has
pub places_of_order : (m : Market) (order : List ℕ) (i : ℕ) → i < length (map (couple_of m) order) → i < length order
places_of_order m order i l = omega (arith, length-map order (couple_of m))

-- an applicant whose agent is a single is that single
pub single_is : (m : Market) (a b : ℕ) → agent_of m a ≡ Single b → b ≡ a
single_is m a b e = elim (or_cases (b == a) false (subst (λ g. has (members m g) a ≡ true) e (member_of_agent m a))) [
  | inl same ↦ eqb-true b a same
  | inr none ↦ absurd (false≢true none)
]

-- the couple of an applicant has a number between these
pub couple_within : (xs : List Partners) (k a c : ℕ) → agent_from xs k a ≡ Couple c → (k ≤ c) × (c < k + length xs)
couple_within [] k a c e = absurd cc
couple_within (x ∷ xs) k a c e = elim (cases_Bool (is_member x a)) [
  | inl t ↦ (let both : Couple k ≡ Couple c = rw t at e in let is : k ≡ c = cc in (omega arith, omega arith))
  | inr t ↦ (let rest = couple_within xs (k + 1) a c (rw t at e) in (omega arith, omega arith))
]

-- a single is no couple
pub no_single : (a c : ℕ) → Single a ≡ Couple c → ⊥
no_single a c e = cc

module _ (m : Market) (wf : IsWellFormed m) (order : List ℕ) (o : IsOrderOfSome m order) where
  -- an applicant that belongs to no couple of the order is a single
  pub single_in_order : (a : ℕ) → ((c : ℕ) → has order c ≡ true → agent_of m a ≡ Couple c → ⊥) → agent_of (reordered order m) a ≡ Single a
  single_in_order a none = single_among m wf (couple_of m) a order 0 (λ c b i. refl) o.within none

  -- an applicant that belongs to the couple at a place of the order has that place as its couple's number
  pub couple_in_order : (a i : ℕ) → i < length order → agent_of m a ≡ Couple (get_or order i 0) → agent_of (reordered order m) a ≡ Couple i
  couple_in_order a i l is =
      let e : 0 + i ≡ i = omega arith in
      couple_among m wf (couple_of m) a order 0 i (λ c b j. refl) o.within o.distinct l is ∙ ap Couple e

  member_moves : (i a : ℕ) → i < length order → IsMember m (get_or order i 0) a → IsMember (reordered order m) i a
  member_moves i a l h = record { within = h.within; no_list = h.no_list; belongs = couple_in_order a i l h.belongs }

  number_within : (i : ℕ) → i < length order → get_or order i 0 < length m.couples
  number_within i l = o.within (get_or order i 0) (has_item order i l)

  pub well_formed_reordered : IsWellFormed (reordered order m)
  well_formed_reordered = record {
    lists_distinct = wf.lists_distinct;
    lists_within = wf.lists_within;
    rankings_distinct = wf.rankings_distinct;
    rankings_within = wf.rankings_within;
    first_member = λ i l.
        let here = places_of_order m order i l in
        subst (λ (x : Partners). IsMember (reordered order m) i x.first) (sym (couple_at m order i here))
        (member_moves i (couple_of m (get_or order i 0)).first here (wf.first_member (get_or order i 0) (number_within i here)));
    second_member = λ i l.
        let here = places_of_order m order i l in
        subst (λ (x : Partners). IsMember (reordered order m) i x.second) (sym (couple_at m order i here))
        (member_moves i (couple_of m (get_or order i 0)).second here (wf.second_member (get_or order i 0) (number_within i here)));
    two_members = λ i l.
        let here = places_of_order m order i l in
        subst (λ (x : Partners). x.first ≡ x.second → ⊥) (sym (couple_at m order i here))
        (wf.two_members (get_or order i 0) (number_within i here));
  }

-- a couple without its pairs has the members that it has with them
same_two : (b : Bool) (x : Partners) → let y : Partners = if b then record x { pairs = [] } else x in (y.first ≡ x.first) × (y.second ≡ x.second)
same_two true x = (refl, refl)
same_two false x = (refl, refl)

pub same_members : (b : Bool) (x : Partners) (a : ℕ) → is_member (if b then record x { pairs = [] } else x) a ≡ is_member x a
same_members true x a = refl
same_members false x a = refl

-- places of a market are places of it if couples are set aside
pub places_aside : (m : Market) (aside : List ℕ) (places : Places) → ArePlaces m places → ArePlaces (set_aside aside m) places
places_aside m aside places are = record { one_each = are.one_each; within = are.within }

-- couples that are set aside keep their numbers
pub couple_aside : (m : Market) (aside : List ℕ) (c : ℕ) → c < length m.couples → couple_of (set_aside aside m) c ≡ unless_aside aside m c
couple_aside m aside c l = map_below_at (unless_aside aside m) (length m.couples) c no_couple l

pub couples_aside : (m : Market) (aside : List ℕ) → length (map (unless_aside aside m) (below (length m.couples))) ≡ length m.couples
couples_aside m aside = length-map_below (unless_aside aside m) (length m.couples)

below_within : (n c : ℕ) → has (below n) c ≡ true → c < n
below_within n c h = ltb-true c n (sym (has_below c n) ∙ h)

module _ (m : Market) (wf : IsWellFormed m) (aside : List ℕ) where
  -- whose member an applicant is doesn't depend on which couples are set aside
  pub agent_aside : (a : ℕ) → agent_of (set_aside aside m) a ≡ agent_of m a
  agent_aside a = by_kind (agent_of m a) refl
    where
      are : (c b : ℕ) → has (below (length m.couples)) c ≡ true → is_member (unless_aside aside m c) b ≡ is_member (couple_of m c) b
      are c b i = same_members (has aside c) (couple_of m c) b

      by_kind : (g : Agent) → agent_of m a ≡ g → agent_of (set_aside aside m) a ≡ g
      by_kind (Single b) e =
          let is : b ≡ a = single_is m a b e in
          single_among m wf (unless_aside aside m) a (below (length m.couples)) 0 are (below_within (length m.couples))
          (λ c i couple. no_single b c (sym e ∙ couple)) ∙ ap Single (sym is)
      by_kind (Couple c) e =
          let l : c < length m.couples = (let w = couple_within m.couples 0 a c e in omega arith) in
          let zero_c : 0 + c ≡ c = omega arith in
          let at : get_or (below (length m.couples)) c 0 ≡ c = get_or-range_with_len 0 (length m.couples) c 0 l ∙ zero_c in
          let many : length (below (length m.couples)) ≡ length m.couples = length_below (length m.couples) in
          couple_among m wf (unless_aside aside m) a (below (length m.couples)) 0 c are (below_within (length m.couples))
          (below_distinct (length m.couples)) (omega arith) (e ∙ ap Couple (sym at)) ∙ ap Couple zero_c

  member_stays : (c a : ℕ) → IsMember m c a → IsMember (set_aside aside m) c a
  member_stays c a h = record { within = h.within; no_list = h.no_list; belongs = agent_aside a ∙ h.belongs }

  pub well_formed_set_aside : IsWellFormed (set_aside aside m)
  well_formed_set_aside = record {
    lists_distinct = wf.lists_distinct;
    lists_within = wf.lists_within;
    rankings_distinct = wf.rankings_distinct;
    rankings_within = wf.rankings_within;
    first_member = λ c l.
        let here : c < length m.couples = omega (arith, couples_aside m aside) in
        let is = ap Partners.first (couple_aside m aside c here) ∙ (same_two (has aside c) (couple_of m c)).0 in
        subst (IsMember (set_aside aside m) c) (sym is) (member_stays c (couple_of m c).first (wf.first_member c here));
    second_member = λ c l.
        let here : c < length m.couples = omega (arith, couples_aside m aside) in
        let is = ap Partners.second (couple_aside m aside c here) ∙ (same_two (has aside c) (couple_of m c)).1 in
        subst (IsMember (set_aside aside m) c) (sym is) (member_stays c (couple_of m c).second (wf.second_member c here));
    two_members = λ c l e.
        let here : c < length m.couples = omega (arith, couples_aside m aside) in
        let one = ap Partners.first (couple_aside m aside c here) ∙ (same_two (has aside c) (couple_of m c)).0 in
        let two = ap Partners.second (couple_aside m aside c here) ∙ (same_two (has aside c) (couple_of m c)).1 in
        wf.two_members c here (sym one ∙ e ∙ two);
  }

pub well_formed_in_any_order_lem : WellFormedInAnyOrder
well_formed_in_any_order_lem m order wf o = well_formed_reordered m wf order o

pub well_formed_aside_lem : WellFormedAside
well_formed_aside_lem m aside wf = well_formed_set_aside m wf aside

-- if none is set aside, each couple is as it was
pub none_aside_lem : NoneAside
none_aside_lem m =
    let same : map (unless_aside [] m) (below (length m.couples)) ≡ m.couples =
    ext_get_or no_couple (map (unless_aside [] m) (below (length m.couples))) m.couples (couples_aside m [])
    (λ c l. let here : c < length m.couples = omega (arith, couples_aside m []) in map_below_at (unless_aside [] m) (length m.couples) c no_couple here) in
    ap (λ (cs : List Partners). record m { couples = cs }) same

-- the couples that are not set aside are an order of them
pub others_are_order_lem : OthersAreOrder
others_are_order_lem m aside = record {
  distinct = distinct-filter (λ c. not (has aside c)) (below (length m.couples)) (below_distinct (length m.couples));
  of_others = λ c.
      has-filter (λ c. not (has aside c)) (below (length m.couples)) c
      ∙ ap (λ (b : Bool). not (has aside c) && b) (has_below c (length m.couples))
      ∙ and_swap (not (has aside c)) (nat_lt c (length m.couples));
}

-- such an order is one of some couples
pub order_of_some : (m : Market) (aside order : List ℕ) → IsOrderWithout m aside order → IsOrderOfSome m order
order_of_some m aside order o = record {
  distinct = o.distinct;
  within = λ c on. ltb-true c (length m.couples) (and_parts (nat_lt c (length m.couples)) (not (has aside c)) (sym (o.of_others c) ∙ on)).0;
}
