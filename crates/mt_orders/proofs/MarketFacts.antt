-- What a market in another order has of the market: its rank tables, the best match of the singles, and that this match
-- fits.
use Rattle.std.proofs.Common.{◌≡◌, ℕ, ◌<◌, Bool, true, nat_lt, List, [], map, length, refl, ap, sym, ◌∙◌, arith, subst, lt-ltb}
use Rattle.std.proofs.lemmas.Bool.{and_from}
use Rattle.std.proofs.lemmas.List.{ext_get_or}
use Rattle.mt_terms.specs.Best.{IsBest}
use Rattle.mt_terms.specs.Lists.{has, below}
use Rattle.mt_terms.specs.Market.{Market, Partners, applicants, couple_of, agent_of}
use Rattle.mt_terms.specs.Matching.{Places}
use Rattle.mt_terms.specs.Stability.{fits}
use Rattle.mt_terms.specs.WellFormed.{IsWellFormed}
use Rattle.mt_terms.specs.declared.numbers.Agent.{Agent}
use Rattle.mt_terms.specs.declared.numbers.Agent.TheVariants.{Single, Couple}
use Rattle.mt_terms.proofs.BelowFacts.{length-map_below, map_below_at}
use Rattle.mt_ranks.specs.Ranked.{is_single, is_single_agent, ranked_of}
use Rattle.mt_round_laws.proofs.RoundsStage.{singles_fit}
use Rattle.mt_order_laws.specs.Orders.{in_order, order_of}
use Rattle.mt_order_laws.specs.Reordered.{reordered, IsOrderOfSome, IsOrderWithout}
use Rattle.mt_order_laws.proofs.FormedFacts.{couple_within, no_single, single_in_order, couple_in_order, order_of_some, well_formed_in_any_order_lem}
use Rattle.mt_order_laws.proofs.OrderFacts.{orders_are_orders_lem}
use Rattle.mt_order_laws.proofs.OrderLists.{place_in, same_map}
use Rattle.mt_order_laws.proofs.StableFacts.{best_in_any_order_lem}
use Rattle.mt_orders.specs.Laws.{RanksInAnyOrder}

-- whether an applicant is a single doesn't depend on the order of the couples
single_same : (m : Market) → IsWellFormed m → (order : List ℕ) → IsOrderWithout m [] order → (a : ℕ) → is_single (reordered order m) a ≡ is_single m a
single_same m wf order o a = by_kind (agent_of m a) refl
  where
    some : IsOrderOfSome m order
    some = order_of_some m [] order o

    by_kind : (g : Agent) → agent_of m a ≡ g → is_single (reordered order m) a ≡ is_single m a
    by_kind (Single b) e =
        ap is_single_agent (single_in_order m wf order some a (λ c on there. no_single b c (sym e ∙ there))) ∙ sym (ap is_single_agent e)
    by_kind (Couple c) e =
        let l : c < length m.couples = (let w = couple_within m.couples 0 a c e in omega (arith, w.1)) in
        let on : has order c ≡ true = o.of_others c ∙ and_from (nat_lt c (length m.couples)) true (lt-ltb c (length m.couples) l) refl in
        let w = place_in order c on in
        ap is_single_agent (couple_in_order m wf order some a w.0 w.1 (e ∙ ap Couple (sym w.2))) ∙ sym (ap is_single_agent e)

pub ranks_in_any_order_lem : RanksInAnyOrder
ranks_in_any_order_lem m order wf o =
    ap (λ (flags : List Bool). record (ranked_of m) { singles = flags })
    (same_map (is_single (reordered order m)) (is_single m) (below (applicants m)) (λ a on. single_same m wf order o a))

-- an order with a number is one of all couples
pub numbered_is_order : (m : Market) (number n : ℕ) (xs : List ℕ) → xs ≡ order_of number n → n ≡ length m.couples → IsOrderWithout m [] xs
numbered_is_order m number n xs is many = subst (IsOrderWithout m []) (sym (is ∙ ap (order_of number) many)) (orders_are_orders_lem m number)

-- the best match of the singles fits, in any order of some couples too
pub best_fits : (m : Market) → IsWellFormed m → (order : List ℕ) → IsOrderOfSome m order → (best : Places) → IsBest m best → fits (reordered order m) best ≡ true
best_fits m wf order o best is =
    singles_fit (reordered order m) (well_formed_in_any_order_lem m order wf o) best (best_in_any_order_lem m order best is).is_stable

-- the order of registration is the market's own
pub first_is_own : (m : Market) → in_order 1 m ≡ m
first_is_own m =
    let none : Partners = record { first = 0; second = 0; pairs = [] } in
    let long = length-map_below (couple_of m) (length m.couples) in
    ap (λ (cs : List Partners). record m { couples = cs })
    (ext_get_or none (map (couple_of m) (below (length m.couples))) m.couples long
    (λ k l. let here : k < length m.couples = omega (arith, long) in map_below_at (couple_of m) (length m.couples) k none here))
