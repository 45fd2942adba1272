-- Couples set aside in an order of all are the same couples set aside in the market. So a match that is stable there is
-- stable here. Over the orders the first with the fewest is kept.
use Rattle.std.proofs.Common.{◌≡◌, ◌≢◌, ℕ, zero, suc, ◌+◌, ◌-◌, ◌<◌, ◌≤◌, Bool, true, false, not, ◌&&◌, ◌||◌, ◌⊎◌, ◌++◌, ◌==◌, nat_lt, inl, inr, if◌then◌else◌, List, [], ◌∷◌, map, length, get_or, Some, Result, Ok, Err, IfOk, Vec, Global, MatchResult, refl, ap, ap₂, sym, ◌∙◌, arith, subst, eq-eqb, eqb-true, ltb-false, ltb-true, ne_eqb}
use Rattle.std.specs.Prelude.{Contains}
use Rattle.std.specs.declared.alloc.AllocError.{AllocError}
use Rattle.std.specs.List.{range_with_len, AllZip}
use Rattle.std.proofs.lemmas.Bool.{and_from, and_parts, cases_Bool, cases_eq, cases_lt, not-true, not_from_false, or_cases, or_left, or_right}
use Rattle.std.proofs.lemmas.List.FromFn.{get_or-range_with_len}
use Rattle.std.proofs.lemmas.List.{ext_get_or, length-map, get_or-map, get_or_default}
use Rattle.rayon.specs.Numbers.{nat_range}
use Rattle.mt_terms.specs.Best.{IsBest}
use Rattle.mt_terms.specs.Lists.{has, below, is_distinct}
use Rattle.mt_terms.specs.Market.{Market, Partners, couple_of}
use Rattle.mt_terms.specs.Matching.{Places}
use Rattle.mt_terms.specs.Places.{ArePlaces}
use Rattle.mt_terms.specs.Rounds.{stage}
use Rattle.mt_terms.specs.Stability.{stable}
use Rattle.mt_terms.specs.WellFormed.{IsWellFormed}
use Rattle.mt_terms.proofs.BelowFacts.{length-map_below, map_below_at}
use Rattle.mt_terms.proofs.ListFacts.{has_item, same_position}
use Rattle.mt_order_laws.specs.Aside.{aside_in_turn, market_of_others}
use Rattle.mt_order_laws.specs.Orders.{in_order, order_of}
use Rattle.mt_order_laws.specs.Reordered.{reordered, set_aside, others, unless_aside, IsOrderOfSome, IsOrderWithout}
use Rattle.mt_order_laws.proofs.FormedFacts.{couple_aside, couple_at, couples_aside, no_couple, none_aside_lem, order_of_some, others_are_order_lem, well_formed_aside_lem, well_formed_in_any_order_lem}
use Rattle.mt_order_laws.proofs.OrderFacts.{orders_are_orders_lem}
use Rattle.mt_order_laws.proofs.StableFacts.{best_in_any_order_lem, stable_in_any_order_lem}
use Rattle.mt_orders.specs.declared.fewest.AsideTrial.{AsideTrial}
use Rattle.mt_orders.specs.declared.without.Aside.{Aside}
use Rattle.mt_orders.specs.Fewest.{aside_in_order, fewer, fewest_of, fewest_order, others_in_order, IsAsideInOrder}
use Rattle.mt_orders.proofs.AsideCouples.{aside_are_couples_lem}
use Rattle.mt_orders.proofs.MarketFacts.{first_is_own}
use Rattle.mt_orders.specs.Laws.{FewestInWords, OneOrderAside}
use Rattle.mt_orders.proofs.WithoutFacts.{places_are, stable_among, stable_without}

-- ---- the same couples set aside

-- a number of an order is one of those at some places if its place is one of these
has_image : (order places : List ℕ) (k : ℕ) → is_distinct order ≡ true → k < length order → ((c : ℕ) → has places c ≡ true → c < length order)
    → has (map (λ c. get_or order c 0) places) (get_or order k 0) ≡ has places k
has_image order [] k d l within = refl
has_image order (x ∷ xs) k d l within =
    let low : x < length order = within x (or_left (x == x) (has xs x) (eq-eqb x x refl)) in
    let rest = has_image order xs k d l (λ c on. within c (or_right (x == c) (has xs c) on)) in
    ap₂ ◌||◌ (same low (cases_eq x k)) rest
  where
    same : x < length order → (x ≡ k) ⊎ (x ≢ k) → (get_or order x 0 == get_or order k 0) ≡ (x == k)
    same low (inl e) = eq-eqb _ _ (ap (λ c. get_or order c 0) e) ∙ sym (eq-eqb x k e)
    same low (inr n) = ne_eqb (get_or order x 0) (get_or order k 0) (λ e. n (same_position order x k d low l e)) ∙ sym (ne_eqb x k n)

-- couples set aside in an order of all are set aside in the market
aside_moves : (m : Market) (order aside : List ℕ) → IsOrderWithout m [] order → IsOrderOfSome (reordered order m) aside
    → set_aside aside (reordered order m) ≡ reordered order (set_aside (map (λ c. get_or order c 0) aside) m)
aside_moves m order aside o a = ap (λ (cs : List Partners). record m { couples = cs }) (ext_get_or no_couple ours theirs long at)
  where
    named : List ℕ
    named = map (λ c. get_or order c 0) aside

    many : length (map (couple_of m) order) ≡ length order
    many = length-map order (couple_of m)

    ours : List Partners
    ours = map (unless_aside aside (reordered order m)) (below (length (map (couple_of m) order)))

    theirs : List Partners
    theirs = map (couple_of (set_aside named m)) order

    short : length ours ≡ length (map (couple_of m) order)
    short = length-map_below (unless_aside aside (reordered order m)) (length (map (couple_of m) order))

    long : length ours ≡ length theirs
    long = short ∙ many ∙ sym (length-map order (couple_of (set_aside named m)))

    at : (k : ℕ) → k < length ours → get_or ours k no_couple ≡ get_or theirs k no_couple
    at k l =
        let here : k < length (map (couple_of m) order) = omega (arith, l, short) in
        let low : k < length order = omega (arith, here, many) in
        let c = get_or order k 0 in
        let inside : c < length m.couples = (order_of_some m [] order o).within c (has_item order k low) in
        let is : has named c ≡ has aside k = has_image order aside k o.distinct low (λ j on. omega (arith, a.within j on, many)) in
        map_below_at (unless_aside aside (reordered order m)) (length (map (couple_of m) order)) k no_couple here
        ∙ ap₂ (λ (b : Bool) (x : Partners). if b then record x { pairs = [] } else x) (sym is) (couple_at m order k low)
        ∙ sym (get_or-map (couple_of (set_aside named m)) order k 0 no_couple low ∙ couple_aside m named c inside)

-- what is stable in an order of all couples with some set aside is stable with the same couples set aside
stable_with : (m : Market) → IsWellFormed m → (order aside : List ℕ) → IsOrderWithout m [] order → IsOrderOfSome (reordered order m) aside → (places : Places)
    → stable (set_aside aside (reordered order m)) places ≡ true → stable (set_aside (map (λ c. get_or order c 0) aside) m) places ≡ true
stable_with m wf order aside o a places held =
    let named = map (λ c. get_or order c 0) aside in
    let less = set_aside named m in
    let whole : IsOrderWithout less [] order = record {
      distinct = o.distinct;
      of_others = λ c. o.of_others c ∙ ap (λ n. nat_lt c n && not (has [] c)) (sym (couples_aside m named));
    } in
    ap (λ (x : Market). stable x places) (sym (none_aside_lem less)) ∙ sym (stable_in_any_order_lem less [] order (well_formed_aside_lem m named wf) whole places)
    ∙ ap (λ (x : Market). stable x places) (sym (aside_moves m order aside o a)) ∙ held

-- ---- in the order with a number

module _ (m : Market) (wf : IsWellFormed m) (best : Places) (is : IsBest m best) (budget number : ℕ) (s : Places × ℕ)
    (ends : stage (others_in_order number m best budget) best budget ≡ Some s) where
  abbrev order : List ℕ
  order = order_of number (length m.couples)

  all : IsOrderWithout m [] order
  all = orders_are_orders_lem m number

  abbrev ordered : Market
  ordered = in_order number m

  formed : IsWellFormed ordered
  formed = well_formed_in_any_order_lem m order wf (order_of_some m [] order all)

  abbrev aside : List ℕ
  aside = aside_in_turn ordered best budget

  some : IsOrderOfSome ordered (others aside ordered)
  some = order_of_some ordered aside (others aside ordered) (others_are_order_lem ordered aside)

  still_best : IsBest ordered best
  still_best = best_in_any_order_lem m order best is

  pub places_in_order : ArePlaces m s.0
  places_in_order =
      let p = places_are ordered formed best still_best budget (others aside ordered) some s ends in
      record { one_each = p.one_each; within = p.within }

  pub stable_in_order : stable (set_aside (aside_in_order number m best budget) m) s.0 ≡ true
  stable_in_order =
      let among = stable_among ordered formed best still_best budget (others aside ordered) some s ends in
      let held = stable_without ordered formed aside (others aside ordered) s.0 refl among in
      stable_with m wf order aside all (aside_are_couples_lem ordered best budget) s.0 held

  -- the same of the couples and the match of a try
  pub found_is_stable : (a : Aside) → a.couples.items ≡ aside_in_order number m best budget → a.matched.places ≡ s.0 → stable (set_aside a.couples.items m) a.matched.places ≡ true
  found_is_stable a same places = ap₂ (λ (cs : List ℕ) (p : Places). stable (set_aside cs m) p) same places ∙ stable_in_order

-- the couples that are set aside in a market in an order are places of the order
pub places_within : (m : Market) (best : Places) (budget : ℕ) (order places : List ℕ) (ordered : Market) → ordered ≡ reordered order m → places ≡ aside_in_turn ordered best budget
    → (k d : ℕ) → k < length places → get_or places k d < length order
places_within m best budget order places ordered is aside k d l =
    let same : places ≡ aside_in_turn (reordered order m) best budget = aside ∙ ap (λ (x : Market). aside_in_turn x best budget) is in
    let are : IsOrderOfSome (reordered order m) places = subst (IsOrderOfSome (reordered order m)) (sym same) (aside_are_couples_lem (reordered order m) best budget) in
    let inside = are.within (get_or places k d) (subst (λ (c : ℕ). has places c ≡ true) (sym (get_or_default places k d 0 l)) (has_item places k l)) in
    omega (arith, inside, length-map order (couple_of m))

-- ---- the fewest

module _ (m : Market) (best : Places) (budget : ℕ) where
  abbrev Is : ℕ → Aside → Type 0
  Is = IsAsideInOrder m best budget

  one_more : (n : ℕ) (a x : Aside) → Is (fewest_order m best budget n) a → Is (suc n) x → Is (fewest_order m best budget (suc n)) (fewer a x)
  one_more n a x h g =
      let k = fewest_order m best budget n in
      let same : nat_lt (length x.couples.items) (length a.couples.items) ≡ nat_lt (length (aside_in_order (suc n) m best budget)) (length (aside_in_order k m best budget)) =
      ap₂ (λ (xs ys : List ℕ). nat_lt (length xs) (length ys)) g.couples h.couples in
      subst (λ (b : Bool). Is (if b then suc n else k) (fewer a x)) same (pick k (nat_lt (length x.couples.items) (length a.couples.items)) h)
    where
      pick : (k : ℕ) (b : Bool) → Is k a → Is (if b then suc n else k) (if b then x else a)
      pick k true e = g
      pick k false e = e

  some_more : (n start : ℕ) (a : Aside) (count : ℕ) (xs : List Aside) → start ≡ suc n → Is (fewest_order m best budget n) a → AllZip Is (range_with_len start count) xs
      → Is (fewest_order m best budget (n + count)) (fewest_of a xs)
  some_more n start a zero [] at h each = let none : n ≡ n + 0 = omega arith in subst (λ (i : ℕ). Is (fewest_order m best budget i) a) none h
  some_more n start a zero (x ∷ xs) at h each = absurd each
  some_more n start a (suc count) [] at h each = absurd each
  some_more n start a (suc count) (x ∷ xs) at h each =
      let all : suc n + count ≡ n + suc count = omega arith in
      let here : Is (suc n) x = subst (λ (i : ℕ). Is i x) at each.0 in
      subst (λ (i : ℕ). Is (fewest_order m best budget i) (fewest_of a (x ∷ xs))) all
      (some_more (suc n) (start + 1) (fewer a x) count xs (omega arith) (one_more n a x h here) each.1)

  -- once some more orders are tried
  pub fewest_after : (from count : ℕ) (a b : Aside) (xs : List Aside) → 1 ≤ from → Is (fewest_order m best budget (from - 1)) a → AllZip Is (range_with_len from count) xs
      → b ≡ fewest_of a xs → Is (fewest_order m best budget (from + count - 1)) b
  fewest_after from count a b xs low h each is =
      let first : from ≡ suc (from - 1) = omega arith in
      let last : from - 1 + count ≡ from + count - 1 = omega arith in
      subst (Is (fewest_order m best budget (from + count - 1))) (sym is)
      (subst (λ (i : ℕ). Is (fewest_order m best budget i) (fewest_of a xs)) last
      (some_more (from - 1) from a count xs first h each))

  -- of the order of registration alone it is this one
  pub first_is_fewest : (n : ℕ) (a : Aside) → n ≡ 1 → Is 1 a → Is (fewest_order m best budget n) a
  first_is_fewest n a one h = subst (λ (i : ℕ). Is (fewest_order m best budget i) a) (sym one) (by (nat_lt (length (aside_in_order 1 m best budget)) (length (aside_in_order 1 m best budget))))
    where
      by : (b : Bool) → Is (if b then 1 else 1) a
      by true = h
      by false = h

  each_ok : (numbers : List ℕ) (found : List Aside) → AllZip (λ k (r : Result Aside AllocError). IfOk r (Is k)) numbers (map Ok found) → AllZip Is numbers found
  each_ok [] [] each = each
  each_ok [] (x ∷ found) each = absurd each
  each_ok (k ∷ ks) [] each = absurd each
  each_ok (k ∷ ks) (x ∷ found) each = (each.0, each_ok ks found each.1)

  -- what threads give
  by_threads : (start end from count : ℕ) (numbers : List ℕ) (made : List (Result Aside AllocError)) (r : Result (Vec Aside Global) AllocError)
      → start ≡ from → end ≡ from + count → numbers ≡ nat_range start end
      → AllZip (λ k (r : Result Aside AllocError). IfOk r (Is k)) numbers made
      → MatchResult r (λ v. (vs : List Aside) × (made ≡ map Ok vs) × (v.items ≡ vs)) (λ e. Contains made (Err e))
      → IfOk r (λ v. AllZip Is (range_with_len from count) v.items)
  by_threads start end from count numbers made (Err e) low high are each is = tt
  by_threads start end from count numbers made (Ok v) low high are each is =
      let short : end - start ≡ count = omega arith in
      let range : numbers ≡ range_with_len from count = are ∙ ap (λ a. range_with_len a (end - start)) low ∙ ap (range_with_len from) short in
      let all : made ≡ map Ok v.items = is.1 ∙ ap (map Ok) (sym is.2) in
      subst (λ ns. AllZip Is ns v.items) range
      (each_ok numbers v.items (subst (λ rs. AllZip (λ k (r : Result Aside AllocError). IfOk r (Is k)) numbers rs) all each))

-- what threads give in a try, by what their closure has of it
pub asides_of_trial : (t t' : AsideTrial) → t ≡ t' → (start end from count : ℕ) (numbers : List ℕ) (made : List (Result Aside AllocError))
    (r : Result (Vec Aside Global) AllocError) → start ≡ from → end ≡ from + count → numbers ≡ nat_range start end
    → AllZip (λ k (r : Result Aside AllocError). IfOk r (IsAsideInOrder t.roster.now.market t.singles.now.places t.budget k)) numbers made
    → MatchResult r (λ v. (vs : List Aside) × (made ≡ map Ok vs) × (v.items ≡ vs)) (λ e. Contains made (Err e))
    → IfOk r (λ v. AllZip (IsAsideInOrder t'.roster.now.market t'.singles.now.places t'.budget) (range_with_len from count) v.items)
asides_of_trial t t' same start end from count numbers made r low high are each is =
    subst (λ (u : AsideTrial). IfOk r (λ v. AllZip (IsAsideInOrder u.roster.now.market u.singles.now.places u.budget) (range_with_len from count) v.items)) same
    (by_threads t.roster.now.market t.singles.now.places t.budget start end from count numbers made r low high are each is)

-- ---- a list

-- the fewest of one more
pub fewest_more : (a : Aside) (xs : List Aside) (x : Aside) → fewest_of a (xs ++ x ∷ []) ≡ fewer (fewest_of a xs) x
fewest_more a [] x = refl
fewest_more a (y ∷ ys) x = fewest_more (fewer a y) ys x

-- what holds of a result holds of what it implies
pub if_ok : {X : Type 0} (r : Result X AllocError) {P Q : X → Type 0} → IfOk r P → ((x : X) → P x → Q x) → IfOk r Q
if_ok (Err e) h so = tt
if_ok (Ok x) h so = so x h

-- ---- in words

module _ (m : Market) (best : Places) (budget : ℕ) where
  -- how many couples are set aside in the order with a number
  abbrev many : ℕ → ℕ
  many j = length (aside_in_order j m best budget)

  -- of the orders up to n it is the first with the fewest
  abbrev IsFewest : ℕ → ℕ → Type 0
  IsFewest n k = (1 ≤ k) × ((k ≤ n) ⊎ (k ≡ 1)) × ((j : ℕ) → 1 ≤ j → j ≤ n → many k ≤ many j) × ((j : ℕ) → 1 ≤ j → j < k → many k < many j)

  next_fewest : (n k : ℕ) → IsFewest n k → IsFewest (suc n) (if nat_lt (many (suc n)) (many k) then suc n else k)
  next_fewest n k h = elim (cases_Bool (nat_lt (many (suc n)) (many k))) [
    | inl is ↦
        let less : many (suc n) < many k = ltb-true (many (suc n)) (many k) is in
        rw is (
          omega arith,
          inl (omega arith),
          λ j from to. elim (cases_lt j (suc n)) [
            | inl before ↦ (let more = h.2 j from (omega arith) in omega (arith, less, more))
            | inr here ↦ (let same : suc n ≡ j = omega arith in subst (λ (i : ℕ). many (suc n) ≤ many i) same (omega arith))
          ],
          λ j from to. (let more = h.2 j from (omega arith) in omega (arith, less, more)),
        )
    | inr isnt ↦
        let least : many k ≤ many (suc n) = ltb-false (many (suc n)) (many k) isnt in
        rw isnt (
          h.0,
          elim h.1 [ inl within ↦ inl (omega arith) | inr one ↦ inr one ],
          λ j from to. elim (cases_lt j (suc n)) [
            | inl before ↦ h.2 j from (omega arith)
            | inr here ↦ (let same : suc n ≡ j = omega arith in subst (λ (i : ℕ). many k ≤ many i) same least)
          ],
          h.3,
        )
  ]

  is_fewest : (n : ℕ) → IsFewest n (fewest_order m best budget n)
  is_fewest zero = (omega arith, inr refl, λ j from to. absurd (omega arith), λ j from to. absurd (omega arith))
  is_fewest (suc n) = next_fewest n (fewest_order m best budget n) (is_fewest n)

  one_fewest : (n j k : ℕ) → IsFewest n j → j ≤ n → IsFewest n k → k ≤ n → j ≡ k
  one_fewest n j k g to h within = elim (cases_lt j k) [
    | inl less ↦ (let fewer_k = h.3 j g.0 less in let least = g.2 k h.0 within in absurd (omega (arith, fewer_k, least)))
    | inr more ↦ elim (cases_lt k j) [
      | inl less ↦ (let fewer_j = g.3 k h.0 less in let least = h.2 j g.0 to in absurd (omega (arith, fewer_j, least)))
      | inr same ↦ omega arith
    ]
  ]

pub fewest_in_words_lem : FewestInWords
fewest_in_words_lem m best budget orders k one = (
  (λ e.
      let h = is_fewest m best budget orders in
      let within : fewest_order m best budget orders ≤ orders = elim h.1 [ inl to ↦ to | inr first ↦ omega arith ] in
      subst (λ (i : ℕ). (1 ≤ i) × (i ≤ orders) × ((j : ℕ) → 1 ≤ j → j ≤ orders → many m best budget i ≤ many m best budget j) × ((j : ℕ) → 1 ≤ j → j < i → many m best budget i < many m best budget j))
      e (h.0, within, h.2, h.3)),
  (λ h.
      let g = is_fewest m best budget orders in
      let within : fewest_order m best budget orders ≤ orders = elim g.1 [ inl to ↦ to | inr first ↦ omega arith ] in
      one_fewest m best budget orders (fewest_order m best budget orders) k g within (h.0, inl h.1, h.2, h.3) h.1),
)

-- ---- in one order

-- in the order of registration each number is its own place
own_numbers : (n : ℕ) (xs : List ℕ) → ((c : ℕ) → has xs c ≡ true → c < n) → map (λ c. get_or (below n) c 0) xs ≡ xs
own_numbers n [] within = refl
own_numbers n (x ∷ xs) within =
    let start : 0 + x ≡ x = omega arith in
    ap₂ ◌∷◌ (get_or-range_with_len 0 n x 0 (within x (or_left (x == x) (has xs x) (eq-eqb x x refl))) ∙ start)
    (own_numbers n xs (λ c on. within c (or_right (x == c) (has xs c) on)))

pub one_order_aside_lem : OneOrderAside
one_order_aside_lem m best budget = (
  ap (λ (x : Market). map (λ c. get_or (below (length m.couples)) c 0) (aside_in_turn x best budget)) (first_is_own m)
      ∙ own_numbers (length m.couples) (aside_in_turn m best budget) (IsOrderOfSome.within (aside_are_couples_lem m best budget)),
  ap (λ (x : Market). market_of_others (aside_in_turn x best budget) x) (first_is_own m),
)

-- the couples that are set aside in an order are couples of the market, each once
pub aside_in_order_are_couples : (m : Market) (best : Places) (budget number : ℕ) → IsOrderOfSome m (aside_in_order number m best budget)
aside_in_order_are_couples m best budget number =
    named (order_of_some m [] order (orders_are_orders_lem m number)) (aside_in_turn (in_order number m) best budget)
    (λ c on. (let inside = are.within c on in omega (arith, inside, length-map order (couple_of m)))) are.distinct
  where
    order : List ℕ
    order = order_of number (length m.couples)

    are : IsOrderOfSome (in_order number m) (aside_in_turn (in_order number m) best budget)
    are = aside_are_couples_lem (in_order number m) best budget

    named : {os : List ℕ} → IsOrderOfSome m os → (places : List ℕ) → ((c : ℕ) → has places c ≡ true → c < length os) → is_distinct places ≡ true
        → IsOrderOfSome m (map (λ c. get_or os c 0) places)
    named o [] within d = record { distinct = refl; within = λ c h. cc }
    named {os} o (x ∷ xs) within d =
        let parts = and_parts (not (has xs x)) (is_distinct xs) d in
        let low : x < length os = within x (or_left (x == x) (has xs x) (eq-eqb x x refl)) in
        let rest = named o xs (λ c on. within c (or_right (x == c) (has xs c) on)) parts.1 in
        let out = has_image os xs x o.distinct low (λ c on. within c (or_right (x == c) (has xs c) on)) ∙ not-true (has xs x) parts.0 in
        record {
          distinct = and_from (not (has (map (λ c. get_or os c 0) xs) (get_or os x 0))) (is_distinct (map (λ c. get_or os c 0) xs)) (not_from_false _ out) rest.distinct;
          within = λ c h. elim (or_cases (get_or os x 0 == c) (has (map (λ c. get_or os c 0) xs) c) h) [
            | inl same ↦ subst (λ (i : ℕ). i < length m.couples) (eqb-true (get_or os x 0) c same) (o.within (get_or os x 0) (has_item os x low))
            | inr later ↦ rest.within c later
          ];
        }
