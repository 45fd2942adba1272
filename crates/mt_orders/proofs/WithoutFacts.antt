-- How couples are set aside one by one: the others become fewer, and in the end their rounds end.
use Rattle.std.proofs.Common.{◌≡◌, ◌≢◌, ℕ, zero, suc, ◌<◌, Bool, true, false, not, ◌||◌, ◌==◌, inl, inr, if◌then◌else◌, List, [], ◌∷◌, ◌++◌, filter, length, get_or, Option, Some, None, refl, ap, sym, ◌∙◌, arith, subst, eq-eqb, ne_eqb, option_and_then}
use Rattle.std.specs.List.{remove}
use Rattle.std.specs.Option.{option_map_or}
use Rattle.std.proofs.lemmas.Bool.{and_parts, cases_Bool, cases_eq, both_ways, false_from_ne_true, not-true, or_left, or_right}
use Rattle.std.proofs.lemmas.List.{get_or_default, length-map}
use Rattle.std.proofs.lemmas.List.Folds.{list_any-append}
use Rattle.mt_terms.specs.Best.{IsBest}
use Rattle.mt_terms.specs.Lists.{has, below, is_distinct}
use Rattle.mt_terms.specs.Market.{Market, couple_of}
use Rattle.mt_terms.specs.Matching.{Places}
use Rattle.mt_terms.specs.Rounds.{after_entries, after_rounds, stage}
use Rattle.mt_terms.specs.Stability.{stable}
use Rattle.mt_terms.specs.WellFormed.{IsWellFormed}
use Rattle.mt_terms.specs.declared.numbers.Agent.TheVariants.{Couple}
use Rattle.mt_terms.proofs.ListFacts.{head_differs, tail_distinct}
use Rattle.mt_terms.specs.Places.{ArePlaces}
use Rattle.mt_round_laws.proofs.PlacesFacts.{fits_are_places}
use Rattle.mt_round_laws.proofs.RoundsStage.{stage_end, stage_fits_lem, stage_is_stable_lem}
use Rattle.mt_order_laws.specs.Aside.{entering_of, entering_at_end, market_of_others, aside_after, aside_in_turn}
use Rattle.mt_order_laws.specs.Reordered.{reordered, set_aside, others, IsOrderOfSome}
use Rattle.mt_order_laws.proofs.EndFacts.{entering_in_words_lem}
use Rattle.mt_order_laws.proofs.FormedFacts.{order_of_some, others_are_order_lem, well_formed_in_any_order_lem}
use Rattle.mt_order_laws.proofs.OrderLists.{length_below}
use Rattle.mt_order_laws.proofs.StableFacts.{best_in_any_order_lem, stable_in_any_order_lem}
use Rattle.mt_orders.proofs.MarketFacts.{best_fits}

-- the others are an order of some couples
pub others_some : (m : Market) (aside xs : List ℕ) → xs ≡ others aside m → IsOrderOfSome m xs
others_some m aside xs is = subst (IsOrderOfSome m) (sym is) (order_of_some m aside (others aside m) (others_are_order_lem m aside))

-- if the rounds end, no couple is entering
entered_all : (m : Market) (ks : List ℕ) (left : ℕ) (places : Places) (r : Places × ℕ) → after_entries m ks left places ≡ Some r → entering_of m ks left places ≡ None
entered_all m [] left places r e = refl
entered_all m (k ∷ ks) left places r e = by_end (after_rounds m k left places (Couple k ∷ [])) (λ q. entered_all m ks q.1 q.0 r) e
  where
    by_end : (o : Option (Places × ℕ)) → ((q : Places × ℕ) → after_entries m ks q.1 q.0 ≡ Some r → entering_of m ks q.1 q.0 ≡ None)
        → option_and_then (λ q. after_entries m ks q.1 q.0) o ≡ Some r → option_map_or (λ q. entering_of m ks q.1 q.0) o (Some k) ≡ None
    by_end None rest e = absurd (let no : ◌≡◌ {A = Option (Places × ℕ)} None (Some r) = e in cc)
    by_end (Some q) rest e = rest q e

pub none_entering : (m : Market) (best : Places) (budget : ℕ) (r : Places × ℕ) → stage m best budget ≡ Some r → entering_at_end m best budget ≡ None
none_entering m best budget r e = let q = stage_end m best budget r e in entered_all m (below (length m.couples)) budget best q.0 q.1

-- a filter by one couple more is a filter of the filter
filter_more : (p q : ℕ → Bool) (x : ℕ) (xs : List ℕ) → ((c : ℕ) → q c ≡ (if x == c then false else p c)) → filter q xs ≡ filter (λ c. not (x == c)) (filter p xs)
filter_more p q x [] h = refl
filter_more p q x (y ∷ ys) h = elim (cases_Bool (x == y)) [
  | inl same ↦
      let out : q y ≡ false = h y ∙ rw same refl in
      elim (cases_Bool (p y)) [ inl kept ↦ rw (out, kept, same) (filter_more p q x ys h) | inr dropped ↦ rw (out, dropped) (filter_more p q x ys h) ]
  | inr other ↦
      let alike : q y ≡ p y = h y ∙ rw other refl in
      elim (cases_Bool (p y)) [
        | inl kept ↦ rw (alike, kept, other) (ap (λ zs. y ∷ zs) (filter_more p q x ys h))
        | inr dropped ↦ rw (alike, dropped) (filter_more p q x ys h)
      ]
]

-- what a list doesn't have is filtered out of it in vain
filter_absent : (x : ℕ) (xs : List ℕ) → has xs x ≡ false → filter (λ c. not (x == c)) xs ≡ xs
filter_absent x [] h = refl
filter_absent x (y ∷ ys) h = elim (cases_eq x y) [
  | inl same ↦ absurd (both_ways (has (y ∷ ys) x) h (or_left (y == x) (has ys x) (eq-eqb y x (sym same))))
  | inr other ↦
      let no : (x == y) ≡ false = ne_eqb x y other in
      let rest : has ys x ≡ false = false_from_ne_true (has ys x) (λ on. both_ways (has (y ∷ ys) x) h (or_right (y == x) (has ys x) on)) in
      rw no (ap (λ zs. y ∷ zs) (filter_absent x ys rest))
]

-- one number of a list without repeats is filtered out if it is removed
filter_one : (xs : List ℕ) (k : ℕ) → is_distinct xs ≡ true → k < length xs → filter (λ c. not (get_or xs k 0 == c)) xs ≡ remove xs k
filter_one [] k d l = absurd (omega arith)
filter_one (x ∷ xs) zero d l =
    let yes : (x == x) ≡ true = eq-eqb x x refl in
    let out : has xs x ≡ false = not-true (has xs x) (and_parts (not (has xs x)) (is_distinct xs) d).0 in
    rw yes (filter_absent x xs out)
filter_one (x ∷ xs) (suc k) d l =
    let low : k < length xs = omega arith in
    let apart : get_or xs k 0 ≢ x = λ e. head_differs x xs k d low (sym e) in
    let no : (get_or xs k 0 == x) ≡ false = ne_eqb (get_or xs k 0) x apart in
    rw no (ap (λ zs. x ∷ zs) (filter_one xs k (tail_distinct x xs d) low))

-- the others once one of them is set aside
pub others_less : (m : Market) (aside : List ℕ) (k : ℕ) → k < length (others aside m) → others (aside ++ get_or (others aside m) k 0 ∷ []) m ≡ remove (others aside m) k
others_less m aside k l =
    let x = get_or (others aside m) k 0 in
    let o = others_are_order_lem m aside in
    filter_more (λ c. not (has aside c)) (λ c. not (has (aside ++ x ∷ []) c)) x (below (length m.couples))
    (λ c. ap not (list_any-append (λ z. z == c) aside (x ∷ [])) ∙ split (has aside c) (x == c))
    ∙ filter_one (others aside m) k o.distinct l
  where
    split : (a b : Bool) → not (a || (b || false)) ≡ (if b then false else not a)
    split true true = refl
    split true false = refl
    split false true = refl
    split false false = refl

-- The couple at a place of the others is set aside: as many turns are left as there are others.
pub turn : (m : Market) (best : Places) (budget k x : ℕ) (aside before after : List ℕ) → before ≡ others aside m → entering_at_end (reordered before m) best budget ≡ Some k
    → k < length before → x ≡ get_or before k x → after ≡ remove before k
    → (after ≡ others (aside ++ x ∷ []) m)
    × (aside_after m best budget (length after) (aside ++ x ∷ []) ≡ aside_after m best budget (length before) aside)
turn m best budget k x aside before after is entering l at less =
    let at_zero : x ≡ get_or before k 0 = at ∙ get_or_default before k x 0 l in
    let there : x ≡ get_or (others aside m) k 0 = at_zero ∙ ap (λ xs. get_or xs k 0) is in
    let low : k < length (others aside m) = omega (arith, ap length is) in
    let next : after ≡ others (aside ++ x ∷ []) m =
    less ∙ ap (λ xs. remove xs k) is ∙ sym (others_less m aside k low) ∙ ap (λ y. others (aside ++ y ∷ []) m) (sym there) in
    let fewer : length before ≡ suc (length after) = omega (arith, ap length less, length_remove before k l) in
    let here : entering_at_end (market_of_others aside m) best budget ≡ Some k = ap (λ xs. entering_at_end (reordered xs m) best budget) (sym is) ∙ entering in (
      next,
      sym (ap (λ n. aside_after m best budget n aside) fewer
          ∙ ap (λ o. option_map_or (λ j. aside_after m best budget (length after) (aside ++ get_or (others aside m) j 0 ∷ [])) o aside) here
          ∙ ap (λ y. aside_after m best budget (length after) (aside ++ y ∷ [])) (sym there)),
    )
  where
    length_remove : (xs : List ℕ) (i : ℕ) → i < length xs → suc (length (remove xs i)) ≡ length xs
    length_remove [] i h = absurd (omega arith)
    length_remove (y ∷ ys) zero h = refl
    length_remove (y ∷ ys) (suc i) h = ap suc (length_remove ys i (omega arith))

-- the couple that is entering is one of those that enter
pub entering_within : (m : Market) (best : Places) (budget k : ℕ) (order : List ℕ) → entering_at_end (reordered order m) best budget ≡ Some k → k < length order
entering_within m best budget k order e =
    let w = (entering_in_words_lem (reordered order m) best budget k).0 e in
    omega (arith, w.0, length-map order (couple_of m))

-- no more turns are taken once the rounds of the others end
pub turns_end : (m : Market) (best : Places) (budget n : ℕ) (aside order : List ℕ) (r : Places × ℕ) → order ≡ others aside m → stage (reordered order m) best budget ≡ Some r
    → aside_after m best budget n aside ≡ aside
turns_end m best budget zero aside order r is e = refl
turns_end m best budget (suc n) aside order r is e =
    let none = none_entering (market_of_others aside m) best budget r (ap (λ xs. stage (reordered xs m) best budget) (sym is) ∙ e) in
    ap (λ o. option_map_or (λ j. aside_after m best budget n (aside ++ get_or (others aside m) j 0 ∷ [])) o aside) none

-- at first all couples are the others
pub all_are_others : (m : Market) (n : ℕ) (xs : List ℕ) → xs ≡ below n → n ≡ length m.couples → xs ≡ others [] m
all_are_others m n xs is many = is ∙ ap below many ∙ sym (kept (below (length m.couples)))
  where
    kept : (ys : List ℕ) → filter (λ c. not (has [] c)) ys ≡ ys
    kept [] = refl
    kept (y ∷ ys) = ap (λ zs. y ∷ zs) (kept ys)

pub all_turns : (m : Market) (best : Places) (budget n : ℕ) (xs : List ℕ) → xs ≡ below n → n ≡ length m.couples
    → aside_after m best budget (length xs) [] ≡ aside_in_turn m best budget
all_turns m best budget n xs is many = ap (λ j. aside_after m best budget j []) (ap length is ∙ length_below n ∙ many)

-- The rounds of some couples end in a match of the market, which is stable among these couples.
module _ (m : Market) (wf : IsWellFormed m) (best : Places) (is : IsBest m best) (budget : ℕ) (order : List ℕ) (o : IsOrderOfSome m order) (r : Places × ℕ)
    (e : stage (reordered order m) best budget ≡ Some r) where
  formed : IsWellFormed (reordered order m)
  formed = well_formed_in_any_order_lem m order wf o

  pub places_are : ArePlaces m r.0
  places_are =
      let h = fits_are_places (reordered order m) formed r.0 (stage_fits_lem (reordered order m) formed best (best_fits m wf order o best is) budget r e) in
      record { one_each = h.one_each; within = h.within }

  pub stable_among : stable (reordered order m) r.0 ≡ true
  stable_among = stage_is_stable_lem (reordered order m) formed best (best_in_any_order_lem m order best is) budget r e

-- a match that is stable among the others is stable with the couples set aside
pub stable_without : (m : Market) → IsWellFormed m → (aside order : List ℕ) (places : Places) → order ≡ others aside m → stable (reordered order m) places ≡ true
    → stable (set_aside aside m) places ≡ true
stable_without m wf aside order places is h =
    sym (stable_in_any_order_lem m aside (others aside m) wf (others_are_order_lem m aside) places) ∙ ap (λ xs. stable (reordered xs m) places) (sym is) ∙ h
