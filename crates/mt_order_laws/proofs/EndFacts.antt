-- Setting aside ends: while the others' rounds don't end, one of them is set aside, so they become fewer. The rounds of no
-- couple end.
use Rattle.std.proofs.Common.{◌≡◌, ◌≢◌, ℕ, zero, suc, ◌+◌, ◌<◌, ◌≤◌, Bool, true, false, not, ◌==◌, List, [], ◌∷◌, ◌++◌, map, filter, length, get_or, Option, Some, None, inl, inr, refl, ap, sym, ◌∙◌, arith, subst, eq-eqb, eqb-true, ◌-◌, option_map, option_and_then}
use Rattle.std.specs.List.{range_with_len}
use Rattle.std.specs.Option.{option_map_or}
use Rattle.std.proofs.lemmas.Bool.{cases_Bool, or_cases, or_left, or_right, or_parts, both_ways, false≢true, false_from_ne_true, not-true, not_from_false, not_from_true}
use Rattle.std.proofs.lemmas.List.{length-map}
use Rattle.std.proofs.lemmas.List.Folds.{list_any-append}
use Rattle.mt_terms.specs.Lists.{has, below}
use Rattle.mt_terms.specs.Market.{Market, couple_of}
use Rattle.mt_terms.specs.Matching.{Places}
use Rattle.mt_terms.specs.Rounds.{after_rounds, after_entries}
use Rattle.mt_terms.specs.declared.numbers.Agent.TheVariants.{Couple}
use Rattle.mt_terms.proofs.ListFacts.{has_item}
use Rattle.mt_round_laws.proofs.RoundsLists.{of_below, has_in}
use Rattle.mt_order_laws.specs.Reordered.{reordered, others}
use Rattle.mt_order_laws.specs.Aside.{entering_of, entering_at_end, market_of_others, aside_after, aside_in_turn}
use Rattle.mt_order_laws.specs.Laws.{EnteringInWords, OthersEnd}
use Rattle.mt_order_laws.proofs.EntryFacts.{range_append}
use Rattle.mt_order_laws.proofs.OrderLists.{length_below}

-- if no couple is entering when the budget is spent, the budget isn't spent
not_spent : (m : Market) (ks : List ℕ) (left : ℕ) (places : Places) → entering_of m ks left places ≡ None → after_entries m ks left places ≢ None
not_spent m [] left places e none = let some : ◌≡◌ {A = Option (Places × ℕ)} (Some (places, left)) None = none in cc
not_spent m (k ∷ ks) left places e none = by_end (after_rounds m k left places (Couple k ∷ [])) (λ r. not_spent m ks r.1 r.0) e none
  where
    by_end : (o : Option (Places × ℕ)) → ((r : Places × ℕ) → entering_of m ks r.1 r.0 ≡ None → after_entries m ks r.1 r.0 ≡ None → ⊥)
        → option_map_or (λ r. entering_of m ks r.1 r.0) o (Some k) ≡ None → option_and_then (λ r. after_entries m ks r.1 r.0) o ≡ None → ⊥
    by_end None rest e none = let some : ◌≡◌ {A = Option ℕ} (Some k) None = e in cc
    by_end (Some r) rest e none = rest r e none

-- the couple that is entering is one of those that enter
entering_listed : (m : Market) (ks : List ℕ) (left : ℕ) (places : Places) (c : ℕ) → entering_of m ks left places ≡ Some c → has ks c ≡ true
entering_listed m [] left places c e = absurd (let none : ◌≡◌ {A = Option ℕ} None (Some c) = e in cc)
entering_listed m (k ∷ ks) left places c e = by_end (after_rounds m k left places (Couple k ∷ [])) (λ r. entering_listed m ks r.1 r.0 c) e
  where
    by_end : (o : Option (Places × ℕ)) → ((r : Places × ℕ) → entering_of m ks r.1 r.0 ≡ Some c → has ks c ≡ true)
        → option_map_or (λ r. entering_of m ks r.1 r.0) o (Some k) ≡ Some c → has (k ∷ ks) c ≡ true
    by_end None rest e =
        or_left (k == c) (has ks c) (let some : ◌≡◌ {A = Option ℕ} (Some k) (Some c) = e in let is : k ≡ c = cc in eq-eqb k c is)
    by_end (Some r) rest e = or_right (k == c) (has ks c) (rest r e)

-- a filter that keeps less keeps no more
no_more_kept : (p q : ℕ → Bool) (xs : List ℕ) → ((c : ℕ) → q c ≡ true → p c ≡ true) → length (filter q xs) ≤ length (filter p xs)
no_more_kept p q [] h = omega arith
no_more_kept p q (x ∷ xs) h =
    let rest = no_more_kept p q xs h in
    elim (cases_Bool (q x)) [
      | inl kept ↦ rw (kept, h x kept) (omega arith)
      | inr out ↦ elim (cases_Bool (p x)) [ inl kept ↦ rw (out, kept) (omega arith) | inr both ↦ rw (out, both) rest ]
    ]

-- and fewer if it drops one that the other keeps
fewer_kept : (p q : ℕ → Bool) (xs : List ℕ) → ((c : ℕ) → q c ≡ true → p c ≡ true) → (x : ℕ) → has (filter p xs) x ≡ true → q x ≡ false
    → length (filter q xs) < length (filter p xs)
fewer_kept p q [] h x on out = absurd (false≢true on)
fewer_kept p q (y ∷ ys) h x on out = elim (cases_Bool (p y)) [
  | inr dropped ↦
      let also : q y ≡ false = false_from_ne_true (q y) (λ kept. both_ways (p y) dropped (h y kept)) in
      rw (dropped, also) (fewer_kept p q ys h x (rw dropped at on) out)
  | inl kept ↦ elim (cases_Bool (q y)) [
    | inr here ↦ (let rest = no_more_kept p q ys h in rw (kept, here) (omega arith))
    | inl also ↦ elim (or_cases (y == x) (has (filter p ys) x) (rw kept at on)) [
      | inl same ↦ absurd (both_ways (q y) (subst (λ z. q z ≡ false) (sym (eqb-true y x same)) out) also)
      | inr later ↦ (let rest = fewer_kept p q ys h x later out in rw (kept, also) (omega arith))
    ]
  ]
]

-- a list with no element is empty
none_left : (xs : List ℕ) → length xs ≤ 0 → xs ≡ []
none_left [] h = refl
none_left (x ∷ xs) h = absurd (omega arith)

-- fewer couples enter once one of them is set aside
fewer_others : (m : Market) (aside : List ℕ) (i : ℕ) → i < length (others aside m)
    → length (others (aside ++ get_or (others aside m) i 0 ∷ []) m) < length (others aside m)
fewer_others m aside i l =
    let x = get_or (others aside m) i 0 in
    let on = has_item (others aside m) i l in
    fewer_kept (λ c. not (has aside c)) (λ c. not (has (aside ++ x ∷ []) c)) (below (length m.couples))
    (λ c h.
    let parts = or_parts (has aside c) (has (x ∷ []) c) (sym (list_any-append (λ z. z == c) aside (x ∷ [])) ∙ not-true (has (aside ++ x ∷ []) c) h) in
    not_from_false (has aside c) parts.0)
    x on
    (not_from_true (has (aside ++ x ∷ []) x)
    (list_any-append (λ z. z == x) aside (x ∷ []) ∙ or_right (has aside x) (has (x ∷ []) x) (or_left (x == x) false (eq-eqb x x refl))))

-- so some time the others' rounds end
aside_ends : (m : Market) (best : Places) (budget n : ℕ) (aside : List ℕ) → length (others aside m) ≤ n
    → entering_at_end (market_of_others (aside_after m best budget n aside) m) best budget ≡ None
aside_ends m best budget zero aside l = ap (λ xs. entering_at_end (reordered xs m) best budget) (none_left (others aside m) l)
aside_ends m best budget (suc n) aside l =
    by_end (entering_at_end (market_of_others aside m) best budget) refl (λ more few. aside_ends m best budget n more few)
  where
    by_end : (o : Option ℕ) → entering_at_end (market_of_others aside m) best budget ≡ o
        → ((more : List ℕ) → length (others more m) ≤ n → entering_at_end (market_of_others (aside_after m best budget n more) m) best budget ≡ None)
        → entering_at_end (market_of_others (option_map_or (λ k. aside_after m best budget n (aside ++ get_or (others aside m) k 0 ∷ [])) o aside) m) best budget ≡ None
    by_end None e rest = e
    by_end (Some k) e rest =
        let on = entering_listed (market_of_others aside m) (below (length (map (couple_of m) (others aside m)))) budget best k e in
        let low : k < length (map (couple_of m) (others aside m)) =
        of_below k (length (map (couple_of m) (others aside m))) (has_in k (below (length (map (couple_of m) (others aside m)))) on) in
        let few : k < length (others aside m) = omega (arith, length-map (others aside m) (couple_of m)) in
        let fewer = fewer_others m aside k few in
        rest (aside ++ get_or (others aside m) k 0 ∷ []) (omega arith)

-- a filter keeps no more than there is
kept_of : (p : ℕ → Bool) (xs : List ℕ) → length (filter p xs) ≤ length xs
kept_of p [] = omega arith
kept_of p (x ∷ xs) =
    let rest = kept_of p xs in
    elim (cases_Bool (p x)) [ inl kept ↦ rw kept (omega arith) | inr out ↦ rw out (omega arith) ]

pub others_end_lem : OthersEnd
others_end_lem m best budget none =
    let few = kept_of (λ c. not (has [] c)) (below (length m.couples)) in
    let all = length_below (length m.couples) in
    let ends = aside_ends m best budget (length m.couples) [] (omega arith) in
    not_spent (market_of_others (aside_in_turn m best budget) m) (below (length (map (couple_of m) (others (aside_in_turn m best budget) m)))) budget best ends
    (unmapped (after_entries (market_of_others (aside_in_turn m best budget) m) (below (length (map (couple_of m) (others (aside_in_turn m best budget) m)))) budget best) none)
  where
    unmapped : (o : Option (Places × ℕ)) → option_map {U = Places × ℕ} (λ r. (r.0, budget - r.1)) o ≡ None → o ≡ None
    unmapped None e = refl
    unmapped (Some r) e = absurd (let some : ◌≡◌ {A = Option (Places × ℕ)} (Some (r.0, budget - r.1)) None = e in cc)

-- The couple that is entering, in words: those before it have entered, and its rounds don't end.
entering_means : (m : Market) (start n left : ℕ) (places : Places) (k : ℕ) → entering_of m (range_with_len start n) left places ≡ Some k
    → (d : ℕ) × (d < n) × (k ≡ start + d) × ((r : Places × ℕ) × (after_entries m (range_with_len start d) left places ≡ Some r)
    × (after_rounds m k r.1 r.0 (Couple k ∷ []) ≡ None))
entering_means m start zero left places k e = absurd (let none : ◌≡◌ {A = Option ℕ} None (Some k) = e in cc)
entering_means m start (suc n) left places k e =
    by_end (after_rounds m start left places (Couple start ∷ [])) refl (λ q more. entering_means m (start + 1) n q.1 q.0 k more) e
  where
    by_end : (o : Option (Places × ℕ)) → after_rounds m start left places (Couple start ∷ []) ≡ o
        → ((q : Places × ℕ) → entering_of m (range_with_len (start + 1) n) q.1 q.0 ≡ Some k
        → (d : ℕ) × (d < n) × (k ≡ start + 1 + d) × ((r : Places × ℕ) × (after_entries m (range_with_len (start + 1) d) q.1 q.0 ≡ Some r)
        × (after_rounds m k r.1 r.0 (Couple k ∷ []) ≡ None)))
        → option_map_or (λ r. entering_of m (range_with_len (start + 1) n) r.1 r.0) o (Some start) ≡ Some k
        → (d : ℕ) × (d < suc n) × (k ≡ start + d) × ((r : Places × ℕ) × (after_entries m (range_with_len start d) left places ≡ Some r)
        × (after_rounds m k r.1 r.0 (Couple k ∷ []) ≡ None))
    by_end None is rest e =
        let some : ◌≡◌ {A = Option ℕ} (Some start) (Some k) = e in
        let same : start ≡ k = cc in
        (0, omega arith, omega arith, ((places, left), refl, subst (λ j. after_rounds m j left places (Couple j ∷ []) ≡ None) same is))
    by_end (Some q) is rest e =
        let w = rest q e in
        let low : suc w.0 < suc n = omega arith in
        let there : k ≡ start + suc w.0 = omega arith in
        (suc w.0, low, there, (w.3.0, rw is w.3.1, w.3.2))

entering_from : (m : Market) (before : List ℕ) (k : ℕ) (after : List ℕ) (left : ℕ) (places : Places) (r : Places × ℕ)
    → after_entries m before left places ≡ Some r → after_rounds m k r.1 r.0 (Couple k ∷ []) ≡ None
    → entering_of m (before ++ k ∷ after) left places ≡ Some k
entering_from m [] k after left places r e none =
    let some : ◌≡◌ {A = Option (Places × ℕ)} (Some (places, left)) (Some r) = e in
    let is : r ≡ (places, left) = cc in
    let spent : after_rounds m k left places (Couple k ∷ []) ≡ None = subst (λ q. after_rounds m k q.1 q.0 (Couple k ∷ []) ≡ None) is none in
    rw spent refl
entering_from m (j ∷ js) k after left places r e none =
    by_end (after_rounds m j left places (Couple j ∷ [])) (λ q. entering_from m js k after q.1 q.0 r) e none
  where
    by_end : (o : Option (Places × ℕ))
        → ((q : Places × ℕ) → after_entries m js q.1 q.0 ≡ Some r → after_rounds m k r.1 r.0 (Couple k ∷ []) ≡ None
        → entering_of m (js ++ k ∷ after) q.1 q.0 ≡ Some k)
        → option_and_then (λ q. after_entries m js q.1 q.0) o ≡ Some r → after_rounds m k r.1 r.0 (Couple k ∷ []) ≡ None
        → option_map_or (λ q. entering_of m (js ++ k ∷ after) q.1 q.0) o (Some j) ≡ Some k
    by_end None rest e none = absurd (let no : ◌≡◌ {A = Option (Places × ℕ)} None (Some r) = e in cc)
    by_end (Some q) rest e none = rest q e none

-- the numbers below n, around one of them
below_around : (n k : ℕ) → k < n → below n ≡ below k ++ k ∷ range_with_len (k + 1) (n - k - 1)
below_around n k l =
    let parts : n ≡ k + suc (n - k - 1) = omega arith in
    let zero_k : 0 + k ≡ k = omega arith in
    ap below parts ∙ range_append 0 k (suc (n - k - 1)) ∙ ap (λ s. below k ++ range_with_len s (suc (n - k - 1))) zero_k

pub entering_in_words_lem : EnteringInWords
entering_in_words_lem m places budget k = (
  (λ e.
      let w = entering_means m 0 (length m.couples) budget places k e in
      let same : w.0 ≡ k = omega arith in
      (omega arith, (w.3.0, subst (λ d. after_entries m (below d) budget places ≡ Some w.3.0) same w.3.1, w.3.2))),
  (λ h.
      subst (λ ks. entering_of m ks budget places ≡ Some k) (sym (below_around (length m.couples) k h.0))
      (entering_from m (below k) k (range_with_len (k + 1) (length m.couples - k - 1)) budget places h.1.0 h.1.1 h.1.2)),
)
