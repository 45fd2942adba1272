-- Numbers in rising order.
use Rattle.std.proofs.Common.{IsTrue, ◌≡◌, ℕ, zero, suc, ◌+◌, ◌<◌, ◌≤◌, Bool, true, false, not, ◌||◌, ◌==◌, nat_lt, List, [], ◌∷◌, filter, length, get_or, nat_le, insert, remove, refl, ap, sym, ◌∙◌, inl, inr, arith, lt-ltb, le-ltb, le-leb, ltb-true}
use Rattle.std.specs.List.{AllByRecursion}
use Rattle.std.specs.List.Sorted.{IsStrictlySortedBy}
use Rattle.std.specs.Ordering.{nat_cmp, match_ordering}
use Rattle.std.specs.BTreeSet.{insert_key}
use Rattle.std.specs.declared.cmp.Ordering.{Ordering}
use Rattle.std.specs.declared.cmp.Ordering.TheVariants.{Less, Equal, Greater}
use Rattle.std.proofs.Math.Bool.{or_assoc, or_comm, or-false}
use Rattle.std.proofs.lemmas.Bool.{cases_lt, cases_eq, or_cases, or_parts, or_left, or_right, both_ways, false≢true, not_from_false, eq-eqb, eqb-true, ne_eqb, lt-leb}
use Rattle.std.proofs.lemmas.Cmp.{ranked}
use Rattle.std.proofs.lemmas.Map.Keys.{sorted_head, sorted_tail}
use Rattle.mt_terms.specs.Lists.{has, count}

-- what stands at a place of a list is on it
pub has_at : (xs : List ℕ) (i d : ℕ) → i < length xs → IsTrue (has xs (get_or xs i d))
has_at [] i d within = absurd (omega arith)
has_at (x ∷ xs) zero d within = or_left _ _ (eq-eqb x x refl)
has_at (x ∷ xs) (suc i) d within = or_right _ _ (has_at xs i d (omega arith))

-- a number is below all of a list
abbrev pub IsBelowAll : ℕ → List ℕ → Type 0
IsBelowAll k ks = (p : ℕ) → has ks p ≡ true → k < p

pub below_rest : (k : ℕ) (ks : List ℕ) → IsStrictlySortedBy nat_cmp (k ∷ ks) → IsBelowAll k ks
below_rest k ks sorted = down ks (sorted_head nat_cmp k ks sorted)
  where
    down : (xs : List ℕ) → AllByRecursion (λ y. nat_cmp k y ≡ Less) xs → IsBelowAll k xs
    down [] h p on = absurd (false≢true on)
    down (x ∷ xs) h p on = elim (or_cases (x == p) (has xs p) on) [
      | inl here ↦ (let l : k < x = ranked k x Less (sym h.0) in let is = eqb-true x p here in omega arith)
      | inr later ↦ down xs h.1 p later
    ]

-- if none of a list passes, none is counted
pub count_nobody : (test : ℕ → Bool) (xs : List ℕ) → ((p : ℕ) → has xs p ≡ true → test p ≡ false) → count test xs ≡ 0
count_nobody test [] h = refl
count_nobody test (x ∷ xs) h =
    let here = h x (or_left (x == x) (has xs x) (eq-eqb x x refl)) in
    let rest = count_nobody test xs (λ p on. h p (or_right (x == p) (has xs p) on)) in
    rw here (omega arith)

none_before : (x k : ℕ) (xs : List ℕ) → k ≤ x → IsBelowAll x xs → count (λ r. nat_lt r k) xs ≡ 0
none_before x k xs low above = count_nobody (λ r. nat_lt r k) xs (λ p on. let l = above p on in le-ltb p k (omega arith))

-- two comparisons that say the same
pub same_lt : (a b c d : ℕ) → (a < b → c < d) → (c < d → a < b) → nat_lt a b ≡ nat_lt c d
same_lt a b c d to from = elim (cases_lt a b) [
  | inl l ↦ lt-ltb a b l ∙ sym (lt-ltb c d (to l))
  | inr h ↦ le-ltb a b h ∙ sym (elim (cases_lt c d) [ inl k ↦ (let l = from k in absurd (omega arith)) | inr g ↦ le-ltb c d g ])
]

-- whether fewer than this many of a list are below a number, by the one at a place
pub fewer_at : (ks : List ℕ) (k i : ℕ) → IsStrictlySortedBy nat_cmp ks → i < length ks → nat_le k (get_or ks i 0) ≡ nat_lt (count (λ r. nat_lt r k) ks) (i + 1)
fewer_at [] k i sorted within = absurd (omega arith)
fewer_at (x ∷ xs) k i sorted within = elim (cases_lt x k) [
  | inl low ↦ by_place i within (lt-ltb x k low) (λ j l. fewer_at xs k j (sorted_tail nat_cmp x xs sorted) l)
  | inr high ↦
      let none : count (λ r. nat_lt r k) (x ∷ xs) ≡ 0 = rw (le-ltb x k high, none_before x k xs high (below_rest x xs sorted)) refl in
      le-leb k (get_or (x ∷ xs) i 0) (above i within high) ∙ sym (ap (λ n. nat_lt n (i + 1)) none ∙ lt-ltb 0 (i + 1) (omega arith))
]
  where
    by_place : (i : ℕ) → i < length (x ∷ xs) → nat_lt x k ≡ true → ((j : ℕ) → j < length xs → nat_le k (get_or xs j 0) ≡ nat_lt (count (λ r. nat_lt r k) xs) (j + 1))
        → nat_le k (get_or (x ∷ xs) i 0) ≡ nat_lt (count (λ r. nat_lt r k) (x ∷ xs)) (i + 1)
    by_place zero within low later = rw low (lt-leb k x (ltb-true x k low) ∙ sym (le-ltb (1 + count (λ r. nat_lt r k) xs) 1 (omega arith)))
    by_place (suc i) within low later =
        rw low (later i (omega arith) ∙ same_lt (count (λ r. nat_lt r k) xs) (i + 1) (1 + count (λ r. nat_lt r k) xs) (suc i + 1) (λ l. omega arith) (λ l. omega arith))

    above : (i : ℕ) → i < length (x ∷ xs) → k ≤ x → k ≤ get_or (x ∷ xs) i 0
    above zero within high = high
    above (suc i) within high = (let l = below_rest x xs sorted (get_or xs i 0) (has_at xs i 0 (omega arith)) in omega arith)

-- a filter that everything passes
pub filter_same : (test : ℕ → Bool) (xs : List ℕ) → ((p : ℕ) → has xs p ≡ true → test p ≡ true) → filter test xs ≡ xs
filter_same test [] h = refl
filter_same test (x ∷ xs) h =
    let here = h x (or_left (x == x) (has xs x) (eq-eqb x x refl)) in
    rw here (ap (λ ys. x ∷ ys) (filter_same test xs (λ p on. h p (or_right (x == p) (has xs p) on))))

-- a number that stands on a list is counted among those below by its place
pub insert_at_place : (ks : List ℕ) (k : ℕ) → IsStrictlySortedBy nat_cmp ks → has ks k ≡ false → insert ks (count (λ r. nat_lt r k) ks) k ≡ insert_key nat_cmp ks k
insert_at_place [] k sorted off = refl
insert_at_place (x ∷ xs) k sorted off =
    let parts = or_parts (x == k) (has xs k) off in
    let apart : (k == x) ≡ false = ne_eqb k x (λ same. both_ways (x == k) parts.0 (eq-eqb x k (sym same))) in
    elim (cases_lt x k) [
      | inl low ↦
          let one_more : 1 + count (λ r. nat_lt r k) xs ≡ suc (count (λ r. nat_lt r k) xs) = omega arith in
          rw (lt-ltb x k low, le-ltb k x (omega arith), apart, one_more) (ap (λ ys. x ∷ ys) (insert_at_place xs k (sorted_tail nat_cmp x xs sorted) parts.1))
      | inr high ↦
          let above : k < x = (let ne = λ (e : k ≡ x). both_ways (k == x) apart (eq-eqb k x e) in omega arith) in
          rw (le-ltb x k high, lt-ltb k x above, none_before x k xs high (below_rest x xs sorted)) refl
    ]

pub remove_at_place : (ks : List ℕ) (k : ℕ) → IsStrictlySortedBy nat_cmp ks → has ks k ≡ true
    → (count (λ r. nat_lt r k) ks < length ks) × (remove ks (count (λ r. nat_lt r k) ks) ≡ filter (λ r. not (r == k)) ks)
remove_at_place [] k sorted on = absurd (false≢true on)
remove_at_place (x ∷ xs) k sorted on = elim (cases_eq x k) [
  | inl same ↦
      let none = none_before x k xs (omega arith) (below_rest x xs sorted) in
      let keeps : filter (λ r. not (r == k)) xs ≡ xs = filter_same (λ r. not (r == k)) xs (λ p here.
      let l = below_rest x xs sorted p here in not_from_false _ (ne_eqb p k (λ e. absurd (omega arith)))) in
      let low : nat_lt x k ≡ false = le-ltb x k (omega arith) in
      rw (low, none, eq-eqb x k same) (omega arith, sym keeps)
  | inr other ↦
      let later : has xs k ≡ true = elim (or_cases (x == k) (has xs k) on) [ inl e ↦ absurd (other (eqb-true x k e)) | inr r ↦ r ] in
      let l = below_rest x xs sorted k later in
      let rest = remove_at_place xs k (sorted_tail nat_cmp x xs sorted) later in
      let one_more : 1 + count (λ r. nat_lt r k) xs ≡ suc (count (λ r. nat_lt r k) xs) = omega arith in
      rw (lt-ltb x k l, ne_eqb x k other, one_more) (omega (arith, rest.0), ap (λ ys. x ∷ ys) rest.1)
]

-- below all of a list, by its order
pub all_above : (k : ℕ) (ks : List ℕ) → IsBelowAll k ks → AllByRecursion (λ y. nat_cmp k y ≡ Less) ks
all_above k [] h = tt
all_above k (x ∷ xs) h =
    let l = h x (or_left (x == x) (has xs x) (eq-eqb x x refl)) in
    (rw (lt-ltb k x l) refl, all_above k xs (λ p on. h p (or_right (x == p) (has xs p) on)))

-- a test that is named again
or_twice : (a b : Bool) → (a || b) ≡ ((a || b) || a)
or_twice true b = refl
or_twice false b = sym (or-false b)

-- a set of numbers with one more
pub has-insert_key : (ks : List ℕ) (k p : ℕ) → has (insert_key nat_cmp ks k) p ≡ (has ks p || (k == p))
has-insert_key [] k p = or-false (k == p)
has-insert_key (x ∷ xs) k p = by_order (nat_cmp k x) refl (has-insert_key xs k p)
  where
    by_order : (o : Ordering) → o ≡ nat_cmp k x → has (insert_key nat_cmp xs k) p ≡ (has xs p || (k == p))
        → has (match_ordering o (k ∷ x ∷ xs) (x ∷ xs) (x ∷ insert_key nat_cmp xs k)) p ≡ (has (x ∷ xs) p || (k == p))
    by_order Less is later = or_comm (k == p) (has (x ∷ xs) p)
    by_order Equal is later =
        let same : k ≡ x = ranked k x Equal is in
        or_twice (x == p) (has xs p) ∙ ap (λ y. has (x ∷ xs) p || (y == p)) (sym same)
    by_order Greater is later = ap (λ (b : Bool). (x == p) || b) later ∙ sym (or_assoc (x == p) (has xs p) (k == p))

-- and it stays in order
pub sorted-insert_key : (ks : List ℕ) (k : ℕ) → IsStrictlySortedBy nat_cmp ks → IsStrictlySortedBy nat_cmp (insert_key nat_cmp ks k)
unfolding IsStrictlySortedBy
sorted-insert_key [] k sorted = (tt, tt)
sorted-insert_key (x ∷ xs) k sorted = by_order (nat_cmp k x) refl (sorted-insert_key xs k sorted.1)
  where
    by_order : (o : Ordering) → o ≡ nat_cmp k x → IsStrictlySortedBy nat_cmp (insert_key nat_cmp xs k)
        → IsStrictlySortedBy nat_cmp (match_ordering o (k ∷ x ∷ xs) (x ∷ xs) (x ∷ insert_key nat_cmp xs k))
    by_order Less is later =
        let low : k < x = ranked k x Less is in (
          all_above k (x ∷ xs) (λ p on. elim (or_cases (x == p) (has xs p) on) [
            | inl here ↦ (let same = eqb-true x p here in omega arith)
            | inr rest ↦ (let l = below_rest x xs sorted p rest in omega arith)
          ]),
          sorted,
        )
    by_order Equal is later = sorted
    by_order Greater is later =
        let high : x < k = ranked k x Greater is in (
          all_above x (insert_key nat_cmp xs k) (λ p on. elim (or_cases (has xs p) (k == p) (sym (has-insert_key xs k p) ∙ on)) [
            | inl rest ↦ below_rest x xs sorted p rest
            | inr here ↦ (let same = eqb-true k p here in omega arith)
          ]),
          later,
        )
