-- The ranks of a set on a list: as the set gains or loses one, how many there are, and who they are.
use Rattle.std.proofs.Common.{◌≡◌, ◌≢◌, ℕ, zero, suc, ◌+◌, ◌-◌, ◌<◌, ◌≤◌, Bool, true, false, not, ◌&&◌, ◌==◌, nat_lt, List, [], ◌∷◌, map, filter, length, take, drop, get_or, refl, ap, ap₂, sym, ◌∙◌, inl, inr, arith, subst, lt-ltb, le-ltb, if◌then◌else◌}
use Rattle.std.specs.List.Sorted.{IsStrictlySortedBy}
use Rattle.std.specs.Ordering.{nat_cmp}
use Rattle.std.specs.BTreeSet.{insert_key}
use Rattle.std.proofs.lemmas.Bool.{cases_Bool, cases_lt, and_parts, or_cases, or_parts, or_left, or_right, both_ways, false≢true, false_from_ne_true, not-true, not_from_false, eq-eqb, eqb-true, ne_eqb}
use Rattle.std.proofs.lemmas.List.{drop_all, get_or_default}
use Rattle.mt_terms.specs.Lists.{Set, has, count, is_distinct}
use Rattle.mt_terms.specs.Matching.{ranks_from}
use Rattle.mt_stage_tables.proofs.OrderFacts.{has_at, IsBelowAll, all_above, filter_same}
use Rattle.mt_stage_tables.proofs.RefusedFacts.{is_refused, program_with, refused_is, count_is}

-- what a rank of a set is
pub record IsRankOf (i : ℕ) (set : Set) (xs : List ℕ) (r : ℕ) : Type 0 where
  pub low : i ≤ r
  pub high : r < i + length xs
  pub of_set : set (get_or xs (r - i) 0) ≡ true

rank_later : (i : ℕ) (set : Set) (x : ℕ) (xs : List ℕ) (r : ℕ) → IsRankOf (i + 1) set xs r → IsRankOf i set (x ∷ xs) r
rank_later i set x xs r h =
    let low = h.low in
    let high = h.high in
    let e : r - i ≡ suc (r - (i + 1)) = omega arith in
    record { low = omega arith; high = omega arith; of_set = ap (λ j. set (get_or (x ∷ xs) j 0)) e ∙ h.of_set }

pub ranks_are : (i : ℕ) (set : Set) (xs : List ℕ) (r : ℕ) → has (ranks_from i set xs) r ≡ true → IsRankOf i set xs r
ranks_are i set [] r on = absurd (false≢true on)
ranks_are i set (x ∷ xs) r on = elim (cases_Bool (set x)) [
  | inl here ↦ elim (or_cases (i == r) (has (ranks_from (i + 1) set xs) r) (rw here at on)) [
    | inl first ↦
        let is : i ≡ r = eqb-true i r first in
        let e : r - i ≡ 0 = omega arith in
        record { low = omega arith; high = omega arith; of_set = ap (λ j. set (get_or (x ∷ xs) j 0)) e ∙ here }
    | inr rest ↦ rank_later i set x xs r (ranks_are (i + 1) set xs r rest)
  ]
  | inr other ↦ rank_later i set x xs r (ranks_are (i + 1) set xs r (rw other at on))
]

pub above_ranks : (i : ℕ) (set : Set) (xs : List ℕ) → IsBelowAll i (ranks_from (i + 1) set xs)
above_ranks i set xs p on = let low = (ranks_are (i + 1) set xs p on).low in omega arith

-- they rise
pub ranks_sorted : (i : ℕ) (set : Set) (xs : List ℕ) → IsStrictlySortedBy nat_cmp (ranks_from i set xs)
unfolding IsStrictlySortedBy
ranks_sorted i set [] = tt
ranks_sorted i set (x ∷ xs) = elim (cases_Bool (set x)) [
  | inl here ↦ rw here (all_above i (ranks_from (i + 1) set xs) (above_ranks i set xs), ranks_sorted (i + 1) set xs)
  | inr other ↦ rw other (ranks_sorted (i + 1) set xs)
]

-- Below, two sets that differ at one number at most.
abbrev pub SameBut : Set → Set → ℕ → Type 0
SameBut s t a = (b : ℕ) → b ≢ a → t b ≡ s b

-- on a list that does not have the number the sets have the same ranks
pub same_ranks : (s t : Set) (a : ℕ) → SameBut s t a → (i : ℕ) (xs : List ℕ) → has xs a ≡ false → ranks_from i t xs ≡ ranks_from i s xs
same_ranks s t a same i [] off = refl
same_ranks s t a same i (x ∷ xs) off =
    let parts = or_parts (x == a) (has xs a) off in
    let rest = same_ranks s t a same (i + 1) xs parts.1 in
    let here = same x (λ e. both_ways (x == a) parts.0 (eq-eqb x a e)) in
    ap₂ (λ (b : Bool) ys. if b then (i ∷ ys) else ys) here rest

-- a rank below all others goes first
insert_first : (k : ℕ) (ks : List ℕ) → IsBelowAll k ks → insert_key nat_cmp ks k ≡ k ∷ ks
insert_first k [] h = refl
insert_first k (x ∷ xs) h = rw (lt-ltb k x (h x (or_left (x == x) (has xs x) (eq-eqb x x refl)))) refl

insert_later : (x k : ℕ) (xs : List ℕ) → x < k → insert_key nat_cmp (x ∷ xs) k ≡ x ∷ insert_key nat_cmp xs k
insert_later x k xs l = rw (le-ltb k x (omega arith), ne_eqb k x (λ e. absurd (omega arith))) refl

-- the set gains the number that stands at a place
pub ranks_with : (s t : Set) (a : ℕ) → SameBut s t a → s a ≡ false → t a ≡ true → (i : ℕ) (xs : List ℕ) (k : ℕ) → is_distinct xs ≡ true → k < length xs → get_or xs k 0 ≡ a
    → ranks_from i t xs ≡ insert_key nat_cmp (ranks_from i s xs) (i + k)
ranks_with s t a same out in_t i [] k once within stands = absurd (omega arith)
ranks_with s t a same out in_t i (x ∷ xs) zero once within stands =
    let parts = and_parts (not (has xs x)) (is_distinct xs) once in
    let off : has xs a ≡ false = subst (λ y. has xs y ≡ false) stands (not-true _ parts.0) in
    let rest = same_ranks s t a same (i + 1) xs off in
    let here : t x ≡ true = ap t stands ∙ in_t in
    let before : s x ≡ false = ap s stands ∙ out in
    let e : i + 0 ≡ i = omega arith in
    rw (here, before, e) (ap (λ ys. i ∷ ys) rest ∙ sym (insert_first i (ranks_from (i + 1) s xs) (above_ranks i s xs)))
ranks_with s t a same out in_t i (x ∷ xs) (suc k) once within stands =
    let parts = and_parts (not (has xs x)) (is_distinct xs) once in
    let on : has xs a ≡ true = subst (λ y. has xs y ≡ true) stands (has_at xs k 0 (omega arith)) in
    let other : x ≢ a = λ e. both_ways (has xs x) (not-true _ parts.0) (subst (λ y. has xs y ≡ true) (sym e) on) in
    let here = same x other in
    let e : i + suc k ≡ i + 1 + k = omega arith in
    let rest : ranks_from (i + 1) t xs ≡ insert_key nat_cmp (ranks_from (i + 1) s xs) (i + suc k) =
    ranks_with s t a same out in_t (i + 1) xs k parts.1 (omega arith) stands ∙ ap (insert_key nat_cmp (ranks_from (i + 1) s xs)) (sym e) in
    elim (cases_Bool (s x)) [
      | inl in_s ↦ rw (here, in_s) (ap (λ ys. i ∷ ys) rest ∙ sym (insert_later i (i + suc k) (ranks_from (i + 1) s xs) (omega arith)))
      | inr not_s ↦ rw (here, not_s) rest
    ]

-- the set loses the number that stands at a place
pub ranks_without : (s t : Set) (a : ℕ) → SameBut s t a → t a ≡ false → (i : ℕ) (xs : List ℕ) (k : ℕ) → is_distinct xs ≡ true → k < length xs → get_or xs k 0 ≡ a
    → ranks_from i t xs ≡ filter (λ r. not (r == i + k)) (ranks_from i s xs)
ranks_without s t a same out i [] k once within stands = absurd (omega arith)
ranks_without s t a same out i (x ∷ xs) zero once within stands =
    let parts = and_parts (not (has xs x)) (is_distinct xs) once in
    let off : has xs a ≡ false = subst (λ y. has xs y ≡ false) stands (not-true _ parts.0) in
    let rest = same_ranks s t a same (i + 1) xs off in
    let here : t x ≡ false = ap t stands ∙ out in
    let e : i + 0 ≡ i = omega arith in
    let keeps : filter (λ r. not (r == i)) (ranks_from (i + 1) s xs) ≡ ranks_from (i + 1) s xs = filter_same (λ r. not (r == i)) (ranks_from (i + 1) s xs) (λ p on.
    let l = above_ranks i s xs p on in not_from_false _ (ne_eqb p i (λ same_rank. absurd (omega arith)))) in
    rw (here, e) (elim (cases_Bool (s x)) [
      | inl in_s ↦ rw (in_s, eq-eqb i i refl) (rest ∙ sym keeps)
      | inr not_s ↦ rw not_s (rest ∙ sym keeps)
    ])
ranks_without s t a same out i (x ∷ xs) (suc k) once within stands =
    let parts = and_parts (not (has xs x)) (is_distinct xs) once in
    let on : has xs a ≡ true = subst (λ y. has xs y ≡ true) stands (has_at xs k 0 (omega arith)) in
    let other : x ≢ a = λ e. both_ways (has xs x) (not-true _ parts.0) (subst (λ y. has xs y ≡ true) (sym e) on) in
    let here = same x other in
    let e : i + suc k ≡ i + 1 + k = omega arith in
    let rest : ranks_from (i + 1) t xs ≡ filter (λ r. not (r == i + suc k)) (ranks_from (i + 1) s xs) =
    ranks_without s t a same out (i + 1) xs k parts.1 (omega arith) stands ∙ ap (λ n. filter (λ r. not (r == n)) (ranks_from (i + 1) s xs)) (sym e) in
    elim (cases_Bool (s x)) [
      | inl in_s ↦ rw (here, in_s, ne_eqb i (i + suc k) (λ same_rank. absurd (omega arith))) (ap (λ ys. i ∷ ys) rest)
      | inr not_s ↦ rw (here, not_s) rest
    ]

-- who is in a set has its rank among the set's
pub has_own_rank : (set : Set) (i : ℕ) (xs : List ℕ) (k : ℕ) → k < length xs → set (get_or xs k 0) ≡ true → has (ranks_from i set xs) (i + k) ≡ true
has_own_rank set i [] k within in_set = absurd (omega arith)
has_own_rank set i (x ∷ xs) zero within in_set = rw in_set (or_left (i == i + 0) _ (eq-eqb i (i + 0) (omega arith)))
has_own_rank set i (x ∷ xs) (suc k) within in_set =
    let e : i + 1 + k ≡ i + suc k = omega arith in
    let rest : has (ranks_from (i + 1) set xs) (i + suc k) ≡ true = subst (λ r. has (ranks_from (i + 1) set xs) r ≡ true) e (has_own_rank set (i + 1) xs k (omega arith) in_set) in
    elim (cases_Bool (set x)) [
      | inl here ↦ rw here (or_right (i == i + suc k) _ rest)
      | inr other ↦ rw other rest
    ]

-- and who is not hasn't
pub has_no_own_rank : (set : Set) (i : ℕ) (xs : List ℕ) (k : ℕ) → set (get_or xs k 0) ≡ false → has (ranks_from i set xs) (i + k) ≡ false
has_no_own_rank set i xs k out = false_from_ne_true _ (λ on.
    let h = ranks_are i set xs (i + k) on in
    let e : i + k - i ≡ k = omega arith in
    both_ways (set (get_or xs k 0)) out (ap (λ j. set (get_or xs j 0)) (sym e) ∙ h.of_set))

-- one applicant more of a list, who is refused if quota of the set came before
refused_step : (f : ℕ → ℕ) (ranks refused : List ℕ) (y i quota c c' : ℕ) (in_set is_out : Bool) → f i ≡ y → refused ≡ map f (drop (quota - c') ranks)
    → c' ≡ c + (if in_set then 1 else 0) → is_out ≡ (in_set && not (in_set && nat_lt c quota))
    → (if is_out then (y ∷ refused) else refused) ≡ map f (drop (quota - c) (if in_set then (i ∷ ranks) else ranks))
refused_step f ranks refused y i quota c c' false is_out stands rest more is =
    let e : c' ≡ c = omega arith in
    rw is (rest ∙ ap (λ n. map f (drop (quota - n) ranks)) e)
refused_step f ranks refused y i quota c c' true is_out stands rest more is = elim (cases_lt c quota) [
  | inl few ↦
      let kept : is_out ≡ false = is ∙ ap (λ (b : Bool). true && not (true && b)) (lt-ltb c quota few) in
      let e : quota - c ≡ suc (quota - c') = omega arith in
      rw (kept, e) rest
  | inr many ↦
      let out : is_out ≡ true = is ∙ ap (λ (b : Bool). true && not (true && b)) (le-ltb c quota many) in
      let none : quota - c ≡ 0 = omega arith in
      let none' : quota - c' ≡ 0 = omega arith in
      rw (out, none) (ap₂ ◌∷◌ (sym stands) (rest ∙ ap (λ n. map f (drop n ranks)) none'))
]

-- Below, those that are refused: each that has quota of the set above it.
module _ (set : Set) (quota : ℕ) (all : List ℕ) (once : is_distinct all ≡ true) where
  refused_from : (i : ℕ) (ys : List ℕ) → length ys + i ≡ length all → ((k : ℕ) → k < length ys → get_or ys k 0 ≡ get_or all (i + k) 0)
      → filter (is_refused (program_with quota all) set) ys ≡ map (λ r. get_or all r 0) (drop (quota - count set (take i all)) (ranks_from i set ys))
  refused_from i [] size same = ap (map (λ r. get_or all r 0)) (sym (drop_all (quota - count set (take i all)) [] (omega arith)))
  refused_from i (y ∷ ys) size same =
      let e : i + 0 ≡ i = omega arith in
      let read : y ≡ get_or all i 0 = same 0 (omega arith) ∙ ap (λ j. get_or all j 0) e in
      let read' : y ≡ get_or all i y = read ∙ get_or_default all i 0 y (omega arith) in
      let within : i < length all = omega arith in
      let refused = refused_is set quota all i y once within read' in
      let count_next = count_is set quota all i y once within read' in
      let rest = refused_from (i + 1) ys (omega arith) (λ k l. let e : i + suc k ≡ i + 1 + k = omega arith in same (suc k) (omega arith) ∙ ap (λ j. get_or all j 0) e) in
      refused_step (λ r. get_or all r 0) (ranks_from (i + 1) set ys) (filter (is_refused (program_with quota all) set) ys) y i quota (count set (take i all)) (count set (take (i + 1) all))
      (set y) (is_refused (program_with quota all) set y) (sym read) rest count_next refused

-- who is refused has its rank behind as many as the quota
pub refused_ranks : (set : Set) (quota : ℕ) (xs : List ℕ) → is_distinct xs ≡ true
    → filter (is_refused (program_with quota xs) set) xs ≡ map (λ r. get_or xs r 0) (drop quota (ranks_from 0 set xs))
refused_ranks set quota xs once =
    let e : quota - 0 ≡ quota = omega arith in
    refused_from set quota xs once 0 xs (omega arith) (λ k l. let e : k ≡ 0 + k = omega arith in ap (λ j. get_or xs j 0) e)
    ∙ ap (λ n. map (λ r. get_or xs r 0) (drop n (ranks_from 0 set xs))) e
