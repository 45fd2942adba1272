-- Where the members of a set stand on a list: how many there are, and how many stand above another one.
use Rattle.std.proofs.Common.{◌≡◌, ℕ, zero, suc, ◌+◌, ◌<◌, ◌≤◌, Bool, List, [], ◌∷◌, ◌++◌, length, get_or, take, append-nil, IsTrue, IsFalse, refl, ap, sym, subst, ◌-◌, ◌∙◌, inl, inr, arith, if◌then◌else◌}
use Rattle.std.specs.Global.{Global}
use Rattle.std.specs.List.{AllZip, Contains, range_with_len}
use Rattle.std.specs.Prelude.{Result, Ok, Err, IfOk, MatchResult, Vec, map}
use Rattle.std.specs.declared.alloc.AllocError.{AllocError}
use Rattle.rayon.specs.Numbers.{nat_range}
use Rattle.std.specs.List.Sorted.{IsNonDecreasing}
use Rattle.std.proofs.lemmas.Bool.{cases_Bool}
use Rattle.std.proofs.lemmas.List.{take_more, length-take}
use Rattle.mt_terms.specs.Lists.{Set, below, count}
use Rattle.mt_terms.specs.Matching.{ranks_from}

-- one place more of a list
pub ranks_from_push : (rank : ℕ) (set : Set) (xs : List ℕ) (x : ℕ)
    → ranks_from rank set (xs ++ x ∷ []) ≡ ranks_from rank set xs ++ (if set x then ((rank + length xs) ∷ []) else [])
ranks_from_push rank set [] x = let e : rank ≡ rank + 0 = omega arith in ap (λ r. if set x then (r ∷ []) else []) e
ranks_from_push rank set (y ∷ ys) x =
    let e : rank + 1 + length ys ≡ rank + length (y ∷ ys) = omega arith in
    let rest = ranks_from_push (rank + 1) set ys x ∙ ap (λ r. ranks_from (rank + 1) set ys ++ (if set x then (r ∷ []) else [])) e in
    elim (cases_Bool (set y)) [
      | inl here ↦ rw here (ap (λ zs. rank ∷ zs) rest)
      | inr other ↦ rw other rest
    ]

-- the ranks after one place more of a list, whose number was read there
module _ (ranks : List ℕ) (set : Set) (xs : List ℕ) (i a : ℕ) (within : i < length xs) (read : a ≡ get_or xs i a) (so_far : ranks ≡ ranks_from 0 set (take i xs)) where
  one_more : ranks_from 0 set (take (i + 1) xs) ≡ ranks ++ (if set a then (i ∷ []) else [])
  one_more =
      let front : length (take i xs) ≡ i = omega (arith, length-take i xs) in
      ap (ranks_from 0 set) (take_more xs i a within ∙ ap (λ x. take i xs ++ x ∷ []) (sym read))
      ∙ ranks_from_push 0 set (take i xs) a
      ∙ ap (λ r. ranks_from 0 set (take i xs) ++ (if set a then (r ∷ []) else [])) (let e : 0 + length (take i xs) ≡ i = omega arith in e)
      ∙ ap (λ rs. rs ++ (if set a then (i ∷ []) else [])) (sym so_far)

  pub after_member : IsTrue (set a) → ranks ++ i ∷ [] ≡ ranks_from 0 set (take (i + 1) xs)
  after_member here = sym (one_more ∙ ap (λ (b : Bool). ranks ++ (if b then (i ∷ []) else [])) here)

  pub after_other : IsFalse (set a) → ranks ≡ ranks_from 0 set (take (i + 1) xs)
  after_other other = sym (one_more ∙ ap (λ (b : Bool). ranks ++ (if b then (i ∷ []) else [])) other ∙ append-nil ranks)

-- Below, threads make a list of each number below n.
all_made : (f : ℕ → List ℕ) (ns : List ℕ) (vs : List (Vec ℕ Global)) → AllZip (λ k (r : Result (Vec ℕ Global) AllocError). IfOk r (λ v. v.items ≡ f k)) ns (map Ok vs) → map Vec.items vs ≡ map f ns
all_made f [] [] made = refl
all_made f [] (v ∷ vs) made = absurd made
all_made f (n ∷ ns) [] made = absurd made
all_made f (n ∷ ns) (v ∷ vs) made = let rest = all_made f ns vs made.1 in λ i. made.0 i ∷ rest i

pub made_by_threads : (f : ℕ → List ℕ) (start end n : ℕ) (ns : List ℕ) (made : List (Result (Vec ℕ Global) AllocError)) (r : Result (Vec (Vec ℕ Global) Global) AllocError)
    → start ≡ 0 → end ≡ n → ns ≡ nat_range start end → AllZip (λ k (r : Result (Vec ℕ Global) AllocError). IfOk r (λ v. v.items ≡ f k)) ns made
    → MatchResult r (λ v. (vs : List (Vec ℕ Global)) × (made ≡ map Ok vs) × (v.items ≡ vs)) (λ e. Contains made (Err e))
    → IfOk r (λ v. map Vec.items v.items ≡ map f (below n))
made_by_threads f start end n ns made (Err e) from to are each is = tt
made_by_threads f start end n ns made (Ok v) from to are each is =
    let whole : end - start ≡ n = omega arith in
    let each_made = subst (λ l. AllZip (λ k (r : Result (Vec ℕ Global) AllocError). IfOk r (λ v. v.items ≡ f k)) ns l) is.1 each in
    ap (map Vec.items) is.2 ∙ all_made f ns is.0 each_made
    ∙ ap (map f) (are ∙ ap (λ a. range_with_len a (end - start)) from ∙ ap (range_with_len 0) whole)

-- Below, the list stands from a rank on.
-- nobody stands above the first place
at_least : (rank : ℕ) (set : Set) (xs : List ℕ) (k d : ℕ) → k < length (ranks_from rank set xs) → rank ≤ get_or (ranks_from rank set xs) k d
at_least rank set [] k d h = absurd (omega arith)
at_least rank set (x ∷ xs) zero d h = elim (cases_Bool (set x)) [
  | inl here ↦ rw here (omega arith)
  | inr other ↦ rw other (let later = at_least (rank + 1) set xs zero d (rw other at h) in omega arith)
]
at_least rank set (x ∷ xs) (suc k) d h = elim (cases_Bool (set x)) [
  | inl here ↦
      let less : suc k < length (rank ∷ ranks_from (rank + 1) set xs) = rw here at h in
      rw here (let later = at_least (rank + 1) set xs k d (omega arith) in omega arith)
  | inr other ↦ rw other (let later = at_least (rank + 1) set xs (suc k) d (rw other at h) in omega arith)
]

rising-cons : (x : ℕ) (xs : List ℕ) → ((k d : ℕ) → k < length xs → x ≤ get_or xs k d) → IsNonDecreasing xs → IsNonDecreasing (x ∷ xs)
rising-cons x xs low rising zero zero d order within = omega arith
rising-cons x xs low rising zero (suc j) d order within = low j d (omega arith)
rising-cons x xs low rising (suc i) zero d order within = absurd (omega arith)
rising-cons x xs low rising (suc i) (suc j) d order within = rising i j d (omega arith) (omega arith)

pub ranks_rise : (rank : ℕ) (set : Set) (xs : List ℕ) → IsNonDecreasing (ranks_from rank set xs)
ranks_rise rank set [] = λ i j d order within. absurd (omega arith)
ranks_rise rank set (x ∷ xs) = elim (cases_Bool (set x)) [
  | inl here ↦ rw here (rising-cons rank (ranks_from (rank + 1) set xs) (λ k d h. let later = at_least (rank + 1) set xs k d h in omega arith) (ranks_rise (rank + 1) set xs))
  | inr other ↦ rw other (ranks_rise (rank + 1) set xs)
]

-- as many places as members
pub length-ranks_from : (rank : ℕ) (set : Set) (xs : List ℕ) → length (ranks_from rank set xs) ≡ count set xs
length-ranks_from rank set [] = refl
length-ranks_from rank set (x ∷ xs) = elim (cases_Bool (set x)) [
  | inl here ↦ rw here (omega (arith, length-ranks_from (rank + 1) set xs))
  | inr other ↦ rw other (omega (arith, length-ranks_from (rank + 1) set xs))
]
