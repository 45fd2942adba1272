-- Sums over the numbers below n, and counts of the numbers below n that are in a set.
use Rattle.std.proofs.Common.{◌≡◌, ℕ, zero, suc, ◌+◌, ◌<◌, ◌≤◌, Bool, ◌||◌, if◌then◌else◌, ◌==◌, IsTrue, IsFalse, refl, sym, ◌∙◌, ap, arith, inl, inr, nat_lt}
use Rattle.std.proofs.lemmas.Bool.{cases_lt}
use Rattle.std.proofs.lemmas.Bool.Decides.{nat_tests}
use Rattle.mt_terms.specs.Lists.{Set, total_below, count_below}

-- 1 for a member of a set, and else 0
abbrev pub one_in : Set → ℕ → ℕ
one_in set a = if set a then 1 else 0

-- 1 and 0 are in the order of the sets
one_in-mono : (s t : Set) (a : ℕ) → (IsTrue (s a) → IsTrue (t a)) → one_in s a ≤ one_in t a
one_in-mono s t a h = grind arith

-- 1 and 0 tell the members
same_members : (s t : Set) (a : ℕ) → one_in s a ≡ one_in t a → s a ≡ t a
same_members s t a h = grind arith

-- 1 and 0 of a union of sets that share nobody add up
one_in-or : (s t : Set) (a : ℕ) → (IsTrue (s a) → IsFalse (t a)) → (if s a || t a then 1 else 0) ≡ one_in s a + one_in t a
one_in-or s t a h = grind arith

-- a sum grows with its terms
pub total_below-mono : (f g : ℕ → ℕ) (n : ℕ) → ((k : ℕ) → k < n → f k ≤ g k) → total_below f n ≤ total_below g n
total_below-mono f g zero h = omega arith
total_below-mono f g (suc n) h =
    let at_n : f n ≤ g n = h n (omega arith) in
    let rest : total_below f n ≤ total_below g n = total_below-mono f g n (λ k l. h k (omega arith)) in
    omega arith

-- equal terms give equal sums
pub total_below-same : (f g : ℕ → ℕ) (n : ℕ) → ((k : ℕ) → k < n → f k ≡ g k) → total_below f n ≡ total_below g n
total_below-same f g zero h = refl
total_below-same f g (suc n) h =
    let at_n : f n ≡ g n = h n (omega arith) in
    let rest : total_below f n ≡ total_below g n = total_below-same f g n (λ k l. h k (omega arith)) in
    cc

-- if each term is at most the other one and the sum at least the other sum, the terms are equal
pub total_below-tight : (f g : ℕ → ℕ) (n : ℕ) → ((k : ℕ) → k < n → f k ≤ g k) → total_below g n ≤ total_below f n → (k : ℕ) → k < n → f k ≡ g k
total_below-tight f g zero h s k l = omega arith
total_below-tight f g (suc n) h s k l =
    let at_n : f n ≤ g n = h n (omega arith) in
    let below : (j : ℕ) → j < n → f j ≤ g j = λ j lj. h j (omega arith) in
    let rest : total_below f n ≤ total_below g n = total_below-mono f g n below in
    elim (cases_lt k n) [
      | inl lt ↦ total_below-tight f g n below (omega arith) k lt
      | inr ge ↦ (let same : k ≡ n = omega arith in rw same (omega arith))
    ]

-- a sum of sums of two terms
pub total_below-add : (f g : ℕ → ℕ) (n : ℕ) → total_below (λ k. f k + g k) n ≡ total_below f n + total_below g n
total_below-add f g zero = refl
total_below-add f g (suc n) = omega (arith, total_below-add f g n)

-- a sum of zeros is 0
pub total_below-zero : (n : ℕ) → total_below (λ k. 0) n ≡ 0
total_below-zero zero = refl
total_below-zero (suc n) = omega (arith, total_below-zero n)

-- two sums may change places
pub total_below-swap : (f : ℕ → ℕ → ℕ) (n k : ℕ) → total_below (λ p. total_below (f p) n) k ≡ total_below (λ a. total_below (λ p. f p a) k) n
total_below-swap f n zero = sym (total_below-zero n)
total_below-swap f n (suc k) =
    omega (arith, total_below-swap f n k, total_below-add (f k) (λ a. total_below (λ p. f p a) k) n)

-- the first term of a sum taken out
pub total_below-front : (f : ℕ → ℕ) (n : ℕ) → total_below f (suc n) ≡ f 0 + total_below (λ k. f (suc k)) n
total_below-front f zero = omega arith
total_below-front f (suc n) = omega (arith, total_below-front f n)

-- a larger set has at least as many members
pub count_below-mono : (s t : Set) (n : ℕ) → ((a : ℕ) → a < n → IsTrue (s a) → IsTrue (t a)) → count_below s n ≤ count_below t n
count_below-mono s t n h = total_below-mono (one_in s) (one_in t) n (λ a l. one_in-mono s t a (h a l))

-- sets with the same members below n have the same number of them
pub count_below-same : (s t : Set) (n : ℕ) → ((a : ℕ) → a < n → s a ≡ t a) → count_below s n ≡ count_below t n
count_below-same s t n h = total_below-same (one_in s) (one_in t) n (λ a l. ap (λ (x : Bool). if x then 1 else 0) (h a l))

-- a larger set that has no more members is the same set
pub count_below-tight : (s t : Set) (n : ℕ) → ((a : ℕ) → a < n → IsTrue (s a) → IsTrue (t a)) → count_below t n ≤ count_below s n → (a : ℕ) → a < n → s a ≡ t a
count_below-tight s t n h c a l =
    same_members s t a (total_below-tight (one_in s) (one_in t) n (λ k lk. one_in-mono s t k (h k lk)) c a l)

-- as many as two sets have that share nobody, their union has
pub count_below-or : (s t : Set) (n : ℕ) → ((a : ℕ) → IsTrue (s a) → IsFalse (t a)) → count_below (λ a. s a || t a) n ≡ count_below s n + count_below t n
count_below-or s t zero h = refl
count_below-or s t (suc n) h = omega (arith, count_below-or s t n h, one_in-or s t n (h n))

-- the set with one number has one member
pub count_below-one : (x n : ℕ) → count_below (λ a. x == a) n ≡ (if nat_lt x n then 1 else 0)
count_below-one x zero = grind (arith, nat_tests)
count_below-one x (suc n) = grind (arith, nat_tests, count_below-one x n)

-- a set with no member below n
pub count_below-none : (s : Set) (n : ℕ) → ((a : ℕ) → IsFalse (s a)) → count_below s n ≡ 0
count_below-none s n h = total_below-same (one_in s) (λ a. 0) n (λ a l. ap (λ (x : Bool). if x then 1 else 0) (h a)) ∙ total_below-zero n
