-- What is opened keeps what it is to keep.
use Rattle.std.proofs.Common.{◌≡◌, ℕ, zero, suc, ◌+◌, false, List, [], ◌∷◌, ◌++◌, map, length, sum, replicate, take, IsTrue, refl, sym, ap, ◌∙◌, arith, add-one}
use Rattle.std.specs.List.{range_with_len}
use Rattle.std.proofs.lemmas.Bool.{false≢true}
use Rattle.std.proofs.lemmas.List.{length-replicate}
use Rattle.std.proofs.lemmas.List.Sums.{sum_by_push}
use Rattle.mt_terms.specs.Lists.{below, has, total_below}
use Rattle.mt_terms.specs.Market.{Market, applicants, live}
use Rattle.mt_terms.proofs.BelowFacts.{map-below_more}
use Rattle.mt_desks.specs.Parts.{IsDesk, IsPass}
use Rattle.mt_desks.specs.Openings.{unused_pass}

-- how many live entries each applicant below a number has
abbrev pub live_counts : Market → ℕ → List ℕ
live_counts m n = map (λ a. length (live m a)) (below n)

-- the sum of a list of a function's values is the function's total
pub sum_map_below : (f : ℕ → ℕ) (n : ℕ) → sum (map f (below n)) ≡ total_below f n
sum_map_below f zero = refl
sum_map_below f (suc n) =
    let more : map f (below (suc n)) ≡ map f (below n) ++ f n ∷ [] = ap (λ k. map f (below k)) (sym (add-one n)) ∙ map-below_more f n in
    omega (arith, ap sum more, sum_by_push (λ x. x) (map f (below n)) (f n), sum_map_below f n)

-- the desk of an applicant that has made no proposal, with a credit for each live entry
pub desk_opens : (m : Market) (a credits : ℕ) → credits ≡ length (live m a) → IsDesk m (record { applicant = a; made = 0; standing = false; credits = credits })
desk_opens m a credits e = record {
  left = omega (arith, e);
  row = record {
    within = omega arith;
    proposed = λ h. absurd (false≢true h);
    passed_excluded = λ p h. absurd (no_more (live m a) p h);
  };
}
  where
    no_more : (xs : List ℕ) (p : ℕ) → IsTrue (has (take 0 xs) p) → ⊥
    no_more xs p h = false≢true h

-- the credits of the next applicant, and of those after it
pub next_credits : (m : Market) (a n k x : ℕ) (xs all : List ℕ) → all ≡ x ∷ xs → all ≡ map (λ b. length (live m b)) (range_with_len a n) → n ≡ k + 1
    → (x ≡ length (live m a)) × (xs ≡ map (λ b. length (live m b)) (range_with_len (a + 1) k))
next_credits m a n k x xs all parts row more =
    let counts : ℕ → ℕ = λ b. length (live m b) in
    let e : x ∷ xs ≡ counts a ∷ map counts (range_with_len (a + 1) k) = sym parts ∙ row ∙ ap (λ j. map counts (range_with_len a j)) (more ∙ add-one k) in
    (cc e, cc e)

sum_zeros : (n : ℕ) → sum (replicate n 0) ≡ 0
sum_zeros zero = refl
sum_zeros (suc n) = sum_zeros n

-- a pass with which no proposal was made
pub pass_opens : (m : Market) → IsPass m (unused_pass m)
pass_opens m = record {
  programs = length-replicate (length m.programs) 0;
  applicants = length-replicate (applicants m) 0;
  to_programs = sum_zeros (length m.programs);
  by_applicants = sum_zeros (applicants m);
}

pub pass_opens_at : (m : Market) (n : ℕ) (ps bs : List ℕ) → n ≡ 0 → (ps ≡ replicate (length m.programs) 0) × (bs ≡ replicate (applicants m) 0)
    → record { proposals = n; by_program = ps; by_applicant = bs } ≡ unused_pass m
pass_opens_at m n ps bs z e = λ i. record { proposals = z i; by_program = e.0 i; by_applicant = e.1 i }
