-- A loop that writes what passes a test: one element more, a writer that fails, and room to count what comes next.
use Rattle.std.proofs.Common.{◌≡◌, ℕ, ◌+◌, ◌<◌, ◌≤◌, ◌^◌, Bool, List, [], ◌∷◌, ◌++◌, map, filter, take, drop, length, get_or, Option, refl, sym, ap, ◌∙◌, subst, arith}
use Rattle.std.specs.List.{flat_map}
use Rattle.std.proofs.lemmas.Grind.{flat_map-append}
use Rattle.std.proofs.lemmas.List.{append-nil, drop_more, take-append-drop, take_all, take_more}
use Rattle.std.proofs.lemmas.List.FromFn.{get_or-range_with_len}
use Rattle.mt_terms.specs.Lists.{below}
use Rattle.mt_terms.specs.Market.{Registered}
use Rattle.mt_order_laws.proofs.OrderLists.{length_below}
use Rattle.mt_report.specs.declared.drain.Drain.{Drain}
use Rattle.mt_first_finding.specs.declared.finding.Finding.{Finding}
use Rattle.mt_findings.specs.Writing.{Failed, Wrote, if_so}
use Rattle.mt_findings.specs.declared.lines.FindingLines.{FindingLines}
use Rattle.mt_findings.proofs.ListFacts.{passing_around, passing_more}
use Rattle.mt_findings.proofs.WritingFacts.{failed_as, failed_within, room_for, wrote_as, wrote_then}

-- a list up to an element, with it, and after it
take_next : {X : Type 0} (xs : List X) (i : ℕ) (x : X) → i < length xs → x ≡ get_or xs i x → take i xs ++ x ∷ [] ≡ take (i + 1) xs
take_next {X} xs i x within is = ap (λ (y : X). take i xs ++ y ∷ []) is ∙ sym (take_more xs i x within)

around : {X : Type 0} (xs : List X) (i : ℕ) (x : X) → i < length xs → x ≡ get_or xs i x → take i xs ++ x ∷ drop (i + 1) xs ≡ xs
around {X} xs i x within is =
    ap (λ (y : X). take i xs ++ y ∷ drop (i + 1) xs) is ∙ ap (λ (ys : List X). take i xs ++ ys) (sym (drop_more xs i x within)) ∙ take-append-drop i xs

module _ {X : Type 0} (f : X → Finding) (test : X → Bool) (us : List X) (x : X) (is_so : Bool) (same : is_so ≡ test x) where
  next_is : map f (filter test us) ++ if_so is_so (f x) ≡ map f (filter test (us ++ x ∷ []))
  next_is = ap (λ (b : Bool). map f (filter test us) ++ if_so b (f x)) same ∙ passing_more f test us x

  all_are : (vs : List X) → map f (filter test us) ++ (if_so is_so (f x) ++ map f (filter test vs)) ≡ map f (filter test (us ++ x ∷ vs))
  all_are vs = ap (λ (b : Bool). map f (filter test us) ++ (if_so b (f x) ++ map f (filter test vs))) same ∙ passing_around f test us x vs

-- a number below n stands at its place
pub below_place : (n i : ℕ) → i < n → (i < length (below n)) × (i ≡ get_or (below n) i i)
below_place n i within = (omega (arith, length_below n), omega (arith, get_or-range_with_len 0 n i i within))

-- all numbers below n were taken
pub below_taken : (n i : ℕ) → n ≤ i → take i (below n) ≡ below n
below_taken n i past = take_all i (below n) (omega (arith, length_below n))

-- Below, what passes a test is looked for in a list.
module _ {X : Type 0} (f : X → Finding) (test : X → Bool) (xs : List X) (i : ℕ) (x : X) (is_so : Bool) (same : is_so ≡ test x) (within : i < length xs) (is : x ≡ get_or xs i x) where
  list_is : map f (filter test (take i xs)) ++ (if_so is_so (f x) ++ map f (filter test (drop (i + 1) xs))) ≡ map f (filter test xs)
  list_is = all_are f test (take i xs) x is_so same (drop (i + 1) xs) ∙ ap (λ (ys : List X). map f (filter test ys)) (around xs i x within is)

  pub room_in : (count start : ℕ) → count ≡ start + length (map f (filter test (take i xs))) → start + length (map f (filter test xs)) < 2 ^ 64
      → count + length (if_so is_so (f x)) < 2 ^ 64
  room_in count start counted few =
      room_for count start (map f (filter test (take i xs))) (if_so is_so (f x)) (map f (filter test (drop (i + 1) xs))) (map f (filter test xs)) counted list_is few

  module _ {W : Type 0} (contents : W → Option (List ℕ)) (r q : Registered) (market : q ≡ r) (d e g : Drain W) (a b c : FindingLines)
      (first : Wrote contents r d e a b (map f (filter test (take i xs)))) where
    pub wrote_in : Wrote contents q e g b c (if_so is_so (f x)) → Wrote contents r d g a c (map f (filter test (take (i + 1) xs)))
    wrote_in next =
        subst (Wrote contents r d g a c) (next_is f test (take i xs) x is_so same ∙ ap (λ (ys : List X). map f (filter test ys)) (take_next xs i x within is))
        (wrote_then contents r d e g a b c (map f (filter test (take i xs))) (if_so is_so (f x)) first
        (wrote_as contents q r market e g b c (if_so is_so (f x)) (if_so is_so (f x)) refl next))

    pub failed_in : Failed contents q e g b c (if_so is_so (f x)) → Failed contents r d g a c (map f (filter test xs))
    failed_in failed =
        failed_within contents r d e g a b c (map f (filter test (take i xs))) (if_so is_so (f x)) (map f (filter test (drop (i + 1) xs))) (map f (filter test xs)) first
        (failed_as contents q r market e g b c (if_so is_so (f x)) (if_so is_so (f x)) refl failed) list_is

-- Below, each element of a list gives findings.
module _ {X : Type 0} (f : X → List Finding) (xs : List X) (i : ℕ) (x : X) (within : i < length xs) (is : x ≡ get_or xs i x) where
  given_is : flat_map f (take i xs) ++ (f x ++ flat_map f (drop (i + 1) xs)) ≡ flat_map f xs
  given_is = sym (flat_map-append f (take i xs) (x ∷ drop (i + 1) xs)) ∙ ap (flat_map f) (around xs i x within is)

  pub room_given : (count start : ℕ) → count ≡ start + length (flat_map f (take i xs)) → start + length (flat_map f xs) < 2 ^ 64 → count + length (f x) < 2 ^ 64
  room_given count start counted few = room_for count start (flat_map f (take i xs)) (f x) (flat_map f (drop (i + 1) xs)) (flat_map f xs) counted given_is few

  module _ {W : Type 0} (contents : W → Option (List ℕ)) (r : Registered) (d e g : Drain W) (a b c : FindingLines)
      (first : Wrote contents r d e a b (flat_map f (take i xs))) where
    pub wrote_given : Wrote contents r e g b c (f x) → Wrote contents r d g a c (flat_map f (take (i + 1) xs))
    wrote_given next =
        subst (Wrote contents r d g a c)
        (ap (λ (found : List Finding). flat_map f (take i xs) ++ found) (sym (append-nil (f x))) ∙ sym (flat_map-append f (take i xs) (x ∷ []))
        ∙ ap (flat_map f) (take_next xs i x within is))
        (wrote_then contents r d e g a b c (flat_map f (take i xs)) (f x) first next)

    pub failed_given : Failed contents r e g b c (f x) → Failed contents r d g a c (flat_map f xs)
    failed_given failed = failed_within contents r d e g a b c (flat_map f (take i xs)) (f x) (flat_map f (drop (i + 1) xs)) (flat_map f xs) first failed given_is
