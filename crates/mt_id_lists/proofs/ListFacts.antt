-- Lists held one after another, flags by stamps, and writes to lists.
use Rattle.std.proofs.Common.{◌≡◌, ◌≢◌, ◌==◌, set, ℕ, zero, suc, ◌<◌, Bool, true, false, List, [], ◌∷◌, ◌++◌, length, get_or, refl, ap, sym, ◌∙◌, arith, if◌then◌else◌}
use Rattle.std.proofs.lemmas.Bool.Decides.{nat_tests}
use Rattle.std.proofs.lemmas.List.{append-nil, append_assoc, get_or-set_same, get_or-set_other}
use Rattle.mt_flat.specs.FlatLists.{with_last}
use Rattle.mt_flat.proofs.FlatListsFacts.{with_last-append}
use Rattle.mt_id_lists.specs.Met.{flags_of, IsNoneMet}
use Rattle.mt_id_lists.specs.Reading.{with_more}

-- lists held one after another
module _ {X : Type 0} where
  pub length-with_last : (lists : List (List X)) (x : X) → length (with_last lists x) ≡ length lists
  length-with_last [] x = refl
  length-with_last (f ∷ []) x = refl
  length-with_last (f ∷ g ∷ rest) x = ap suc (length-with_last (g ∷ rest) x)

  with_more-push : (front : List (List X)) (ys xs : List X) → with_more (front ++ ys ∷ []) xs ≡ front ++ (ys ++ xs) ∷ []
  with_more-push front ys [] = ap (λ l. front ++ l ∷ []) (sym (append-nil ys))
  with_more-push front ys (x ∷ xs) =
      ap (λ l. with_more l xs) (with_last-append front ys x)
      ∙ with_more-push front (ys ++ x ∷ []) xs
      ∙ ap (λ l. front ++ l ∷ []) (append_assoc ys (x ∷ []) xs)

  -- a list that was begun, with all its elements
  pub with_more-begun : (front : List (List X)) (xs : List X) → with_more (front ++ [] ∷ []) xs ≡ front ++ xs ∷ []
  with_more-begun front xs = with_more-push front [] xs

-- what a list has at each place after a write
pub get_or-set : {X : Type 0} (xs : List X) (i k : ℕ) (x d : X) → i < length xs → get_or (set xs i x) k d ≡ (if i == k then x else get_or xs k d)
get_or-set xs i k x d h = by (i == k) refl
  where
    by : (b : Bool) → (i == k) ≡ b → get_or (set xs i x) k d ≡ (if b then x else get_or xs k d)
    by true e = let s : i ≡ k = grind (arith, nat_tests) in rw (← s) (get_or-set_same xs i x d h)
    by false e = let n : k ≢ i = λ s. by_false s e in get_or-set_other xs i k x d n
      where
        by_false : k ≡ i → (i == k) ≡ false → ⊥
        by_false s f = grind (arith, nat_tests)

-- no id has a stamp that is above all of them
pub none_has : (n : ℕ) (stamps : List ℕ) → ((i : ℕ) → i < length stamps → get_or stamps i 0 < n) → IsNoneMet (flags_of n stamps)
none_has n [] below i h = absurd (omega arith)
none_has n (s ∷ ss) below zero h = other (below 0 (omega arith))
  where
    other : s < n → (s == n) ≡ false
    other l = grind (arith, nat_tests)
none_has n (s ∷ ss) below (suc i) h = none_has n ss (λ j k. below (suc j) (omega (arith, k))) i (omega (arith, h))

-- an id that gets the stamp
pub flags_set : (stamp : ℕ) (stamps : List ℕ) (k : ℕ) → flags_of stamp (set stamps k stamp) ≡ set (flags_of stamp stamps) k true
flags_set stamp [] k = refl
flags_set stamp (s ∷ ss) zero = ap (λ (b : Bool). b ∷ flags_of stamp ss) same
  where
    same : (stamp == stamp) ≡ true
    same = grind (arith, nat_tests)
flags_set stamp (s ∷ ss) (suc k) = ap (λ (l : List Bool). (s == stamp) ∷ l) (flags_set stamp ss k)
