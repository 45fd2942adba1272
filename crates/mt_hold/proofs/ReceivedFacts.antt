-- What a holding has received, by the applicants on its program's list: the rank at which one is found tells whether it
-- was received, and a proposal from a rank adds the applicant that is found there.
use Rattle.std.proofs.Common.{◌≡◌, ◌==◌, ◌||◌, ℕ, zero, suc, ◌+◌, ◌<◌, List, [], ◌∷◌, true, false, Option, Some, None, IsTrue, length, get_or, refl, sym, ap, ◌∙◌, inl, inr, arith, eqb, eq-eqb, ne_eqb, get_or-set_same, get_or-set_other}
use Rattle.std.specs.List.{position, position_from}
use Rattle.std.specs.Option.{option_map_or}
use Rattle.std.proofs.lemmas.Bool.{cases_eq, eqb-true}
use Rattle.std.proofs.lemmas.Iterator.Adapters.{position_from-zero}
use Rattle.std.proofs.lemmas.List.Quantifiers.{position-Some}
use Rattle.mt_terms.specs.Lists.{is_distinct}
use Rattle.mt_terms.specs.Market.{Program}
use Rattle.mt_terms.proofs.ListFacts.{head_differs, tail_distinct}
use Rattle.mt_hold.specs.Holding.{Holding, ranks, has_received, receive, received_from}
use Rattle.mt_hold.specs.Laws.{IsHoldingOf}

-- the rank at which an applicant is found is on the list, and has the applicant
pub ranked_within : (xs : List ℕ) (a r : ℕ) → position (λ x. x == a) xs ≡ Some r → r < length xs
ranked_within xs a r found = (position-Some (λ x. eqb x a) xs r 0 found).0

pub ranked_there : (xs : List ℕ) (a r : ℕ) → position (λ x. x == a) xs ≡ Some r → get_or xs r 0 ≡ a
ranked_there xs a r found = eqb-true (get_or xs r 0) a (position-Some (λ x. eqb x a) xs r 0 found).1

-- on a list without repeats each applicant is found at its rank
ranked_from : (i : ℕ) (xs : List ℕ) (k : ℕ) → IsTrue (is_distinct xs) → k < length xs → position_from (λ x. eqb x (get_or xs k 0)) i xs ≡ Some (i + k)
ranked_from i [] k d low = absurd (omega arith)
ranked_from i (x ∷ xs) zero d low = rw (eq-eqb x x refl) (ap (λ n. Some n) (omega arith))
ranked_from i (x ∷ xs) (suc k) d low =
    rw (ne_eqb x (get_or xs k 0) (head_differs x xs k d (omega arith)))
    (ranked_from (i + 1) xs k (tail_distinct x xs d) (omega arith) ∙ ap (λ n. Some n) (omega arith))

pub ranked_at : (xs : List ℕ) (k : ℕ) → IsTrue (is_distinct xs) → k < length xs → position (λ x. x == get_or xs k 0) xs ≡ Some k
ranked_at xs k d low = position_from-zero (λ x. eqb x (get_or xs k 0)) xs ∙ ranked_from 0 xs k d low ∙ ap (λ n. Some n) (omega arith)

-- a holding with the program's quota and a rank for each on its list is that of whom it has received
pub holding_of_received : (p : Program) (h : Holding) → IsTrue (is_distinct p.ranking) → h.quota ≡ p.quota → ranks h ≡ length p.ranking → IsHoldingOf p (received_from p h) h
holding_of_received p h d quota listed = record {
  quota = quota;
  listed = listed;
  received = λ k low. sym (ap (λ r. option_map_or (has_received h) r false) (ranked_at p.ranking k d low));
}

-- a rank is received if and only if the applicant that has it is
pub received_at_rank : (p : Program) (h : Holding) (a r : ℕ) → position (λ x. x == a) p.ranking ≡ Some r → received_from p h a ≡ has_received h r
received_at_rank p h a r found = ap (λ o. option_map_or (has_received h) o false) found

-- a proposal from a rank adds the applicant that has it to those received, and no other
pub received_more : (p : Program) (h : Holding) (a r : ℕ) → r < ranks h → position (λ x. x == a) p.ranking ≡ Some r
    → (b : ℕ) → received_from p (receive h r) b ≡ ((b == a) || received_from p h b)
received_more p h a r within found b = by_rank (position (λ x. x == b) p.ranking) refl
  where
    by_rank : (o : Option ℕ) → position (λ x. x == b) p.ranking ≡ o → option_map_or (has_received (receive h r)) o false ≡ ((b == a) || option_map_or (has_received h) o false)
    by_rank None e = rw (ne_eqb b a (λ same. none_some (sym e ∙ ap (λ x. position (λ y. y == x) p.ranking) same ∙ found))) refl
      where
        none_some : None ≡ Some r → ⊥
        none_some f = cc
    by_rank (Some k) e =
        let there = ranked_there p.ranking b k e in
        elim (cases_eq k r) [
          | inl same ↦
              let is_a : b ≡ a = sym there ∙ ap (λ n. get_or p.ranking n 0) same ∙ ranked_there p.ranking a r found in
              rw (same, get_or-set_same h.received r true false within, eq-eqb b a is_a) refl
          | inr other ↦
              rw (get_or-set_other h.received r k true false other, ne_eqb b a (λ is_a. other (some_inj (sym e ∙ ap (λ x. position (λ y. y == x) p.ranking) is_a ∙ found)))) refl
        ]
      where
        some_inj : {x y : ℕ} → Some x ≡ Some y → x ≡ y
        some_inj f = cc
