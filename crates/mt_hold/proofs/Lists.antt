-- Lists without repeats, and what flags by position tell of a set.
use Rattle.std.proofs.Common.{◌≡◌, ◌≢◌, ℕ, zero, suc, ◌+◌, ◌<◌, Bool, true, false, not, cond, List, [], ◌∷◌, length, get_or, eqb, refl, sym, ap, ◌∙◌, inl, inr, arith, IsTrue}
use Rattle.std.proofs.lemmas.Bool.{cases_eq, cases_Bool, or_left, false_from_ne_true, ne_eqb, eq-eqb, and_parts, not-true, false≢true, lt-ltb}
use Rattle.std.proofs.lemmas.List.{get_or-set_same, get_or-set_other, get_or-replicate, length-replicate, length-set}
use Rattle.mt_terms.specs.Lists.{Set, has, above, count, with_one, without, count_below, is_distinct}
use Rattle.mt_terms.specs.Market.{Program}
use Rattle.mt_terms.specs.Choice.{choice}
use Rattle.mt_hold.specs.Holding.{ranks, has_received}
use Rattle.mt_hold.specs.Laws.{HeldIsChoice, OpenedIsEmpty, ReceiveAddsOne, CountIsMembers, CountIsSize}
use Rattle.mt_hold.proofs.Counting.{count_suc, count-with_one_above}
use Rattle.mt_terms.proofs.Totals.{count_below-same, count_below-none}
use Rattle.mt_terms.proofs.ListFacts.{count_agree, has_item, head_differs, tail_distinct, same_position, with_one-other}
use Rattle.mt_hold.proofs.Chosen.{chosen, held-chosen}

-- as many members of a set stand above position k as flags are set before it; the flags begin at j
above-at : (s flags : Set) (xs : List ℕ) (j k : ℕ) → IsTrue (is_distinct xs) → ((i : ℕ) → i < length xs → flags (j + i) ≡ s (get_or xs i 0))
    → k < length xs → count_below flags j + above s xs (get_or xs k 0) ≡ count_below flags (j + k)
above-at s flags [] j k d same h = absurd (omega arith)
above-at s flags (x ∷ xs) j zero d same h = rw (eq-eqb x x refl) (omega (arith, ap (count_below flags) e))
  where
    e : j + 0 ≡ j
    e = omega arith
above-at s flags (x ∷ xs) j (suc k) d same h =
    rw (ne_eqb x (get_or xs k 0) (head_differs x xs k d (omega arith)))
    (omega (arith, above-at s flags xs (j + 1) k (tail_distinct x xs d) later (omega arith), count_suc flags j, ap {B = ℕ} (λ b. cond b 1 0) first, ap (count_below flags) e))
  where
    first : flags j ≡ s x
    first = ap flags (omega arith) ∙ same 0 (omega arith)

    later : (i : ℕ) → i < length xs → flags (j + 1 + i) ≡ s (get_or xs i 0)
    later i l = ap flags (omega arith) ∙ same (suc i) (omega arith)

    e : j + 1 + k ≡ j + suc k
    e = omega arith

-- who stands at a rank is chosen if and only if the rank is
choice-at : (p : Program) (s flags : Set) → IsTrue (is_distinct p.ranking) → ((k : ℕ) → k < length p.ranking → flags k ≡ s (get_or p.ranking k 0))
    → (k : ℕ) → k < length p.ranking → choice p s (get_or p.ranking k 0) ≡ chosen p.quota (length p.ranking) flags k
choice-at p s flags d same k h =
    rw (has_item p.ranking k h, ← same k h, e, lt-ltb k (length p.ranking) h) refl
  where
    shifted : (i : ℕ) → i < length p.ranking → flags (0 + i) ≡ s (get_or p.ranking i 0)
    shifted i l = ap flags (omega arith) ∙ same i l

    at_zero : 0 + k ≡ k
    at_zero = omega arith

    e : above s p.ranking (get_or p.ranking k 0) ≡ count_below flags k
    e = omega (arith, above-at s flags p.ranking 0 k d shifted h, ap (count_below flags) at_zero)

pub held_is_choice : HeldIsChoice
held_is_choice p s h d of rank l =
    held-chosen h (has_received h) (λ k _. refl) rank
    ∙ ap (λ q. chosen q (ranks h) (has_received h) rank) of.quota
    ∙ ap (λ n. chosen p.quota n (has_received h) rank) of.listed
    ∙ sym (choice-at p s (has_received h) d of.received rank l)

pub opened_is_empty : OpenedIsEmpty
opened_is_empty p = record {
  quota = refl;
  listed = length-replicate (length p.ranking) false;
  received = λ k h. get_or-replicate (length p.ranking) k false false h;
}

pub receive_adds_one : ReceiveAddsOne
receive_adds_one p s h d of rank l = record {
  quota = of.quota;
  listed = length-set h.received rank true ∙ of.listed;
  received = λ k in_list. elim (cases_eq k rank) [
    | inl e ↦ rw (e, get_or-set_same h.received rank true false (omega (arith, of.listed)), eq-eqb (get_or p.ranking rank 0) (get_or p.ranking rank 0) refl) refl
    | inr ne ↦
        rw (
          get_or-set_other h.received rank k true false ne,
          ne_eqb (get_or p.ranking k 0) (get_or p.ranking rank 0) (λ same. ne (same_position p.ranking k rank d in_list l same)),
        )
        (of.received k in_list)
  ];
}

count-members : (s : Set) (xs : List ℕ) (flags : List Bool) → length flags ≡ length xs → ((k : ℕ) → k < length xs → get_or flags k false ≡ s (get_or xs k 0))
    → count (λ b. b) flags ≡ count s xs
count-members s [] [] len same = refl
count-members s [] (b ∷ flags) len same = absurd (omega arith)
count-members s (x ∷ xs) [] len same = absurd (omega arith)
count-members s (x ∷ xs) (b ∷ flags) len same =
    rw (same 0 (omega arith), count-members s xs flags (omega arith) (λ k h. same (suc k) (omega arith))) refl

pub count_is_members : CountIsMembers
count_is_members p s h of = count-members s p.ranking h.received of.listed of.received

-- a set without one of its members
out_of_without : (s : Set) (x : ℕ) → without s x x ≡ false
out_of_without s x = rw (eq-eqb x x refl) refl

without_other : (s : Set) (x a : ℕ) → a ≢ x → without s x a ≡ s a
without_other s x a ne = rw (ne_eqb a x ne) refl

put_back : (s : Set) (x : ℕ) → s x ≡ true → (a : ℕ) → s a ≡ with_one (without s x) x a
put_back s x member a =
    elim (cases_eq a x) [
      | inl e ↦ ap s e ∙ member ∙ sym (or_left (eqb a x) (without s x a) (eq-eqb a x e))
      | inr ne ↦ sym (with_one-other (without s x) x a ne ∙ without_other s x a ne)
    ]

-- the rest of a list has a member of the list that isn't its head
in_tail : (x : ℕ) (xs : List ℕ) (a : ℕ) → a ≢ x → has (x ∷ xs) a ≡ true → has xs a ≡ true
in_tail x xs a ne h = sym (rw (ne_eqb x a (λ e. ne (sym e))) refl) ∙ h

-- the members of a set that stand on the rest of a list, once its head is taken out
tail_listed : (s : Set) (x : ℕ) (xs : List ℕ) → ((a : ℕ) → s a ≡ true → has (x ∷ xs) a ≡ true) → (a : ℕ) → without s x a ≡ true → (has xs a ≡ true) × (s a ≡ true)
tail_listed s x xs listed a h = (in_tail x xs a differs (listed a member), member)
  where
    differs : a ≢ x
    differs e = false≢true (sym (out_of_without s x) ∙ ap (without s x) (sym e) ∙ h)

    member : s a ≡ true
    member = sym (without_other s x a differs) ∙ h

-- one member more than without the head
count-with_head : (s : Set) (x n : ℕ) (xs : List ℕ) → IsTrue (is_distinct (x ∷ xs)) → s x ≡ true → x < n → count (without s x) xs ≡ count_below (without s x) n
    → cond (s x) 1 0 + count s xs ≡ count_below s n
count-with_head s x n xs d member low others =
    rw member
    (omega (
      arith,
      count_agree s (without s x) xs same,
      others,
      count_below-same s (with_one (without s x) x) n (λ a _. put_back s x member a),
      count-with_one_above (without s x) x n (out_of_without s x) low,
    ))
  where
    apart : (a : ℕ) → has xs a ≡ true → a ≢ x
    apart a h e = false≢true (sym (not-true (has xs x) (and_parts (not (has xs x)) (is_distinct xs) d).0) ∙ ap (has xs) (sym e) ∙ h)

    same : (a : ℕ) → has xs a ≡ true → s a ≡ without s x a
    same a h = sym (without_other s x a (apart a h))

count-listed : (s : Set) (xs : List ℕ) (n : ℕ) → IsTrue (is_distinct xs) → ((a : ℕ) → s a ≡ true → has xs a ≡ true) → ((a : ℕ) → s a ≡ true → a < n) → count s xs ≡ count_below s n
count-listed s [] n d listed low = sym (count_below-none s n (λ a. false_from_ne_true (s a) (λ h. false≢true (listed a h))))
count-listed s (x ∷ xs) n d listed low =
    elim (cases_Bool (s x)) [
      | inl member ↦
          count-with_head s x n xs d member (low x member)
          (count-listed (without s x) xs n (tail_distinct x xs d) (λ a h. (tail_listed s x xs listed a h).0) (λ a h. low a (tail_listed s x xs listed a h).1))
      | inr other ↦
          rw other (omega (arith, count-listed s xs n (tail_distinct x xs d) (λ a h. in_tail x xs a (λ e. false≢true (sym other ∙ ap s (sym e) ∙ h)) (listed a h)) low))
    ]

pub count_is_size : CountIsSize
count_is_size p s h n d of listed low = count_is_members p s h of ∙ count-listed s p.ranking n d listed low
