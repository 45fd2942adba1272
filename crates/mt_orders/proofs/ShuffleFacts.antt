-- A shuffle step by step, and the order of a number.
use Rattle.std.proofs.Common.{◌≡◌, ◌≢◌, ℕ, suc, ◌+◌, ◌-◌, ◌<◌, ◌%◌, false, ◌==◌, List, [], ◌++◌, length, drop, take, refl, ap, ap₂, sym, ◌∙◌, arith, subst, ne_eqb}
use Rattle.std.specs.List.{swap}
use Rattle.std.proofs.lemmas.List.{append-nil, drop_all, take_all}
use Rattle.rand_pcg.specs.Lcg.{Lcg}
use Rattle.rand_pcg.specs.Pcg.{pcg32}
use Rattle.mt_terms.specs.Lists.{below}
use Rattle.mt_order_laws.specs.Orders.{generator_of, order_of, shuffled}
use Rattle.mt_order_laws.proofs.OrderLists.{length_below}

shuffle_at : (k i : ℕ) (g : Lcg) (xs : List ℕ) → k ≡ suc i → shuffled k g xs ≡ shuffled (k - 1) (pcg32 g).1 (swap xs k ((pcg32 g).0 % (k + 1)))
shuffle_at k i g xs is =
    subst (λ j. shuffled j g xs ≡ shuffled (j - 1) (pcg32 g).1 (swap xs j ((pcg32 g).0 % (j + 1)))) (sym is)
    (let e : suc i - 1 ≡ i = omega arith in rw e refl)

-- one step: the element at a place changes places with the one that the next word chooses
pub shuffle_step : (last word : ℕ) (g next : Lcg) (xs ys : List ℕ) → 1 < last → ◌≡◌ {A = ℕ × Lcg} (word, next) (pcg32 g)
    → ys ≡ swap xs (last - 1) (word % (last - 1 + 1)) → shuffled (last - 1) g xs ≡ shuffled (last - 1 - 1) next ys
shuffle_step last word g next xs ys l drawn swapped =
    shuffle_at (last - 1) (last - 2) g xs (omega arith)
    ∙ ap₂ (λ (p : ℕ × Lcg) zs. shuffled (last - 1 - 1) p.1 zs) (sym drawn)
    (ap (λ (p : ℕ × Lcg). swap xs (last - 1) (p.0 % (last - 1 + 1))) (sym drawn) ∙ sym swapped)

-- with one place nothing is left to do
pub shuffle_end : (k : ℕ) (g : Lcg) (xs : List ℕ) → k ≡ 0 → shuffled k g xs ≡ xs
shuffle_end k g xs is = ap (λ j. shuffled j g xs) is

-- the shuffle of the order of registration, which is written back, is the order of the number
pub shuffle_is : (number n : ℕ) (items before after : List ℕ) (len : ℕ) → number ≢ 1 → items ≡ below n → before ≡ items
    → after ≡ shuffled (length before - 1) (generator_of number) before → length after ≡ length before → len ≡ length items
    → take len (after ++ drop (length after) items) ≡ order_of number n
shuffle_is number n items before after len other is same shuffles long size =
    let no : (number == 1) ≡ false = ne_eqb number 1 other in
    let none : drop (length after) items ≡ [] = drop_all (length after) items (omega (arith, ap length same)) in
    let whole : take len (after ++ drop (length after) items) ≡ after = rw (none, append-nil) (take_all len after (omega (arith, ap length same))) in
    let registered : before ≡ below n = same ∙ is in
    rw no (whole ∙ shuffles ∙ ap (λ xs. shuffled (length xs - 1) (generator_of number) xs) registered
    ∙ ap (λ k. shuffled (k - 1) (generator_of number) (below n)) (length_below n))
