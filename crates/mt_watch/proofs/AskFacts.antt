-- What threads answer that ask at each number below one.
use Rattle.std.proofs.Common.{◌≡◌, ℕ, ◌-◌, Bool, true, false, not, List, [], ◌∷◌, Option, is_some, refl, ap, ◌∙◌, inl, inr, arith}
use Rattle.std.specs.Borrow.{Bor}
use Rattle.std.specs.List.{AllZip, find, list_all, range_with_len, slice_get}
use Rattle.std.proofs.lemmas.Bool.{cases_Bool}
use Rattle.rayon.proofs.ToStd.{answers-by_ref, filter_by_mask-find}
use Rattle.rayon.specs.Lists.{filter_by_mask}
use Rattle.rayon.specs.Numbers.{nat_range}
use Rattle.mt_terms.specs.Lists.{below}

-- if nothing is found, all fail
none_found : (test pass : ℕ → Bool) → ((a : ℕ) → test a ≡ not (pass a)) → (xs : List ℕ) → not (is_some (find test xs)) ≡ list_all pass xs
none_found test pass are [] = refl
none_found test pass are (x ∷ xs) = elim (cases_Bool (pass x)) [
  | inl passes ↦ let fails : test x ≡ false = are x ∙ ap not passes in rw (fails, passes) (none_found test pass are xs)
  | inr not_it ↦ let here : test x ≡ true = are x ∙ ap not not_it in rw (here, not_it) refl
]

-- they find nothing if all fail
pub none_found_by_threads : (test pass : ℕ → Bool) → ((a : ℕ) → test a ≡ not (pass a)) → (start end n : ℕ) (xs : List ℕ) (answers : List Bool) (r : Option ℕ) → start ≡ 0 → end ≡ n
    → xs ≡ nat_range start end → AllZip (λ x b. (p : Bor ℕ) × (p.now ≡ x) × (b ≡ test p.now)) xs answers → r ≡ slice_get (filter_by_mask xs answers) 0
    → not (is_some r) ≡ list_all pass (below n)
none_found_by_threads test pass opposite start end n xs answers r from to are each is =
    let whole : end - start ≡ n = omega arith in
    let found : r ≡ find test (below n) =
    is ∙ filter_by_mask-find test xs answers (answers-by_ref test xs answers each)
    ∙ ap (find test) (are ∙ ap (λ a. range_with_len a (end - start)) from ∙ ap (range_with_len 0) whole) in
    ap (λ o. not (is_some o)) found ∙ none_found test pass opposite (below n)
