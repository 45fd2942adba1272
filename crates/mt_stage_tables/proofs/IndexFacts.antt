-- Which pairs of couples are indexed once an entry is added, or goes on.
use Rattle.std.proofs.Common.{◌≡◌, ◌∙◌, ℕ, zero, suc, ◌+◌, ◌<◌, ◌≤◌, Bool, true, ◌&&◌, ◌||◌, ◌==◌, nat_le, List, [], ◌∷◌, ◌++◌, length, get_or, slice_set, min, max, ◌⊎◌, refl, ap, sym, inl, inr, arith}
use Rattle.std.proofs.lemmas.Bool.{and_from, or_cases, or_left, or_right, eq-eqb, eqb-true, false≢true}
use Rattle.std.proofs.lemmas.Bool.Decides.{nat_tests}
use Rattle.std.proofs.lemmas.List.Folds.{list_any-append}
use Rattle.std.specs.List.{list_any}
use Rattle.std.proofs.Math.Bool.{or-false}
use Rattle.mt_stage_tables.specs.Indexing.{end_of, greatest, is_before, is_indexed, names_pair, AddsPair}
use Rattle.mt_stage_tables.specs.declared.couple_list.NamedPairs.{NamedPairs}

-- an index that is before an end, and within this many, is before the end among these
pub before_end : (i until many : ℕ) → is_before i until ≡ true → i < many → i < end_of until many
before_end i until many before within = grind (arith, nat_tests, before, within)

-- which isn't after them
pub end_within : (until many : ℕ) → end_of until many ≤ many
end_within until many = grind (arith, nat_tests)

-- an entry more
pub indexed_more : (named : List NamedPairs) (n : NamedPairs) (c i : ℕ) → is_indexed (named ++ n ∷ []) c i ≡ (is_indexed named c i || names_pair c i n)
indexed_more named n c i = list_any-append (names_pair c i) named (n ∷ []) ∙ ap (λ (b : Bool). is_indexed named c i || b) (or-false (names_pair c i n))

-- an entry that takes the place of another
any_set : {X : Type 0} (test : X → Bool) (xs : List X) (j : ℕ) (x new : X) → x ≡ get_or xs j x → (test x ≡ true → test new ≡ true) → list_any test xs ≡ true
    → list_any test (slice_set xs j new) ≡ true
any_set test [] j x new read goes on = absurd (false≢true on)
any_set test (y ∷ ys) zero x new read goes on = elim (or_cases (test y) (list_any test ys) on) [
  | inl here ↦ or_left (test new) _ (goes (ap test read ∙ here))
  | inr later ↦ or_right (test new) _ later
]
any_set test (y ∷ ys) (suc j) x new read goes on = elim (or_cases (test y) (list_any test ys) on) [
  | inl here ↦ or_left (test y) _ here
  | inr later ↦ or_right (test y) _ (any_set test ys j x new read goes later)
]

any_set_here : {X : Type 0} (test : X → Bool) (xs : List X) (j : ℕ) (new : X) → j < length xs → test new ≡ true → list_any test (slice_set xs j new) ≡ true
any_set_here test [] j new within passes = absurd (omega arith)
any_set_here test (y ∷ ys) zero new within passes = or_left (test new) _ passes
any_set_here test (y ∷ ys) (suc j) new within passes = or_right (test y) _ (any_set_here test ys j new (omega arith) passes)

any_set_only : {X : Type 0} (test : X → Bool) (xs : List X) (j : ℕ) (new : X) → list_any test (slice_set xs j new) ≡ true
    → (list_any test xs ≡ true) ⊎ (test new ≡ true)
any_set_only test [] j new on = inl on
any_set_only test (y ∷ ys) zero new on = elim (or_cases (test new) (list_any test ys) on) [
  | inl here ↦ inr here
  | inr later ↦ inl (or_right (test y) _ later)
]
any_set_only test (y ∷ ys) (suc j) new on = elim (or_cases (test y) (list_any test (slice_set ys j new)) on) [
  | inl here ↦ inl (or_left (test y) _ here)
  | inr later ↦ elim (any_set_only test ys j new later) [
    | inl there ↦ inl (or_right (test y) _ there)
    | inr here ↦ inr here
  ]
]

-- an entry that goes on to a later pair of its couple
pub named_extended : (named : List NamedPairs) (j from : ℕ) (n new : NamedPairs) → j < length named → n ≡ get_or named j n → n.from ≤ from → new.couple ≡ n.couple → new.from ≡ n.from
    → new.until ≡ max n.until (min (from + 1) greatest) → AddsPair named (slice_set named j new) n.couple from
named_extended named j from n new within read low couple same ends = record {
  keeps = λ d i on. any_set (names_pair d i) named j n new read (stays d i) on;
  adds = λ i here. any_set_here (names_pair n.couple i) named j new within (and_from _ _ (ap (λ c. c == n.couple) couple ∙ eq-eqb n.couple n.couple refl) (stands i here));
  only = λ d on. elim (any_set_only (λ (x : NamedPairs). x.couple == d) named j new on) [
    | inl before ↦ inl before
    | inr now ↦ inr (sym couple ∙ eqb-true new.couple d now)
  ];
}
  where
    stays : (d i : ℕ) → names_pair d i n ≡ true → names_pair d i new ≡ true
    stays d i on = grind (arith, nat_tests, on, couple, same, ends)

    stands : (i : ℕ) → min i greatest ≡ from → (nat_le new.from i && is_before i new.until) ≡ true
    stands i here = grind (arith, nat_tests, here, low, same, ends)
