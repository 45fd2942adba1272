-- Ranks of several lists, as words change.
use Rattle.std.proofs.Common.{◌≡◌, ◌∙◌, ℕ, ◌+◌, ◌/◌, ◌<◌, ◌≤◌, ◌==◌, Bool, true, false, not, ◌&&◌, ◌||◌, List, [], ◌∷◌, ◌++◌, map, length, set, replicate, refl, ap, sym, subst, inl, inr, arith, Result, Ok, Err, OnErr, OnOk}
use Rattle.std.proofs.lemmas.Bool.{cases_eq, cases_lt, eq-eqb, ne_eqb}
use Rattle.std.proofs.lemmas.List.{get_or-map, get_or-set_other, get_or-set_same, get_or_append_left, get_or_past, get_or_push, length-map, length-set, length_push, length-replicate, take_all}
use Rattle.mt_bits.specs.Flags.{flag}
use Rattle.mt_bits.specs.Members.{is_in}
use Rattle.mt_bits.specs.Tables.{told_by, told_of, words_of, AddsList, AddsRank, AreFew, HaveSameFlags, TakesRank}
use Rattle.mt_bits.proofs.BitFacts.{flags_grown, in_flags, no_flags, none_past}
use Rattle.mt_bits.proofs.Flags.{cleared, flag-cleared, flag-marked, marked}
use Rattle.mt_terms.proofs.AgentFacts.{eqb_sym}

-- the bits of a list are those of its words
pub told_at : (rows : List (List ℕ)) (k r : ℕ) → is_in (told_of (map told_by rows) k) r ≡ flag (words_of rows k) r
told_at rows k r = elim (cases_lt k (length rows)) [
  | inl low ↦ ap (λ told. is_in told r) (get_or-map told_by rows k [] [] low) ∙ in_flags (words_of rows k) r
  | inr past ↦
      ap (λ told. is_in told r) (get_or_past (map told_by rows) k [] (omega (arith, length-map rows told_by)))
      ∙ sym (ap (λ words. flag words r) (get_or_past rows k [] past) ∙ no_flags r)
]

-- the words of one list change
pub words_set : (rows : List (List ℕ)) (k : ℕ) (new : List ℕ) (j : ℕ) → k < length rows → (f : List ℕ → Bool) → (f new ≡ f (words_of rows k)) → f (words_of (set rows k new) j) ≡ f (words_of rows j)
words_set rows k new j within f same = elim (cases_eq j k) [
  | inl is ↦ ap (λ i. f (words_of (set rows k new) i)) is ∙ ap f (get_or-set_same rows k new [] within) ∙ same ∙ ap (λ i. f (words_of rows i)) (sym is)
  | inr other ↦ ap f (get_or-set_other rows k j new [] other)
]

pub same_refl : (rows : List (List ℕ)) → HaveSameFlags rows rows
same_refl rows = record { as_many = refl; same = λ k r. refl }

-- a word of zeros more
pub zero_more : (words : List ℕ) (r : ℕ) → flag (words ++ 0 ∷ []) r ≡ flag words r
zero_more words r = ap (λ xs. flag (xs ++ 0 ∷ []) r) (sym (take_all (length words) words (omega arith))) ∙ flags_grown words (length words) 1 (omega arith) r

pub same_more : (old mid : List (List ℕ)) (k : ℕ) → k < length mid → HaveSameFlags old mid → HaveSameFlags old (set mid k (words_of mid k ++ 0 ∷ []))
same_more old mid k within so_far = record {
  as_many = length-set mid k (words_of mid k ++ 0 ∷ []) ∙ so_far.as_many;
  same = λ j r. words_set mid k (words_of mid k ++ 0 ∷ []) j within (λ words. flag words r) (zero_more (words_of mid k) r) ∙ so_far.same j r;
}

pub few_set : (rows : List (List ℕ)) (k : ℕ) (new : List ℕ) → k < length rows → AreFew rows → length new ≤ 67108864 → AreFew (set rows k new)
few_set rows k new within few low j = elim (cases_eq j k) [
  | inl is ↦ subst (λ n. n ≤ 67108864) (sym (ap (λ i. length (words_of (set rows k new) i)) is ∙ ap (λ (xs : List ℕ). length xs) (get_or-set_same rows k new [] within))) low
  | inr other ↦ subst (λ n. n ≤ 67108864) (sym (ap (λ (xs : List ℕ). length xs) (get_or-set_other rows k j new [] other))) (few j)
]

-- a list more, of which no bit is set
pub few_more : (rows : List (List ℕ)) (new : List ℕ) → AreFew rows → length new ≤ 67108864 → AreFew (rows ++ new ∷ [])
few_more rows new few low j = elim (cases_lt j (length rows)) [
  | inl before ↦ subst (λ n. n ≤ 67108864) (sym (ap (λ (xs : List ℕ). length xs) (get_or_append_left rows (new ∷ []) [] j before))) (few j)
  | inr after ↦ elim (cases_eq j (length rows)) [
    | inl is ↦ subst (λ n. n ≤ 67108864) (sym (ap (λ (xs : List ℕ). length xs) (get_or_push rows new [] j (sym is)))) low
    | inr past ↦ subst (λ n. n ≤ 67108864) (sym (ap (λ (xs : List ℕ). length xs) (get_or_past (rows ++ new ∷ []) j [] (omega (arith, length_push rows new))))) (omega arith)
  ]
]

pub list_more : (rows : List (List ℕ)) (n : ℕ) → AddsList (map told_by rows) (map told_by (rows ++ replicate n 0 ∷ []))
list_more rows n = record {
  as_many = length-map (rows ++ replicate n 0 ∷ []) told_by ∙ length_push rows (replicate n 0) ∙ sym (ap (λ m. m + 1) (length-map rows told_by));
  same = λ k r. told_at (rows ++ replicate n 0 ∷ []) k r ∙ at k r ∙ sym (told_at rows k r);
}
  where
    zeros : (r : ℕ) → flag (replicate n 0) r ≡ false
    zeros r = flags_grown [] 0 n (omega arith) r ∙ no_flags r

    at : (k r : ℕ) → flag (words_of (rows ++ replicate n 0 ∷ []) k) r ≡ flag (words_of rows k) r
    at k r = elim (cases_lt k (length rows)) [
      | inl low ↦ ap (λ words. flag words r) (get_or_append_left rows (replicate n 0 ∷ []) [] k low)
      | inr high ↦ elim (cases_eq k (length rows)) [
        | inl is ↦ ap (λ words. flag words r) (get_or_push rows (replicate n 0) [] k (sym is)) ∙ zeros r ∙ sym (ap (λ words. flag words r) (get_or_past rows k [] high) ∙ no_flags r)
        | inr past ↦ ap (λ words. flag words r) (get_or_past (rows ++ replicate n 0 ∷ []) k [] (omega (arith, length_push rows (replicate n 0))) ∙ sym (get_or_past rows k [] high))
      ]
    ]

-- a bit more, after others that change nothing
pub rank_after : (old mid new : List (List ℕ)) (k rank : ℕ) → HaveSameFlags old mid → AddsRank (map told_by mid) (map told_by new) k rank → AddsRank (map told_by old) (map told_by new) k rank
rank_after old mid new k rank filled adds = record {
  as_many = adds.as_many ∙ length-map mid told_by ∙ filled.as_many ∙ sym (length-map old told_by);
  now = λ j r. adds.now j r ∙ ap (λ (b : Bool). (k == j && rank == r) || b) (told_at mid j r ∙ filled.same j r ∙ sym (told_at old j r));
}

-- a bit more
pub rank_more : (old rows : List (List ℕ)) (k rank : ℕ) → HaveSameFlags old rows → k < length rows → rank / 64 < length (words_of rows k)
    → AddsRank (map told_by old) (map told_by (set rows k (marked (words_of rows k) rank))) k rank
rank_more old rows k rank filled within reaches = record {
  as_many = length-map (set rows k (marked (words_of rows k) rank)) told_by ∙ length-set rows k (marked (words_of rows k) rank) ∙ filled.as_many ∙ sym (length-map old told_by);
  now = λ j r. told_at (set rows k (marked (words_of rows k) rank)) j r ∙ at j r ∙ ap (λ (b : Bool). (k == j && rank == r) || b) (filled.same j r ∙ sym (told_at old j r));
}
  where
    at : (j r : ℕ) → flag (words_of (set rows k (marked (words_of rows k) rank)) j) r ≡ ((k == j && rank == r) || flag (words_of rows j) r)
    at j r = elim (cases_eq j k) [
      | inl is ↦
          ap (λ i. flag (words_of (set rows k (marked (words_of rows k) rank)) i) r) is
          ∙ ap (λ words. flag words r) (get_or-set_same rows k (marked (words_of rows k) rank) [] within)
          ∙ flag-marked (words_of rows k) rank reaches r
          ∙ ap (λ (b : Bool). b || flag (words_of rows k) r) (eqb_sym r rank ∙ sym (ap (λ (b : Bool). b && rank == r) (eq-eqb k j (sym is))))
          ∙ ap (λ i. (k == j && rank == r) || flag (words_of rows i) r) (sym is)
      | inr other ↦
          ap (λ words. flag words r) (get_or-set_other rows k j (marked (words_of rows k) rank) [] other)
          ∙ sym (ap (λ (b : Bool). (b && rank == r) || flag (words_of rows j) r) (ne_eqb k j (λ e. other (sym e))))
    ]

-- a bit less
pub rank_less : (rows : List (List ℕ)) (k rank : ℕ) → k < length rows → rank / 64 < length (words_of rows k)
    → TakesRank (map told_by rows) (map told_by (set rows k (cleared (words_of rows k) rank))) k rank
rank_less rows k rank within reaches = record {
  as_many = length-map (set rows k (cleared (words_of rows k) rank)) told_by ∙ length-set rows k (cleared (words_of rows k) rank) ∙ sym (length-map rows told_by);
  now = λ j r. told_at (set rows k (cleared (words_of rows k) rank)) j r ∙ at j r ∙ ap (λ (b : Bool). not (k == j && rank == r) && b) (sym (told_at rows j r));
}
  where
    at : (j r : ℕ) → flag (words_of (set rows k (cleared (words_of rows k) rank)) j) r ≡ (not (k == j && rank == r) && flag (words_of rows j) r)
    at j r = elim (cases_eq j k) [
      | inl is ↦
          ap (λ i. flag (words_of (set rows k (cleared (words_of rows k) rank)) i) r) is
          ∙ ap (λ words. flag words r) (get_or-set_same rows k (cleared (words_of rows k) rank) [] within)
          ∙ flag-cleared (words_of rows k) rank reaches r
          ∙ ap (λ (b : Bool). not b && flag (words_of rows k) r) (eqb_sym r rank ∙ sym (ap (λ (b : Bool). b && rank == r) (eq-eqb k j (sym is))))
          ∙ ap (λ i. not (k == j && rank == r) && flag (words_of rows i) r) (sym is)
      | inr other ↦
          ap (λ words. flag words r) (get_or-set_other rows k j (cleared (words_of rows k) rank) [] other)
          ∙ sym (ap (λ (b : Bool). not (b && rank == r) && flag (words_of rows j) r) (ne_eqb k j (λ e. other (sym e))))
    ]

-- if its word isn't there, it is no bit
pub rank_none : (rows : List (List ℕ)) (k rank : ℕ) → length (words_of rows k) ≤ rank / 64 → TakesRank (map told_by rows) (map told_by rows) k rank
rank_none rows k rank past = record {
  as_many = refl;
  now = λ j r. told_at rows j r ∙ at j r ∙ ap (λ (b : Bool). not (k == j && rank == r) && b) (sym (told_at rows j r));
}
  where
    and_false : (b : Bool) → (b && false) ≡ false
    and_false true = refl
    and_false false = refl

    at : (j r : ℕ) → flag (words_of rows j) r ≡ (not (k == j && rank == r) && flag (words_of rows j) r)
    at j r = elim (cases_eq k j) [
      | inl list ↦ elim (cases_eq rank r) [
        | inl here ↦
            (let none : flag (words_of rows j) r ≡ false =
            ap (λ i. flag (words_of rows i) r) (sym list) ∙ none_past (words_of rows k) r (omega (arith, past, here)) in
            none ∙ sym (ap (λ (b : Bool). not (k == j && rank == r) && b) none ∙ and_false (not (k == j && rank == r))))
        | inr other ↦ sym (ap (λ (b : Bool). not (k == j && b) && flag (words_of rows j) r) (ne_eqb rank r other) ∙ ap (λ (b : Bool). not b && flag (words_of rows j) r) (and_false (k == j)))
      ]
      | inr other ↦ sym (ap (λ (b : Bool). not (b && rank == r) && flag (words_of rows j) r) (ne_eqb k j other))
    ]

-- a list more, or none
pub few_after : {E : Type 0} (o : Result (Unit {0}) E) (old new : List (List ℕ)) (n : ℕ) → OnErr o (new ≡ old) → OnOk o (new ≡ old ++ replicate n 0 ∷ []) → n ≤ 67108864 → AreFew old → AreFew new
few_after (Ok x) old new n err ok low few = subst AreFew (sym ok) (few_more old (replicate n 0) few (let size : length (replicate {A = ℕ} n 0) ≡ n = length-replicate n 0 in omega arith))
few_after (Err e) old new n err ok low few = subst AreFew (sym err) few
