-- Ranks that are kept as bits, in words of 64.
use Rattle.std.proofs.Common.{◌≡◌, ◌≢◌, ◌∙◌, ℕ, zero, suc, ◌+◌, ◌-◌, ◌*◌, ◌/◌, ◌%◌, ◌^◌, ◌<◌, ◌≤◌, ◌==◌, false, List, [], ◌∷◌, ◌++◌, take, length, get_or, replicate, Option, Some, None, w64, refl, ap, sym, subst, inl, inr, arith}
use Rattle.std.specs.Prelude.{IfNone, IfSome}
use Rattle.std.specs.Int.{bit_at, trailing_zeros}
use Rattle.std.proofs.Math.Nat.{div-div-eq-div-mul, div-le_self}
use Rattle.std.proofs.lemmas.Bool.{cases_lt}
use Rattle.std.proofs.lemmas.List.{get_or_past, take_all}
use Rattle.std.proofs.lemmas.Nat.{pow-add}
use Rattle.std.proofs.lemmas.Nat.Bits.{bit_at-trailing_zeros, bit_at-zero, bit_at_above}
use Rattle.mt_bits.specs.Flags.{flag, flags}
use Rattle.mt_bits.proofs.Flags.{get_or-flags, length-flags}
use Rattle.mt_bits.specs.Members.{is_in, IsFirstFrom}

-- past the words no bit is set
pub none_past : (words : List ℕ) (r : ℕ) → length words ≤ r / 64 → flag words r ≡ false
none_past words r past = ap (λ w. bit_at w (r % 64) == 1) (get_or_past words (r / 64) 0 past) ∙ ap (λ b. b == 1) (bit_at-zero (r % 64))

-- the bits of words, as a list
pub in_flags : (words : List ℕ) (r : ℕ) → is_in (flags words (64 * length words)) r ≡ flag words r
in_flags words r = elim (cases_lt r (64 * length words)) [
  | inl low ↦ get_or-flags words (64 * length words) r low
  | inr past ↦ get_or_past (flags words (64 * length words)) r false (omega (arith, length-flags words (64 * length words))) ∙ sym (none_past words r (omega arith))
]

-- a word that is shifted down
bit_of_shifted : (n k i : ℕ) → bit_at (n / 2 ^ k) i ≡ bit_at n (k + i)
bit_of_shifted n k i = ap (λ m. m % 2) (div-div-eq-div-mul n (2 ^ k) (2 ^ i) ∙ ap (λ m. n / m) (sym (pow-add 2 k i)))

-- words that are filled up with zeros have the same bits
pub flags_grown : (words : List ℕ) (n m : ℕ) → length words ≤ n → (r : ℕ) → flag (take n words ++ replicate m 0) r ≡ flag words r
flags_grown words n m more r =
    ap (λ w. bit_at w (r % 64) == 1) (ap (λ xs. get_or (xs ++ replicate m 0) (r / 64) 0) (take_all n words more) ∙ filled words m (r / 64))
  where
    zeros : (m i : ℕ) → get_or {A = ℕ} (replicate m 0) i 0 ≡ 0
    zeros zero i = refl
    zeros (suc m) zero = refl
    zeros (suc m) (suc i) = zeros m i

    filled : (xs : List ℕ) (m i : ℕ) → get_or (xs ++ replicate m 0) i 0 ≡ get_or xs i 0
    filled [] m i = zeros m i
    filled (x ∷ xs) m zero = refl
    filled (x ∷ xs) m (suc i) = filled xs m i

-- no bit is set in no words
pub no_flags : (r : ℕ) → flag [] r ≡ false
no_flags r = ap (λ b. b == 1) (bit_at-zero (r % 64))

-- A word whose lowest bit is that of a start, and before the start no bit is set from a number on.
pub record IsWordFrom (words : List ℕ) (number start word : ℕ) : Type 0 where
  pub not_below : number ≤ start
  pub within : start / 64 < length words
  pub is : word ≡ get_or words (start / 64) 0 / 2 ^ (start % 64)
  pub below : get_or words (start / 64) 0 < 2 ^ 64
  pub none : (r : ℕ) → number ≤ r → r < start → flag words r ≡ false

-- the bits of the word
bit_there : (words : List ℕ) (number start word : ℕ) → IsWordFrom words number start word → (r : ℕ) → start ≤ r → r / 64 ≡ start / 64
    → (bit_at word (r - start) == 1) ≡ flag words r
bit_there words number start word from r low same =
    let place : start % 64 + (r - start) ≡ r % 64 = omega arith in
    ap (λ w. bit_at w (r - start) == 1) from.is
    ∙ ap (λ b. b == 1) (bit_of_shifted (get_or words (start / 64) 0) (start % 64) (r - start))
    ∙ ap (λ i. bit_at (get_or words (start / 64) 0) i == 1) place
    ∙ ap (λ j. bit_at (get_or words j 0) (r % 64) == 1) (sym same)

-- if the word is 0, no bit is set before the next one
pub none_after : (words : List ℕ) (number start word : ℕ) → IsWordFrom words number start word → word ≡ 0
    → (r : ℕ) → number ≤ r → r < 64 * (start / 64 + 1) → flag words r ≡ false
none_after words number start word from empty r low high = elim (cases_lt r start) [
  | inl before ↦ from.none r low before
  | inr here ↦
      (let same : r / 64 ≡ start / 64 = omega arith in
      sym (bit_there words number start word from r here same) ∙ ap (λ w. bit_at w (r - start) == 1) empty ∙ ap (λ b. b == 1) (bit_at-zero (r - start)))
]

-- if the word is 0, the next one is looked at
pub word_after : (words : List ℕ) (number start word next : ℕ) → IsWordFrom words number start word → word ≡ 0 → start / 64 + 1 < length words
    → next ≡ get_or words (start / 64 + 1) 0 → next < 2 ^ 64 → IsWordFrom words number (64 * (start / 64 + 1)) next
word_after words number start word next from empty within read below =
    let place : 64 * (start / 64 + 1) / 64 ≡ start / 64 + 1 = omega arith in
    let rest : 64 * (start / 64 + 1) % 64 ≡ 0 = omega arith in
    record {
      not_below = (let l = from.not_below in omega arith);
      within = omega arith;
      is = rw (place, rest) (read ∙ unshifted (get_or words (start / 64 + 1) 0));
      below = rw place (subst (λ n. n < 2 ^ 64) read below);
      none = none_after words number start word from empty;
    }
  where
    unshifted : (n : ℕ) → n ≡ n / 2 ^ 0
    unshifted n = omega arith

-- if it isn't, its lowest bit is the first that is set, and within the words
pub first_in_word : (words : List ℕ) (number start word : ℕ) → IsWordFrom words number start word → word ≢ 0
    → IsFirstFrom (flag words) number (start + trailing_zeros w64 word) × (start + trailing_zeros w64 word < 64 * length words)
first_in_word words number start word from some =
    let whole = get_or words (start / 64) 0 in
    let k = start % 64 in
    let small : word ≤ whole = subst (λ w. w ≤ whole) (sym from.is) (div-le_self whole (2 ^ k)) in
    let below : word < 2 ^ 64 = omega (arith, from.below) in
    let lowest = bit_at-trailing_zeros w64 word (omega arith) below in
    let i = trailing_zeros w64 word in
    let set : bit_at whole (k + i) ≡ 1 = sym (bit_of_shifted whole k i) ∙ ap (λ w. bit_at w i) (sym from.is) ∙ lowest.1 in
    let inside : k + i < 64 = elim (cases_lt (k + i) 64) [
      | inl lt ↦ lt
      | inr ge ↦ (let none = bit_at_above whole 64 (k + i) from.below ge in absurd (omega arith))
    ] in
    let first : IsFirstFrom (flag words) number (start + i) = record {
      not_below = (let l = from.not_below in omega arith);
      there = (let back : start + i - start ≡ i = omega arith in
          sym (bit_there words number start word from (start + i) (omega arith) (omega arith)) ∙ ap (λ j. bit_at word j == 1) back ∙ ap (λ b. b == 1) lowest.1);
      first = λ q low high. elim (cases_lt q start) [
        | inl before ↦ from.none q low before
        | inr here ↦ sym (bit_there words number start word from q here (omega arith)) ∙ ap (λ b. b == 1) (lowest.2 (q - start) (omega arith))
      ];
    } in
    (first, (let w = from.within in omega arith))

-- the same of the words as a list, and if no bit is set from a number on
pub first_told : (words : List ℕ) (number r : ℕ) → IsFirstFrom (flag words) number r → IsFirstFrom (is_in (flags words (64 * length words))) number r
first_told words number r is = record {
  not_below = is.not_below;
  there = in_flags words r ∙ is.there;
  first = λ q low high. in_flags words q ∙ is.first q low high;
}

-- in an answer
pub some_told : (words : List ℕ) (number : ℕ) (o : Option ℕ) → IfSome o (IsFirstFrom (flag words) number)
    → IfSome o (IsFirstFrom (is_in (flags words (64 * length words))) number)
some_told words number None h = tt
some_told words number (Some r) h = first_told words number r h

pub none_told : (words : List ℕ) (number : ℕ) (o : Option ℕ) → IfNone o ((r : ℕ) → number ≤ r → flag words r ≡ false)
    → IfNone o ((r : ℕ) → number ≤ r → is_in (flags words (64 * length words)) r ≡ false)
none_told words number None h = λ r low. in_flags words r ∙ h r low
none_told words number (Some r) h = tt
