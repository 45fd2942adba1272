-- The last flag below an end, by the highest bit of a word.
use Rattle.std.proofs.Common.{cond, min, ◌≡◌, ℕ, suc, ◌+◌, ◌-◌, ◌*◌, ◌/◌, ◌%◌, ◌^◌, ◌<◌, ◌≤◌, true, false, List, get_or, eqb, ltb, ◌&&◌, bit_and, pow-suc, refl, sym, ap, ◌∙◌, inl, inr, arith, eq-eqb}
use Rattle.std.specs.Int.{bit_at}
use Rattle.std.proofs.lemmas.Bool.{cases_lt, cases_eq, lt-ltb, and_parts, ltb-true}
use Rattle.std.proofs.lemmas.Bool.Decides.{nat_tests}
use Rattle.std.proofs.lemmas.Nat.{shr_high, one_shl}
use Rattle.std.proofs.lemmas.Nat.Bits.{bit_at_and, bit_at_ones, bit_at_ones_above, bit_at_above, bit_at-lt, bit_at-zero}
use Rattle.mt_terms.specs.Lists.{count_below}
use Rattle.mt_bits.specs.Flags.{flag}
use Rattle.mt_hold.specs.Ends.{IsLastBelow}
use Rattle.mt_hold.proofs.Counting.{count_flat}

-- The word has the bits of the flags below the end in the word at an index, and no flag after that word is set.
pub record IsWordBelow (words : List ℕ) (end at word : ℕ) : Type 0 where
  pub within : at ≤ end / 64
  pub bits : (k : ℕ) → k / 64 ≡ at → eqb (bit_at word (k % 64)) 1 ≡ (ltb k end && flag words k)
  pub none_after : (k : ℕ) → at < k / 64 → k < end → flag words k ≡ false

-- the end's own word, without the bits from the end on
abbrev pub masked : List ℕ → ℕ → ℕ
masked words end = bit_and (get_or words (end / 64) 0) (1 * 2 ^ (end % 64) % 2 ^ 64 - 1)

bit_masked : (words : List ℕ) (end i : ℕ) → bit_at (masked words end) i ≡ cond (ltb i (end % 64)) (bit_at (get_or words (end / 64) 0) i) 0
bit_masked words end i =
    let place = end % 64 in
    let word = get_or words (end / 64) 0 in
    let both : bit_at (masked words end) i ≡ min (bit_at word i) (bit_at (2 ^ place - 1) i) =
    ap (λ m. bit_at (bit_and word (m - 1)) i) (one_shl place 64 (omega arith)) ∙ bit_at_and word (2 ^ place - 1) i in
    grind (arith, nat_tests, both, bit_at_ones place i, bit_at_ones_above place i, bit_at-lt word i)

pub word_of_end : (words : List ℕ) (end : ℕ) → IsWordBelow words end (end / 64) (masked words end)
word_of_end words end = record {
  within = omega arith;
  bits = λ k here. let same : ltb (k % 64) (end % 64) ≡ ltb k end = grind (arith, nat_tests) in rw (bit_masked words end (k % 64), same, here) (grind (arith, nat_tests));
  none_after = λ k past low. absurd (omega arith);
}

-- no flag is set from a word of zeros on
none_from : (words : List ℕ) (end at word : ℕ) → IsWordBelow words end at word → word ≡ 0 → (k : ℕ) → at ≤ k / 64 → k < end → flag words k ≡ false
none_from words end at word is zero k past low =
    elim (cases_eq (k / 64) at) [
      | inl here ↦ sym (rw (lt-ltb k end low, zero, bit_at-zero (k % 64)) at (is.bits k here))
      | inr ne ↦ is.none_after k (omega arith) low
    ]

-- if some flag is set below the end, a word of zeros isn't the first
pub not_first : (words : List ℕ) (end at word : ℕ) → IsWordBelow words end at word → word ≡ 0 → 0 < count_below (flag words) end → 0 < at
not_first words end at word is zero some =
    elim (cases_lt 0 at) [
      | inl h ↦ h
      | inr first ↦ absurd (omega (arith, count_flat (flag words) 0 end (omega arith) (λ k _ low. none_from words end at word is zero k (omega arith) low)))
    ]

pub word_before : (words : List ℕ) (end at word : ℕ) → IsWordBelow words end at word → word ≡ 0 → 0 < at → IsWordBelow words end (at - 1) (get_or words (at - 1) 0)
word_before words end at word is zero some = record {
  within = omega (arith, is.within);
  bits = λ k here. let low : k < end = omega (arith, is.within) in rw (lt-ltb k end low, here) refl;
  none_after = λ k past low. none_from words end at word is zero k (omega arith) low;
}

-- the highest bit of a word
top_bit : (word top : ℕ) → 2 ^ top ≤ word → word < 2 * 2 ^ top → bit_at word top ≡ 1
top_bit word top low high =
    let split : word ≡ 1 * 2 ^ top + (word - 2 ^ top) = omega arith in
    ap (λ w. w / 2 ^ top % 2) split ∙ ap (λ q. q % 2) (shr_high 1 top (word - 2 ^ top) (omega arith))

above_top : (word top i : ℕ) → word < 2 * 2 ^ top → top < i → bit_at word i ≡ 0
above_top word top i high above = bit_at_above word (suc top) i (omega (arith, pow-suc 2 top)) (omega arith)

pub last_in_word : (words : List ℕ) (end at word top : ℕ) → IsWordBelow words end at word → 2 ^ top ≤ word → word < 2 * 2 ^ top → top < 64
    → IsLastBelow (flag words) end (64 * at + top)
last_in_word words end at word top is low high fits =
    let here : (64 * at + top) / 64 ≡ at = omega arith in
    let place : (64 * at + top) % 64 ≡ top = omega arith in
    let set : eqb (bit_at word ((64 * at + top) % 64)) 1 ≡ true = eq-eqb _ _ (ap (bit_at word) place ∙ top_bit word top low high) in
    let parts = and_parts (ltb (64 * at + top) end) (flag words (64 * at + top)) (sym (is.bits (64 * at + top) here) ∙ set) in
    record {
      below = ltb-true (64 * at + top) end parts.0;
      member = parts.1;
      none_after = λ k after before. elim (cases_eq (k / 64) at) [
        | inl same ↦ let past : top < k % 64 = omega arith in sym (rw (lt-ltb k end before, above_top word top (k % 64) high past) at (is.bits k same))
        | inr ne ↦ is.none_after k (omega arith) before
      ];
    }
