-- Flags in words of bits.
use Rattle.std.proofs.Common.{◌≡◌, ◌⊎◌, ◌≢◌, ℕ, zero, suc, ◌*◌, ◌/◌, ◌%◌, ◌^◌, ◌<◌, true, false, List, length, get_or, set, replicate, w64, bit_and, bit_or, refl, sym, ◌∙◌, inl, inr, arith}
use Rattle.std.specs.Int.{bit_not}
use Rattle.std.proofs.lemmas.Bool.{cases_eq, eq-eqb, ne_eqb}
use Rattle.std.proofs.lemmas.List.{get_or-set_same, get_or-set_other, length-set, same_lists, get_or_default, length-replicate, get_or-replicate}
use Rattle.std.proofs.lemmas.List.FromFn.{length-map-range_with_len, get_or-map-range_with_len}
use Rattle.std.proofs.lemmas.Nat.Bits.{bit_at-zero, bit_at_clear_same, bit_at_clear_other, bit_at_set_same, bit_at_set_other}
use Rattle.mt_terms.specs.Lists.{Set, with_one, without}
use Rattle.mt_bits.specs.Flags.{flag, flags}
use Rattle.mt_terms.proofs.ListFacts.{with_one-other}

pub with_one_same : (s : Set) (r : ℕ) → with_one s r r ≡ true
with_one_same s r = rw (eq-eqb r r refl) refl

-- one bit more
abbrev pub marked : List ℕ → ℕ → List ℕ
marked words rank = set words (rank / 64) (bit_or (get_or words (rank / 64) 0) (1 * 2 ^ (rank % 64) % 2 ^ 64))

pub flag-marked : (words : List ℕ) (rank : ℕ) → rank / 64 < length words → (other : ℕ) → flag (marked words rank) other ≡ with_one (flag words) rank other
flag-marked words rank h other =
    elim (cases_eq other rank) [
      | inl e ↦ rw (e, with_one_same (flag words) rank, get_or-set_same words (rank / 64) _ 0 h, bit_at_set_same w64 (get_or words (rank / 64) 0) (rank % 64) (omega arith)) refl
      | inr ne ↦ rw (with_one-other (flag words) rank other ne) (unmarked other ne (cases_eq (other / 64) (rank / 64)))
    ]
  where
    unmarked : (other : ℕ) → other ≢ rank → (other / 64 ≡ rank / 64) ⊎ (other / 64 ≢ rank / 64) → flag (marked words rank) other ≡ flag words other
    unmarked other ne (inl same) =
        let differ : other % 64 ≢ rank % 64 = omega arith in
        rw (same, get_or-set_same words (rank / 64) (bit_or (get_or words (rank / 64) 0) (1 * 2 ^ (rank % 64) % 2 ^ 64)) 0 h, bit_at_set_other w64 (get_or words (rank / 64) 0) (rank % 64) (omega arith) (other % 64) differ) refl
    unmarked other ne (inr differ) =
        rw (get_or-set_other words (rank / 64) (other / 64) (bit_or (get_or words (rank / 64) 0) (1 * 2 ^ (rank % 64) % 2 ^ 64)) 0 differ) refl

-- one bit less
abbrev pub cleared : List ℕ → ℕ → List ℕ
cleared words rank = set words (rank / 64) (bit_and (get_or words (rank / 64) 0) (bit_not w64 (1 * 2 ^ (rank % 64) % 2 ^ 64)))

pub flag-cleared : (words : List ℕ) (rank : ℕ) → rank / 64 < length words → (other : ℕ) → flag (cleared words rank) other ≡ without (flag words) rank other
flag-cleared words rank h other =
    elim (cases_eq other rank) [
      | inl e ↦ rw (e, eq-eqb rank rank refl, get_or-set_same words (rank / 64) (bit_and (get_or words (rank / 64) 0) (bit_not w64 (1 * 2 ^ (rank % 64) % 2 ^ 64))) 0 h, bit_at_clear_same w64 (get_or words (rank / 64) 0) (rank % 64) (omega arith)) refl
      | inr ne ↦ rw (ne_eqb other rank ne) (uncleared other ne (cases_eq (other / 64) (rank / 64)))
    ]
  where
    uncleared : (other : ℕ) → other ≢ rank → (other / 64 ≡ rank / 64) ⊎ (other / 64 ≢ rank / 64) → flag (cleared words rank) other ≡ flag words other
    uncleared other ne (inl same) =
        let differ : other % 64 ≢ rank % 64 = omega arith in
        rw (same, get_or-set_same words (rank / 64) (bit_and (get_or words (rank / 64) 0) (bit_not w64 (1 * 2 ^ (rank % 64) % 2 ^ 64))) 0 h, bit_at_clear_other w64 (get_or words (rank / 64) 0) (rank % 64) (omega arith) (other % 64) (omega arith) differ) refl
    uncleared other ne (inr differ) =
        rw (get_or-set_other words (rank / 64) (other / 64) (bit_and (get_or words (rank / 64) 0) (bit_not w64 (1 * 2 ^ (rank % 64) % 2 ^ 64))) 0 differ) refl

pub length-flags : (words : List ℕ) (n : ℕ) → length (flags words n) ≡ n
length-flags words n = length-map-range_with_len (flag words) 0 n

pub get_or-flags : (words : List ℕ) (n k : ℕ) → k < n → get_or (flags words n) k false ≡ flag words k
get_or-flags words n k h = get_or-map-range_with_len (flag words) 0 n k k false h (omega arith)

-- the flags after one bit more
pub flags-with_one : (words new : List ℕ) (n rank : ℕ) → rank < n → ((k : ℕ) → flag new k ≡ with_one (flag words) rank k) → flags new n ≡ set (flags words n) rank true
flags-with_one words new n rank low same =
    same_lists (flags new n) (set (flags words n) rank true)
    (length-flags new n ∙ sym (length-set (flags words n) rank true ∙ length-flags words n))
    (λ k d h.
    let in_list : k < n = omega (arith, length-flags new n) in
    let in_set : k < length (set (flags words n) rank true) = omega (arith, length-set (flags words n) rank true, length-flags words n) in
    get_or_default (flags new n) k d false h ∙ get_or-flags new n k in_list ∙ same k ∙ at k in_list (cases_eq k rank)
    ∙ get_or_default (set (flags words n) rank true) k false d in_set)
  where
    at : (k : ℕ) → k < n → (k ≡ rank) ⊎ (k ≢ rank) → with_one (flag words) rank k ≡ get_or (set (flags words n) rank true) k false
    at k h (inl e) = rw (e, with_one_same (flag words) rank) (sym (get_or-set_same (flags words n) rank true false (omega (arith, length-flags words n))))
    at k h (inr ne) = rw (with_one-other (flag words) rank k ne, get_or-set_other (flags words n) rank k true false ne) (sym (get_or-flags words n k h))

-- no bit is set in words of zeros
pub flag-zeros : (m k : ℕ) → flag (replicate m 0) k ≡ false
flag-zeros m k = rw (zero_at m (k / 64), bit_at-zero (k % 64)) refl
  where
    zero_at : (m i : ℕ) → get_or {A = ℕ} (replicate m 0) i 0 ≡ 0
    zero_at zero i = refl
    zero_at (suc m) zero = refl
    zero_at (suc m) (suc i) = zero_at m i

pub flags-zeros : (m n : ℕ) → flags (replicate m 0) n ≡ replicate n false
flags-zeros m n =
    same_lists (flags (replicate m 0) n) (replicate n false) (length-flags (replicate m 0) n ∙ sym (length-replicate n false))
    (λ k d h.
    let low : k < n = omega (arith, length-flags (replicate m 0) n) in
    get_or_default (flags (replicate m 0) n) k d false h ∙ get_or-flags (replicate m 0) n k low ∙ flag-zeros m k
    ∙ sym (get_or-replicate n k false d low))
