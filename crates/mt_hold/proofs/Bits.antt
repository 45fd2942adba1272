-- The bits of a holding: what they hold, and how many there are.
use Rattle.std.proofs.Common.{◌≡◌, ℕ, zero, suc, ◌+◌, List, map, replicate, refl, ap, ◌∙◌, arith}
use Rattle.std.specs.List.{range_with_len}
use Rattle.mt_terms.specs.Lists.{count, count_below}
use Rattle.mt_bits.specs.Flags.{flag, flags}
use Rattle.mt_bits.proofs.Flags.{flag-zeros, get_or-flags, length-flags}
use Rattle.mt_hold.specs.Holding.{held}
use Rattle.mt_hold.proofs.Counting.{count_suc}
use Rattle.mt_hold.proofs.Chosen.{chosen, held-chosen}

pub count-flags : (words : List ℕ) (n : ℕ) → count (λ b. b) (flags words n) ≡ count_below (flag words) n
count-flags words n = omega (arith, from 0 n, ap (count_below (flag words)) at_zero)
  where
    at_zero : 0 + n ≡ n
    at_zero = omega arith

    from : (a n : ℕ) → count_below (flag words) a + count (λ b. b) (map (flag words) (range_with_len a n)) ≡ count_below (flag words) (a + n)
    from a zero = omega (arith, ap (count_below (flag words)) end)
      where
        end : a + 0 ≡ a
        end = omega arith
    from a (suc n) = omega (arith, from (a + 1) n, count_suc (flag words) a, ap (count_below (flag words)) next)
      where
        next : a + 1 + n ≡ a + suc n
        next = omega arith

-- what is held, if the received ranks are kept as bits
pub held-flags : (quota n : ℕ) (words : List ℕ) (rank : ℕ) → held (record { quota = quota; received = flags words n }) rank ≡ chosen quota n (flag words) rank
held-flags quota n words rank =
    held-chosen (record { quota = quota; received = flags words n }) (flag words) (λ k h. get_or-flags words n k (omega (arith, length-flags words n))) rank
    ∙ ap (λ m. chosen quota m (flag words) rank) (length-flags words n)

pub count-zeros : (m n : ℕ) → count_below (flag (replicate m 0)) n ≡ 0
count-zeros m zero = refl
count-zeros m (suc n) = rw (flag-zeros m n) (omega (arith, count-zeros m n))
