-- What is chosen, by where it ends, and what becomes of the end once a rank was received.
use Rattle.std.proofs.Common.{◌≡◌, ◌↔◌, ℕ, ◌+◌, ◌<◌, ◌≤◌, true, false, ltb, ◌&&◌, refl, sym, ap, ◌∙◌, inl, inr, arith}
use Rattle.std.proofs.lemmas.Bool.{cases_lt, false≢true}
use Rattle.std.proofs.lemmas.Bool.Decides.{nat_tests}
use Rattle.mt_terms.specs.Lists.{Set, with_one, count_below}
use Rattle.mt_terms.proofs.ListFacts.{with_one-other}
use Rattle.mt_hold.specs.Ends.{IsEnd, IsLastBelow}
use Rattle.mt_hold.specs.Settled.{IsSettled}
use Rattle.mt_hold.specs.declared.holding.Taken.{Taken}
use Rattle.mt_hold.specs.declared.holding.Taken.TheVariants.{Kept, KeptInstead, Refused}
use Rattle.mt_bits.proofs.Flags.{with_one_same}
use Rattle.mt_hold.proofs.Counting.{count_in, count_flat, count-le, count_past, count-with_one_below, count-with_one_above}
use Rattle.mt_hold.proofs.Chosen.{chosen}

-- who is chosen comes before the end, and nobody else does
pub chosen-ended : (quota n : ℕ) (s : Set) (end k : ℕ) → IsEnd quota n s end → chosen quota n s k ≡ (ltb k end && s k)
chosen-ended quota n s end k e = grind (arith, nat_tests, count-le s end k, count_past s k end, count_past s k n)

-- the end of a set without members
pub IsEnd-empty : (quota n : ℕ) (s : Set) → count_below s n ≡ 0 → IsEnd quota n s n
IsEnd-empty quota n s none = record { within = omega arith; counted = omega arith; all = λ _. refl }

count_last : (s : Set) (end last : ℕ) → IsLastBelow s end last → count_below s end ≡ count_below s last + 1
count_last s end last l =
    count_flat s (last + 1) end (omega (arith, l.below)) (λ k low high. l.none_after k (omega arith) high) ∙ count_in s last l.member

-- no member comes between the last one and the end
not_after : (s : Set) (end last k : ℕ) → IsLastBelow s end last → s k ≡ true → k < end → k ≤ last
not_after s end last k l member low =
    elim (cases_lt last k) [
      | inl after ↦ absurd (false≢true (sym (l.none_after k after low) ∙ member))
      | inr h ↦ h
    ]

-- ---- a rank r was received: s is the set before it

-- the end moved down to the last member
end_moved : (quota n : ℕ) (s : Set) (r end last : ℕ) → IsEnd quota n s end → r < n → s r ≡ false → quota < count_below (with_one s r) n
    → r < end → IsLastBelow (with_one s r) end last → IsEnd quota n (with_one s r) last
end_moved quota n s r end last e low out over in_time l = record {
  within = omega (arith, e.within, l.below);
  counted = omega (arith, count_last (with_one s r) end last l, count-with_one_above s r end out in_time, count-with_one_above s r n out low, e.counted);
  all = λ h. absurd (omega arith);
}

-- the rank came past the end, which stays
end_stays : (quota n : ℕ) (s : Set) (r end : ℕ) → IsEnd quota n s end → r < n → s r ≡ false → quota < count_below (with_one s r) n → end ≤ r → IsEnd quota n (with_one s r) end
end_stays quota n s r end e low out over late = record {
  within = e.within;
  counted = omega (arith, count-with_one_below s r end late, count-with_one_above s r n out low, e.counted);
  all = λ h. absurd (omega arith);
}

-- there was room, and the end stays behind all ranks
end_open : (quota n : ℕ) (s : Set) (r end : ℕ) → IsEnd quota n s end → r < n → s r ≡ false → count_below (with_one s r) n ≤ quota → end ≡ n
end_open quota n s r end e low out room = e.all (omega (arith, count-with_one_above s r n out low))

IsEnd-open : (quota n : ℕ) (s : Set) → count_below s n ≤ quota → IsEnd quota n s n
IsEnd-open quota n s room = record { within = omega arith; counted = omega arith; all = λ _. refl }

pub settled_end : (quota n : ℕ) (s : Set) (r end : ℕ) (result : Taken) (new : ℕ) → IsEnd quota n s end → r < n → s r ≡ false
    → IsSettled (with_one s r) quota (count_below (with_one s r) n) r end result new → IsEnd quota n (with_one s r) new
settled_end quota n s r end Kept new e low out settled =
    rw (settled.stays ∙ end_open quota n s r end e low out settled.room) (IsEnd-open quota n (with_one s r) settled.room)
settled_end quota n s r end (KeptInstead last) new e low out settled =
    rw settled.moves (end_moved quota n s r end last e low out settled.over settled.in_time settled.falls)
settled_end quota n s r end Refused new e low out settled =
    elim settled.late [
      | inl past ↦ rw past.1 (end_stays quota n s r end e low out settled.over past.0)
      | inr last ↦ rw last.1 (end_moved quota n s r end r e low out settled.over last.0.below last.0)
    ]

-- Refused if and only if the rank isn't before the new end
refused_by_end : (quota n : ℕ) (s : Set) (r end : ℕ) (result : Taken) (new : ℕ) → IsEnd quota n s end → r < n → s r ≡ false
    → IsSettled (with_one s r) quota (count_below (with_one s r) n) r end result new → (result ≡ Refused) ↔ (new ≤ r)
refused_by_end quota n s r end Kept new e low out settled =
    let all = end_open quota n s r end e low out settled.room in
    (λ k. cc, λ f. absurd (omega (arith, all, settled.stays)))
refused_by_end quota n s r end (KeptInstead last) new e low out settled =
    let before = not_after (with_one s r) end last r settled.falls (with_one_same s r) settled.in_time in
    (λ k. cc, λ f. absurd (settled.other (omega (arith, before, settled.moves))))
refused_by_end quota n s r end Refused new e low out settled =
    (λ _. elim settled.late [ inl past ↦ omega (arith, past.0, past.1) | inr last ↦ omega (arith, last.1) ], λ _. refl)

pub refused_exactly : (quota n : ℕ) (s : Set) (r end : ℕ) (result : Taken) (new : ℕ) → IsEnd quota n s end → r < n → s r ≡ false
    → IsSettled (with_one s r) quota (count_below (with_one s r) n) r end result new
    → (result ≡ Refused) ↔ (chosen quota n (with_one s r) r ≡ false)
refused_exactly quota n s r end result new e low out settled =
    let after = settled_end quota n s r end result new e low out settled in
    let by = refused_by_end quota n s r end result new e low out settled in
    rw (chosen-ended quota n (with_one s r) new r after) (grind (arith, nat_tests, with_one_same s r, by))

-- A rank is named if and only if it was before the end, and the end moved to it or past it.
dropped_by_end : (quota n : ℕ) (s : Set) (r end : ℕ) (result : Taken) (new : ℕ) → r < n → s r ≡ false
    → IsSettled (with_one s r) quota (count_below (with_one s r) n) r end result new
    → (other : ℕ) → (result ≡ KeptInstead other) ↔ ((s other ≡ true) × (other < end) × (new ≤ other))
dropped_by_end quota n s r end Kept new low out settled other = (λ k. cc, λ f. absurd (omega (arith, f.1, f.2, settled.stays)))
dropped_by_end quota n s r end (KeptInstead last) new low out settled other = (
  λ k. let same : last ≡ other = cc in
      (sym (with_one-other s r other (λ x. settled.other (same ∙ x))) ∙ ap (with_one s r) (sym same) ∙ settled.falls.member, omega (arith, settled.falls.below), omega (arith, settled.moves)),
  λ f.
      let first = not_after (with_one s r) end last other settled.falls (grind (arith, nat_tests, f.0)) f.1 in
      let same : last ≡ other = omega (arith, f.2, settled.moves) in
      ap KeptInstead same,
)
dropped_by_end quota n s r end Refused new low out settled other = (
  λ k. cc,
  λ f. elim settled.late [
    | inl past ↦ absurd (omega (arith, f.1, f.2, past.1))
    | inr last ↦
        let first = not_after (with_one s r) end r other last.0 (grind (arith, nat_tests, f.0)) f.1 in
        let same : other ≡ r = omega (arith, f.2, last.1) in
        absurd (false≢true (sym out ∙ ap s (sym same) ∙ f.0))
  ],
)

-- another rank is named if and only if it was chosen and is no longer
pub dropped_exactly : (quota n : ℕ) (s : Set) (r end : ℕ) (result : Taken) (new : ℕ) → IsEnd quota n s end → r < n → s r ≡ false
    → IsSettled (with_one s r) quota (count_below (with_one s r) n) r end result new
    → (other : ℕ) → (result ≡ KeptInstead other) ↔ ((chosen quota n s other ≡ true) × (chosen quota n (with_one s r) other ≡ false))
dropped_exactly quota n s r end result new e low out settled other =
    let after = settled_end quota n s r end result new e low out settled in
    let by = dropped_by_end quota n s r end result new low out settled other in
    rw (chosen-ended quota n s end other e, chosen-ended quota n (with_one s r) new other after) (grind (arith, nat_tests, out, by))
