-- Ranks are noted at the programs of entries, one after another.
use Rattle.std.proofs.Common.{◌≡◌, ℕ, zero, suc, ◌+◌, ◌<◌, ◌≤◌, ◌^◌, ◌⊎◌, List, [], ◌∷◌, ◌++◌, Some, eqb, length, get_or, set, map, replicate, sym, ap, ◌∙◌, inl, inr, arith}
use Rattle.std.proofs.lemmas.Bool.{cases_Bool, cases_eq, cases_lt, eq-eqb, ne_eqb}
use Rattle.std.proofs.lemmas.List.{get_or-set_same, get_or-set_other, length-set, get_or_read, get_or_past, get_or-replicate, length-replicate}
use Rattle.std.proofs.lemmas.List.Elements.{All-replicate}
use Rattle.std.proofs.lemmas.List.FromFn.{get_or-map-range_with_len, length-map-range_with_len}
use Rattle.mt_terms.specs.Lists.{below}
use Rattle.mt_terms.specs.Market.{Market}
use Rattle.mt_ranks.specs.Entries.{AscendFrom, entries_in, entries_from, own_entries, rank_among, rankings_of}
use Rattle.mt_ranks.specs.Stamps.{AreBefore, AreShort, ProgramsWithin, stamp_of, rank_stamped}
use Rattle.mt_ranks.specs.Rows.{Filling, row_of}
use Rattle.mt_ranks.specs.declared.entries.Live.{Live}
use Rattle.mt_ranks.specs.declared.stamps.RankStamp.{RankStamp}
use Rattle.mt_ranks.proofs.Lookups.{found, absent}

-- Below, the first i entries are noted in a turn. A program that none of them has keeps an earlier note.
abbrev pub NotMet : List Live → ℕ → ℕ → Type 0
NotMet es i p = (k : ℕ) (d : Live) → k < i → (get_or es k d).program ≡ p → ⊥

abbrev pub IsStamped : List RankStamp → ℕ → List Live → ℕ → ℕ → Type 0
IsStamped stamps turn es i p = (((stamp_of stamps p).turn < turn) × NotMet es i p) ⊎ (((stamp_of stamps p).turn ≡ turn) × (Some (stamp_of stamps p).rank ≡ rank_among es p))

abbrev pub AreStamped : List RankStamp → ℕ → List Live → ℕ → Type 0
AreStamped stamps turn es i = (p : ℕ) → p < length stamps → IsStamped stamps turn es i p

pub stamped_more : (stamps : List RankStamp) (turn : ℕ) (es : List Live) (i : ℕ) (e : Live) → AreStamped stamps turn es i → AscendFrom 0 es → i < length es → e ≡ get_or es i e → e.program < length stamps
    → AreStamped (set stamps e.program (record { turn = turn; rank = e.rank })) turn es (i + 1)
stamped_more stamps turn es i e inv up h at within p w =
    let stamp : RankStamp = record { turn = turn; rank = e.rank } in
    let old : p < length stamps = omega (arith, length-set stamps e.program stamp) in
    elim (cases_eq p e.program) as (λ o. IsStamped (set stamps e.program stamp) turn es (i + 1) p) [
      | inl is ↦
          let here : stamp_of (set stamps e.program stamp) p ≡ stamp = rw is (get_or-set_same stamps e.program stamp (record { turn = 0; rank = 0 }) within) in
          let rank : Some (get_or es i e).rank ≡ rank_among es p = found 0 es p i e up h (ap (λ (x : Live). x.program) (sym at) ∙ sym is) in
          inr (ap (λ (n : RankStamp). n.turn) here, ap (λ (n : RankStamp). Some n.rank) here ∙ ap (λ (x : Live). Some x.rank) at ∙ rank)
      | inr other ↦
          let same : stamp_of (set stamps e.program stamp) p ≡ stamp_of stamps p = get_or-set_other stamps e.program p stamp (record { turn = 0; rank = 0 }) other in
          rw same
          (elim (inv p old) as (λ o. ((((stamp_of stamps p).turn < turn) × NotMet es (i + 1) p) ⊎ (((stamp_of stamps p).turn ≡ turn) × (Some (stamp_of stamps p).rank ≡ rank_among es p)))) [
            | inl earlier ↦ inl (
              earlier.0,
              λ k d lt met. elim (cases_eq k i) as (λ o. ⊥) [
                | inl last ↦ other (sym met ∙ ap (λ j. (get_or es j d).program) last ∙ ap (λ (x : Live). x.program) (sym (get_or_read es i e h at d)))
                | inr before ↦ earlier.1 k d (omega (arith, before)) met
              ],
            )
            | inr now ↦ inr now
          ])
    ]

stamped_all : (stamps : List RankStamp) (turn : ℕ) (es : List Live) (i p : ℕ) → IsStamped stamps turn es i p → length es ≤ i → rank_stamped stamps turn p ≡ rank_among es p
stamped_all stamps turn es i p (inl earlier) past =
    rw (ne_eqb (stamp_of stamps p).turn turn (λ e. absurd (omega (arith, earlier.0)))) (absent es p (λ k d w. earlier.1 k d (omega arith)))
stamped_all stamps turn es i p (inr now) past = rw (eq-eqb (stamp_of stamps p).turn turn now.0) now.1

-- all are noted
pub stamped_ranks : (stamps : List RankStamp) (turn : ℕ) (es : List Live) (i p : ℕ) → AreStamped stamps turn es i → length es ≤ i → p < length stamps → rank_stamped stamps turn p ≡ rank_among es p
stamped_ranks stamps turn es i p inv past w = stamped_all stamps turn es i p (inv p w) past

-- Below, the entries are an applicant's on programs' lists.
here_within : (p rank n : ℕ) (xs : List ℕ) (a : ℕ) (rest : List Live) → p < n → ProgramsWithin n rest → ProgramsWithin n (entries_in p rank xs a ++ rest)
here_within p rank n [] a rest h w = w
here_within p rank n (x ∷ xs) a rest h w =
    elim (cases_Bool (eqb x a)) as (λ o. ProgramsWithin n (entries_in p rank (x ∷ xs) a ++ rest)) [
      | inl is_a ↦ rw is_a (all_front (record { program = p; rank = rank }) (entries_in p (rank + 1) xs a ++ rest) h (here_within p (rank + 1) n xs a rest h w))
      | inr other ↦ rw other (here_within p (rank + 1) n xs a rest h w)
    ]
  where
    all_front : (x : Live) (xs : List Live) → x.program < n → ProgramsWithin n xs → ProgramsWithin n (x ∷ xs)
    all_front x xs first others zero d i = first
    all_front x xs first others (suc k) d i = others k d (omega arith)

from_within : (p n : ℕ) (rs : List (List ℕ)) (a : ℕ) → p + length rs ≤ n → ProgramsWithin n (entries_from p rs a)
from_within p n [] a h = λ k d i. absurd (omega arith)
from_within p n (r ∷ rs) a h = here_within p 0 n r a (entries_from (p + 1) rs a) (omega arith) (from_within (p + 1) n rs a (omega arith))

pub row_within : (m : Market) (rows : Filling) (from size k : ℕ) → rows.lists ≡ map (λ j. own_entries m (from + j)) (below size) → ProgramsWithin (length (rankings_of m)) (row_of rows k)
row_within m rows from size k h =
    let own : ℕ → List Live = λ j. own_entries m (from + j) in
    elim (cases_lt k size) as (λ o. ProgramsWithin (length (rankings_of m)) (row_of rows k)) [
      | inl within ↦ rw (h, get_or-map-range_with_len own 0 size k k [] within (omega arith)) (from_within 0 (length (rankings_of m)) (rankings_of m) (from + k) (omega arith))
      | inr past ↦ rw (h, get_or_past (map own (below size)) k [] (omega (arith, length-map-range_with_len own 0 size))) (λ j d i. absurd (omega arith))
    ]

-- before the first turn nothing is noted
pub never_stamped : (stamps : List RankStamp) (n : ℕ) → stamps ≡ replicate n (record { turn = 0; rank = 0 }) → AreBefore 1 stamps
never_stamped stamps n h p w =
    let none : RankStamp = record { turn = 0; rank = 0 } in
    let long : length stamps ≡ n = ap length h ∙ length-replicate n none in
    let same : stamp_of stamps p ≡ none = rw h (get_or-replicate n p none none (omega arith)) in
    rw same (omega arith)

pub never_long : (stamps : List RankStamp) (n : ℕ) → stamps ≡ replicate n (record { turn = 0; rank = 0 }) → AreShort stamps
never_long stamps n h = rw h (All-replicate (λ (s : RankStamp). s.rank < 2 ^ 17) n (record { turn = 0; rank = 0 }) (omega arith))
