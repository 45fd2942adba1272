-- The ranks of those that are placed at each program, as they are found: the applicants are read in order.
use Rattle.std.proofs.Common.{◌≡◌, ◌≢◌, ℕ, ◌+◌, ◌<◌, Bool, true, false, ◌&&◌, ◌||◌, ◌==◌, List, [], ◌∷◌, take, length, get_or, Some, None, refl, ap, sym, ◌∙◌, inl, inr, arith, subst, ne_eqb}
use mathlib.Core.Path.{fun_ext}
use Rattle.std.specs.List.{position}
use Rattle.std.specs.Ordering.{nat_cmp}
use Rattle.std.specs.BTreeSet.{insert_key}
use Rattle.std.proofs.Math.Bool.{or_comm}
use Rattle.std.proofs.lemmas.Bool.{cases_eq, cases_lt, eq-eqb, eqb-true}
use Rattle.std.proofs.lemmas.List.{get_or-take, get_or_past, length-take-le}
use Rattle.std.proofs.lemmas.List.Quantifiers.{position-Some}
use Rattle.mt_terms.specs.Lists.{has, is_distinct}
use Rattle.mt_terms.specs.Market.{Market, program_of}
use Rattle.mt_terms.specs.Matching.{Places, place_of, is_program, at, ranks_from, placed_ranks}
use Rattle.mt_terms.specs.Places.{ArePlaces}
use Rattle.mt_bits.specs.Members.{is_in}
use Rattle.mt_bits.specs.Tables.{told_of, AddsRank}
use Rattle.mt_stage_tables.specs.Ranks.{HasRanks, HavePlaced}
use Rattle.mt_stage_tables.proofs.OrderFacts.{has-insert_key}
use Rattle.mt_stage_tables.proofs.RanksFacts.{same_ranks, ranks_with, ranks_sorted}
use Rattle.mt_stage_tables.proofs.RowFacts.{same_members}

-- nobody is placed
ranks_of_nobody : (i p : ℕ) (xs : List ℕ) → ranks_from i (at [] p) xs ≡ []
ranks_of_nobody i p [] = refl
ranks_of_nobody i p (x ∷ xs) = ranks_of_nobody (i + 1) p xs

pub nobody_placed : (m : Market) (places : Places) (table : List (List Bool)) → length table ≡ length m.programs → ((p r : ℕ) → is_in (told_of table p) r ≡ false)
    → HavePlaced m (take 0 places) table
nobody_placed m places table many none = record {
  one_each = many;
  each = λ p r known. none p r ∙ sym (ap (λ xs. has xs r) (ranks_of_nobody 0 p (program_of m p).ranking));
}

-- the program where an applicant is placed is one of the market
pub placed_within : (m : Market) (places : Places) (i p : ℕ) → ArePlaces m places → Some p ≡ place_of places i → p < length m.programs
placed_within m places i p are place = are.within i p (ap (is_program p) (sym place) ∙ eq-eqb p p refl)

-- the same ranks are placed
same_placed : (m : Market) (s t : Places) (table : List (List Bool)) → HavePlaced m s table → ((p : ℕ) → placed_ranks m t p ≡ placed_ranks m s p) → HavePlaced m t table
same_placed m s t table have same = record {
  one_each = have.one_each;
  each = λ p r known. have.each p r known ∙ ap (λ xs. has xs r) (sym (same p));
}

-- Below, the applicants before i have been read, and it is i's turn.
module _ (m : Market) (places : Places) (i : ℕ) (i_in : i < length places) where
  not_yet : (p : ℕ) → at (take i places) p i ≡ false
  not_yet p = ap (is_program p) (get_or_past (take i places) i None (let l = length-take-le i places (omega arith) in omega arith))

  now_too : (p : ℕ) → at (take (i + 1) places) p i ≡ at places p i
  now_too p = ap (is_program p) (get_or-take (i + 1) places i None (omega arith))

  others : (p b : ℕ) → b ≢ i → at (take (i + 1) places) p b ≡ at (take i places) p b
  others p b other = ap (is_program p) (elim (cases_lt b i) [
    | inl l ↦ get_or-take (i + 1) places b None (omega arith) ∙ sym (get_or-take i places b None l)
    | inr high ↦
        let past : i < b = omega arith in
        get_or_past (take (i + 1) places) b None (let l = length-take-le (i + 1) places (omega arith) in omega arith)
        ∙ sym (get_or_past (take i places) b None (let l = length-take-le i places (omega arith) in omega arith))
  ])

  -- an applicant that is not placed at a program adds nothing to its row
  elsewhere : (p : ℕ) → at places p i ≡ false → placed_ranks m (take (i + 1) places) p ≡ placed_ranks m (take i places) p
  elsewhere p off =
      ap (λ set. ranks_from 0 set (program_of m p).ranking) (fun_ext λ b. elim (cases_eq b i) [
        | inl is ↦ ap (at (take (i + 1) places) p) is ∙ now_too p ∙ off ∙ sym (not_yet p) ∙ ap (at (take i places) p) (sym is)
        | inr other ↦ others p b other
      ])

  off_others : (p q : ℕ) → Some p ≡ place_of places i → q ≢ p → at places q i ≡ false
  off_others p q place other = ap (is_program q) (sym place) ∙ ne_eqb p q (λ e. other (sym e))

  pub nowhere : (rows : List (List Bool)) → None ≡ place_of places i → HavePlaced m (take i places) rows → HavePlaced m (take (i + 1) places) rows
  nowhere rows place have = same_placed m (take i places) (take (i + 1) places) rows have (λ p. elsewhere p (ap (is_program p) (sym place)))

  -- nor does one that the program doesn't list
  pub unlisted : (rows : List (List Bool)) (p : ℕ) → Some p ≡ place_of places i → has (program_of m p).ranking i ≡ false → HavePlaced m (take i places) rows
      → HavePlaced m (take (i + 1) places) rows
  unlisted rows p place off have =
      same_placed m (take i places) (take (i + 1) places) rows have (λ q. elim (cases_eq q p) [
        | inl is ↦
            same_ranks (at (take i places) q) (at (take (i + 1) places) q) i (others q) 0 (program_of m q).ranking
            (ap (λ r. has (program_of m r).ranking i) is ∙ off)
        | inr other ↦ elsewhere q (off_others p q place other)
      ])

  -- one that it lists adds its rank
  pub listed : (table new : List (List Bool)) (p k : ℕ) → is_distinct (program_of m p).ranking ≡ true → Some p ≡ place_of places i
      → Some k ≡ position (λ x. x == i) (program_of m p).ranking → AddsRank table new p k → HavePlaced m (take i places) table → HavePlaced m (take (i + 1) places) new
  listed table new p k once place found adds have = record {
    one_each = adds.as_many ∙ have.one_each;
    each = λ q r known. adds.now q r ∙ elim (cases_eq q p) [
      | inl is ↦
          ap (λ n. (p == n && k == r) || is_in (told_of table n) r) is ∙ ap (λ (b : Bool). (b && k == r) || is_in (told_of table p) r) (eq-eqb p p refl)
          ∙ or_comm (k == r) (is_in (told_of table p) r)
          ∙ ap (λ (b : Bool). b || (k == r)) (have.each p r (subst (λ n. n < length m.programs) is known))
          ∙ sym (has-insert_key (placed_ranks m (take i places) p) k r) ∙ ap (λ xs. has xs r) (sym grows) ∙ ap (λ n. has (placed_ranks m (take (i + 1) places) n) r) (sym is)
      | inr other ↦
          ap (λ (b : Bool). (b && k == r) || is_in (told_of table q) r) (ne_eqb p q (λ e. other (sym e)))
          ∙ have.each q r known ∙ ap (λ xs. has xs r) (sym (elsewhere q (off_others p q place other)))
    ];
  }
    where
      list : List ℕ
      list = (program_of m p).ranking

      grows : placed_ranks m (take (i + 1) places) p ≡ insert_key nat_cmp (placed_ranks m (take i places) p) k
      grows =
          let w = position-Some (λ x. x == i) list k 0 (sym found) in
          let stands : get_or list k 0 ≡ i = eqb-true _ _ w.1 in
          let there : at places p i ≡ true = ap (is_program p) (sym place) ∙ eq-eqb p p refl in
          let e : 0 + k ≡ k = omega arith in
          ranks_with (at (take i places) p) (at (take (i + 1) places) p) i (others p) (not_yet p) (now_too p ∙ there) 0 list k once w.0 stands
          ∙ ap (insert_key nat_cmp (placed_ranks m (take i places) p)) e

-- the ranks of a program's set, in rising order
pub row_is : (m : Market) (places : Places) (table : List (List Bool)) (p : ℕ) (ranks : List ℕ) → HavePlaced m places table → p < length m.programs → HasRanks (told_of table p) ranks
    → ranks ≡ placed_ranks m places p
row_is m places table p ranks have known are =
    same_members ranks (placed_ranks m places p) are.sorted (ranks_sorted 0 (at places p) (program_of m p).ranking) (λ r. are.same r ∙ have.each p r known)
