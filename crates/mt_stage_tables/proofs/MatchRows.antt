-- The rows of a match, which are the ranks of those that are placed at each program, as the match changes.
use Rattle.std.proofs.Common.{◌≡◌, ◌≢◌, ℕ, ◌+◌, ◌<◌, true, false, ◌==◌, List, map, length, get_or, slice_set, Option, Some, None, ap, sym, ◌∙◌, inl, inr, arith}
use mathlib.Core.Path.{fun_ext}
use Rattle.std.specs.List.{position}
use Rattle.std.proofs.lemmas.Bool.{cases_eq, eqb-true}
use Rattle.std.proofs.lemmas.List.{get_or-set_same, get_or-set_other, length-set, same_lists}
use Rattle.std.proofs.lemmas.List.Quantifiers.{position-Some}
use Rattle.std.specs.BTreeSet.{insert_key}
use Rattle.std.specs.Ordering.{nat_cmp}
use Rattle.std.specs.Prelude.{filter, not}
use Rattle.mt_terms.specs.Lists.{has, below, is_distinct}
use Rattle.mt_terms.specs.Market.{Market, program_of}
use Rattle.mt_terms.specs.Matching.{Places, is_program, at, ranks_from, placed_ranks, ranks_by_program}
use Rattle.mt_terms.proofs.BelowFacts.{length-map_below, map_below_at}
use Rattle.mt_stage_tables.proofs.RanksFacts.{same_ranks, ranks_with, ranks_without}

abbrev pub AreRows : Market → Places → List (List ℕ) → Type 0
AreRows m places rows = rows ≡ ranks_by_program m places

pub row_count : (m : Market) (places : Places) (rows : List (List ℕ)) → AreRows m places rows → length rows ≡ length m.programs
row_count m places rows are = ap length are ∙ length-map_below (placed_ranks m places) (length m.programs)

-- a row that was read
pub row_read : (m : Market) (places : Places) (rows : List (List ℕ)) (p : ℕ) (row : List ℕ) → AreRows m places rows → p < length m.programs → row ≡ get_or rows p row
    → row ≡ placed_ranks m places p
row_read m places rows p row are within read =
    read ∙ ap (λ xs. get_or xs p row) are ∙ map_below_at (placed_ranks m places) (length m.programs) p row within

-- one row written
pub rows_written : (m : Market) (places new : Places) (rows : List (List ℕ)) (p : ℕ) (row : List ℕ) → AreRows m places rows → p < length m.programs
    → row ≡ placed_ranks m new p → ((q : ℕ) → q ≢ p → placed_ranks m new q ≡ placed_ranks m places q) → AreRows m new (slice_set rows p row)
rows_written m places new rows p row are within here others =
    same_lists (slice_set rows p row) (map (placed_ranks m new) (below (length m.programs)))
    (length-set rows p row ∙ row_count m places rows are ∙ sym (length-map_below (placed_ranks m new) (length m.programs)))
    (λ q d q_in.
    let q_less : q < length m.programs = omega (arith, row_count m places rows are, length-set rows p row) in
    elim (cases_eq q p) [
      | inl same ↦
          ap (λ i. get_or (slice_set rows p row) i d) same ∙ get_or-set_same rows p row d (omega (arith, row_count m places rows are)) ∙ here
          ∙ ap (placed_ranks m new) (sym same) ∙ sym (map_below_at (placed_ranks m new) (length m.programs) q d q_less)
      | inr other ↦
          get_or-set_other rows p q row d other ∙ ap (λ xs. get_or xs q d) are ∙ map_below_at (placed_ranks m places) (length m.programs) q d q_less
          ∙ sym (others q other) ∙ sym (map_below_at (placed_ranks m new) (length m.programs) q d q_less)
    ])

-- no row written
pub rows_kept : (m : Market) (places new : Places) (rows : List (List ℕ)) → AreRows m places rows → ((q : ℕ) → placed_ranks m new q ≡ placed_ranks m places q) → AreRows m new rows
rows_kept m places new rows are same =
    are ∙ ap (λ (f : ℕ → List ℕ). map f (below (length m.programs))) (fun_ext λ q. sym (same q))

-- Below, one applicant is moved; it is on a program's list at its rank, or not at all.
module _ (m : Market) (places : Places) (a : ℕ) (v : Option ℕ) where
  abbrev moved : Places
  moved = slice_set places a v

  there : (q : ℕ) → a < length places → at moved q a ≡ is_program q v
  there q within = ap (is_program q) (get_or-set_same places a v None within)

  others_same : (q b : ℕ) → b ≢ a → at moved q b ≡ at places q b
  others_same q b other = ap (is_program q) (get_or-set_other places a b v None other)

  -- who is not on a program's list changes nothing there
  pub unlisted_same : (q : ℕ) → has (program_of m q).ranking a ≡ false → placed_ranks m moved q ≡ placed_ranks m places q
  unlisted_same q off = same_ranks (at places q) (at moved q) a (others_same q) 0 (program_of m q).ranking off

  -- a program where the applicant neither was nor is
  pub elsewhere_same : a < length places → (q : ℕ) → is_program q v ≡ at places q a → placed_ranks m moved q ≡ placed_ranks m places q
  elsewhere_same within q same =
      ap (λ set. ranks_from 0 set (program_of m q).ranking) (fun_ext λ b. elim (cases_eq b a) [
        | inl is ↦ ap (at moved q) is ∙ there q within ∙ same ∙ ap (at places q) (sym is)
        | inr other ↦ others_same q b other
      ])

  -- the applicant comes to a program
  pub comes_in : a < length places → (p k : ℕ) → is_distinct (program_of m p).ranking ≡ true → position (λ x. x == a) (program_of m p).ranking ≡ Some k
      → at places p a ≡ false → is_program p v ≡ true → placed_ranks m moved p ≡ insert_key nat_cmp (placed_ranks m places p) k
  comes_in within p k once found out in_v =
      let w = position-Some (λ x. x == a) (program_of m p).ranking k 0 found in
      let e : 0 + k ≡ k = omega arith in
      ranks_with (at places p) (at moved p) a (others_same p) out (there p within ∙ in_v) 0 (program_of m p).ranking k once w.0 (eqb-true _ _ w.1)
      ∙ ap (insert_key nat_cmp (placed_ranks m places p)) e

  -- the applicant goes from a program
  pub goes_off : a < length places → (p k : ℕ) → is_distinct (program_of m p).ranking ≡ true → position (λ x. x == a) (program_of m p).ranking ≡ Some k
      → is_program p v ≡ false → placed_ranks m moved p ≡ filter (λ r. not (r == k)) (placed_ranks m places p)
  goes_off within p k once found out =
      let w = position-Some (λ x. x == a) (program_of m p).ranking k 0 found in
      let e : 0 + k ≡ k = omega arith in
      ranks_without (at places p) (at moved p) a (others_same p) (there p within ∙ out) 0 (program_of m p).ranking k once w.0 (eqb-true _ _ w.1)
      ∙ ap (λ n. filter (λ r. not (r == n)) (placed_ranks m places p)) e
