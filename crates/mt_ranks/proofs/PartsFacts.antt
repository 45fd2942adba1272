-- Rank tables in parts, each of a block of applicants.
use Rattle.std.proofs.Common.{◌≡◌, ℕ, ◌+◌, ◌-◌, ◌*◌, ◌<◌, ◌≤◌, ◌^◌, List, [], map, length, get_or, min, sum, drop, slice_range, ap, ◌∙◌, inl, inr, arith}
use Rattle.std.proofs.lemmas.Bool.{cases_lt}
use Rattle.std.proofs.lemmas.Bool.Decides.{nat_tests}
use Rattle.std.proofs.lemmas.List.{get_or_past, get_or-take, get_or-drop}
use Rattle.std.proofs.lemmas.List.FromFn.{get_or-map-range_with_len, length-map-range_with_len, fill_by_all}
use Rattle.std.proofs.lemmas.List.Sums.{sum_by-take-le, sum_by-take-drop}
use Rattle.mt_terms.specs.Lists.{below}
use Rattle.mt_terms.specs.Market.{Market, applicants, list_of}
use Rattle.mt_terms.specs.WellFormed.{IsWellFormed}
use Rattle.mt_ranks.specs.Entries.{own_entries, rankings_of, entries_among, times_listed, all_times, ListedTimes, AscendFrom}
use Rattle.mt_ranks.specs.Parts.{block_first, block_size, block_of, place_of, part_of, live_among, row_among, IsPart, AreParts, HaveApplicant}
use Rattle.mt_ranks.specs.Rows.{Filling, row_of}
use Rattle.mt_ranks.specs.declared.entries.Live.{Live}
use Rattle.mt_ranks.specs.declared.tables.Part.{Part}
use Rattle.mt_ranks.proofs.LiveLists.{rankings_distinct}
use Rattle.mt_ranks.proofs.Positions.{entries_ascend}
use Rattle.mt_ranks.proofs.RowFacts.{length-range}

-- Below, a block's numbers are those from a place of all on.
pub sum-range : (xs : List ℕ) (a b : ℕ) → sum (slice_range xs a b) ≤ sum xs
sum-range xs a b = omega (arith, sum_by-take-le (λ x. x) (drop a xs) (b - a), sum_by-take-drop (λ x. x) xs a)

pub many_times : (m : Market) (times : List ℕ) → times ≡ all_times m → length times ≡ applicants m
many_times m times are = ap length are ∙ length-map-range_with_len (times_listed (rankings_of m)) 0 (applicants m)

pub block_within : (size number first long count n : ℕ) → first ≡ min (number * size) count → long ≡ min size (count - first) → count ≡ n → first + long ≤ n
block_within size number first long count n from some all = omega arith

pub times_of_block : (m : Market) (times : List ℕ) (from size : ℕ) → times ≡ all_times m → from + size ≤ applicants m → ListedTimes m from size (slice_range times from (from + size))
times_of_block m times from size are within =
    let many = many_times m times are in
    fill_by_all (λ k. times_listed (rankings_of m) (from + k)) (slice_range times from (from + size)) size 0 (omega (arith, length-range times from (from + size) (omega (arith, many))))
    (λ k w.
    let inside : from + k < applicants m = omega arith in
    let short : from + size - from ≡ size = omega arith in
    get_or-take (from + size - from) (drop from times) k 0 (omega arith) ∙ get_or-drop from times k 0 ∙ ap (λ xs. get_or xs (from + k) 0) are
    ∙ get_or-map-range_with_len (times_listed (rankings_of m)) 0 (applicants m) (from + k) (from + k) 0 inside (omega arith))

-- the rows of a block of a well-formed market are in the order of the programs
pub block_ascends : (m : Market) (rows : Filling) (from size k : ℕ) → IsWellFormed m → rows.lists ≡ map (λ j. own_entries m (from + j)) (below size) → AscendFrom 0 (row_of rows k)
block_ascends m rows from size k w h =
    let own : ℕ → List Live = λ j. own_entries m (from + j) in
    elim (cases_lt k size) as (λ o. AscendFrom 0 (row_of rows k)) [
      | inl within ↦ rw (h, get_or-map-range_with_len own 0 size k k [] within (omega arith)) (entries_ascend (rankings_of m) (from + k) (rankings_distinct m w))
      | inr past ↦ rw (h, get_or_past (map own (below size)) k [] (omega (arith, length-map-range_with_len own 0 size))) tt
    ]

-- An applicant's block is one of the four, begins at the applicant or before it, and ends after it.
pub block_below : (size a : ℕ) → block_of size a < 4
block_below size a = grind (arith, nat_tests)

pub block_before : (size a : ℕ) → block_of size a * size ≤ a
block_before size a = grind (arith, nat_tests)

block_after : (size a n : ℕ) → n ≤ size * 4 → a < n → a < block_of size a * size + size
block_after size a n enough within = grind (arith, nat_tests)

-- Below, an applicant is looked up in the part of its block.
module _ (m : Market) (size : ℕ) (parts : List Part) (are : AreParts m size parts) (a : ℕ) (enough : applicants m ≤ size * 4) (within : a < applicants m) where
  own_part : IsPart m size (block_of size a) (part_of parts (block_of size a))
  own_part = are.each (block_of size a) (block_below size a)

  own_first : block_first size (block_of size a) (applicants m) ≡ block_of size a * size
  own_first = omega (arith, block_before size a)

  in_block : place_of size a < block_size size (block_of size a) (applicants m)
  in_block = omega (arith, own_first, block_before size a, block_after size a (applicants m) enough within)

  own_place : block_first size (block_of size a) (applicants m) + place_of size a ≡ a
  own_place = omega (arith, own_first, block_before size a)

  pub row_found : row_among size parts a ≡ own_entries m a
  row_found =
      let number = block_of size a in
      ap (λ rows. get_or rows (place_of size a) []) own_part.rows
      ∙ get_or-map-range_with_len (λ k. own_entries m (block_first size number (applicants m) + k)) 0 (block_size size number (applicants m)) (place_of size a) (place_of size a) [] in_block (omega arith)
      ∙ ap (own_entries m) own_place

  pub live_found : live_among size parts a ≡ entries_among (own_entries m a) (list_of m a)
  live_found =
      let number = block_of size a in
      let rows = (part_of parts number).rows in
      ap (λ lists. get_or lists (place_of size a) []) own_part.lists
      ∙ get_or-map-range_with_len (λ k. entries_among (row_of rows k) (list_of m (block_first size number (applicants m) + k))) 0 (block_size size number (applicants m)) (place_of size a) (place_of size a) [] in_block (omega arith)
      ∙ ap (λ b. entries_among (row_of rows (place_of size a)) (list_of m b)) own_place
      ∙ ap (λ es. entries_among es (list_of m a)) row_found

  pub applicant_held : size < 2 ^ 32 → HaveApplicant size parts a
  applicant_held small =
      let number = block_of size a in
      let first = block_first size number (applicants m) in
      let rows = (part_of parts number).rows in
      record {
        small = small;
        part = omega (arith, are.len, block_below size a);
        within = block_before size a;
        list = omega (arith, in_block, ap length own_part.lists, length-map-range_with_len (λ k. entries_among (row_of rows k) (list_of m (first + k))) 0 (block_size size number (applicants m)));
        row = omega (arith, in_block, ap length own_part.rows, length-map-range_with_len (λ k. own_entries m (first + k)) 0 (block_size size number (applicants m)));
      }
