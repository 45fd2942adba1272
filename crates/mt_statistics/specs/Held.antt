-- Numbers that some agents have, and how many have each.
use Rattle.std.specs.Prelude.{ℕ, List, Option, None, length, map, slice_index_or}
use Rattle.mt_terms.specs.Lists.{below, count}
use Rattle.mt_terms.specs.Matching.{is_program}
use Rattle.mt_statistics.specs.Counts.{greatest_below, ordinal}

-- the largest of some numbers, counted from 1, or 0 if there is none
abbrev pub most_held : List (Option ℕ) → ℕ
most_held held = greatest_below (λ i. ordinal (slice_index_or held i None)) (length held)

-- how often each number up to the largest is among them
abbrev pub held_counts : List (Option ℕ) → List ℕ
held_counts held = map (λ k. count (is_program k) held) (below (most_held held))
