-- GrowingLists in one list, each within room of its own.
use Rattle.std.specs.Prelude.{◌≡◌, ◌≢◌, ℕ, ◌<◌, ◌≤◌, ◌⊎◌, List, [], ◌∷◌, ◌++◌, length, slice_index_or, slice_range}
use Rattle.mt_flat.specs.declared.growing_lists.Span.{Span}

-- the row of a span
abbrev pub row_in : {X : Type 0} → List X → Span → List X
row_in xs w = slice_range xs w.start w.end

-- the span with a number, and an empty one past the last
abbrev pub span_at : List Span → ℕ → Span
span_at spans k = slice_index_or spans k (record { start = 0; end = 0; limit = 0 })

-- a row ends within its room, and the room within this number of elements
pub record IsSpan (size : ℕ) (w : Span) : Type 0 where
  pub ordered : w.start ≤ w.end
  pub roomy : w.end ≤ w.limit
  pub within : w.limit ≤ size

-- two rooms have nothing in common
abbrev pub AreApart : Span → Span → Type 0
AreApart v w = (v.limit ≤ w.start) ⊎ (w.limit ≤ v.start)

-- so it is for all rows
pub record AreSpans (size : ℕ) (spans : List Span) : Type 0 where
  pub each : (k : ℕ) → k < length spans → IsSpan size (span_at spans k)
  pub apart : (j k : ℕ) → j < length spans → k < length spans → j ≢ k → AreApart (span_at spans j) (span_at spans k)

-- elements were added at the end
pub record Extends {X : Type 0} (old new : List X) : Type 0 where
  pub rest : List X
  pub is : new ≡ old ++ rest

-- a row is behind what was there before, with an element more
pub record IsMoved {X : Type 0} (old new : List X) (from : Span) (x : X) (w : Span) : Type 0 where
  pub behind : length old ≤ w.start
  pub is_span : IsSpan (length new) w
  pub row : row_in new w ≡ row_in old from ++ x ∷ []
