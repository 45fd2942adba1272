-- Which pairs of couples' lists are indexed at the programs that they name.
use Rattle.std.specs.Prelude.{◌≡◌, ℕ, ◌<◌, ◌≤◌, Bool, true, ◌||◌, min, max, ◌⊎◌, List, [], length, replicate, Option, slice_index_or, slice_set}
use Rattle.mt_terms.specs.Market.{Market, Pair, couple_of}
use Rattle.mt_terms.specs.Matching.{is_program}
use Rattle.mt_stage_tables.specs.Indexing.{greatest, has_couple, is_indexed}
use Rattle.mt_stage_tables.specs.declared.couple_list.NamedPairs.{NamedPairs}

-- the entries of each program, and for each couple how many of its pairs are indexed, from the first on
pub record Index : Type 0 where
  pub rows : List (List NamedPairs)
  pub counts : List ℕ

-- no entries, for this many programs and couples
abbrev pub nothing_indexed : ℕ → ℕ → Index
nothing_indexed programs couples = record { rows = replicate programs []; counts = replicate couples 0 }

-- the entries of a program
abbrev pub row_at : List (List NamedPairs) → ℕ → List NamedPairs
row_at rows p = slice_index_or rows p []

-- how many pairs of a couple's list are indexed, from the first on
abbrev pub indexed_count : Index → ℕ → ℕ
indexed_count n c = slice_index_or n.counts c 0

-- whether a pair names a program
abbrev pub names : ℕ → Pair → Bool
names p pair = is_program p pair.0 || is_program p pair.1

-- each pair that was indexed at a program is so still
abbrev pub KeepsIndexed : List (List NamedPairs) → List (List NamedPairs) → Type 0
KeepsIndexed old new = (p c i : ℕ) → is_indexed (row_at old p) c i ≡ true → is_indexed (row_at new p) c i ≡ true

-- a couple's pair at an index is indexed too, at the program of a place
pub record Indexes (old new : List (List NamedPairs)) (place : Option ℕ) (c from : ℕ) : Type 0 where
  pub as_many : length new ≡ length old
  pub keeps : KeepsIndexed old new
  pub adds : (p i : ℕ) → is_program p place ≡ true → p < length old → min i greatest ≡ from → is_indexed (row_at new p) c i ≡ true
  pub only : (p d : ℕ) → has_couple (row_at new p) d ≡ true → (has_couple (row_at old p) d ≡ true) ⊎ (c ≡ d)

-- a couple's pairs from one index on up to another are indexed too, at the programs that they name
pub record IndexesPairs (old new : List (List NamedPairs)) (c : ℕ) (pairs : List Pair) (start end : ℕ) : Type 0 where
  pub as_many : length new ≡ length old
  pub keeps : KeepsIndexed old new
  pub adds : (p i : ℕ) (pair : Pair) → p < length old → start ≤ i → i < end → pair ≡ slice_index_or pairs i pair → names p pair ≡ true → is_indexed (row_at new p) c i ≡ true
  pub only : (p d : ℕ) → has_couple (row_at new p) d ≡ true → (has_couple (row_at old p) d ≡ true) ⊎ (c ≡ d)

-- A couple's pairs that weren't indexed are indexed up to an index, at each program that they name. No other couple is.
-- As many are counted for it then, if they are more than before.
pub record IndexesUpTo (old new : Index) (c : ℕ) (pairs : List Pair) (end : ℕ) : Type 0 where
  pub rows : IndexesPairs old.rows new.rows c pairs (indexed_count old c) end
  pub counts : new.counts ≡ slice_set old.counts c (max (indexed_count old c) end)

-- the first pairs of a couple's list, as many as its count, are indexed at the programs that they name
abbrev pub IsNamed : Market → Index → ℕ → Type 0
IsNamed m n c =
    (p i : ℕ) (pair : Pair) → p < length m.programs → i < indexed_count n c → i < length (couple_of m c).pairs → pair ≡ slice_index_or (couple_of m c).pairs i pair
    → names p pair ≡ true → is_indexed (row_at n.rows p) c i ≡ true

-- so it is for each couple, and only couples of the market are indexed
pub record AreNamed (m : Market) (n : Index) : Type 0 where
  pub one_each : length n.rows ≡ length m.programs
  pub counts : length n.counts ≡ length m.couples
  pub each : (c : ℕ) → IsNamed m n c
  pub within : (p c : ℕ) → has_couple (row_at n.rows p) c ≡ true → c < length m.couples
