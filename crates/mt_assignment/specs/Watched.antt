-- What an agent wants more than what it has, and where applicants are watched for it.
use Rattle.std.specs.Prelude.{◌≡◌, ℕ, ◌<◌, Bool, true, false, not, ◌&&◌, ◌||◌, ◌==◌, List, [], ◌∷◌, drop, length, Option, Some, slice_index_or, slice_range}
use Rattle.std.specs.List.{list_any}
use Rattle.mt_terms.specs.Lists.{Set, has, until}
use Rattle.mt_terms.specs.Market.{Market, Pair, applicants, couple_of, list_of, live_market}
use Rattle.mt_terms.specs.Matching.{at, holds, is_program}
use Rattle.mt_terms.specs.Stability.{would_be_taken}
use Rattle.mt_ranks.specs.Ranked.{rank_of, ranked_list}
use Rattle.mt_ranks.specs.declared.entries.Live.{Live}
use Rattle.mt_bits.specs.Members.{is_in}
use Rattle.mt_assignment.specs.Assigned.{Assigned, pair_of}
use Rattle.mt_stage_tables.specs.Named.{names}

-- the programs that an applicant's list has before its place
abbrev pub wanted : Assigned → ℕ → List ℕ
wanted s a = until (λ p. at s.places p a) (list_of s.market a)

-- an applicant's live entries before its place, each with its rank there: all of them if none of them is its
-- place
abbrev pub better_entries : Assigned → ℕ → List Live
better_entries s a = until (λ (e : Live). at s.places e.program a) (ranked_list (live_market s.market) a)

-- an applicant's live entries from its place on: none if none of them is its place
abbrev pub other_entries : Assigned → ℕ → List Live
other_entries s a = drop (length (better_entries s a)) (ranked_list (live_market s.market) a)

-- an applicant's live entries before a place, each with its rank there: all of them if none of them is that place
abbrev pub entries_until : Market → ℕ → Option ℕ → List Live
entries_until m a place = until (λ (e : Live). is_program e.program place) (ranked_list m a)

-- whether an applicant has a live entry at a place
abbrev pub has_entry_at : Market → ℕ → Option ℕ → Bool
has_entry_at m a place = list_any (λ (e : Live). is_program e.program place) (ranked_list m a)

-- if a place is a program, the applicant has this rank there
abbrev pub IsRankAtPlace : Market → ℕ → Option ℕ → ℕ → Type 0
IsRankAtPlace m a place r = (p : ℕ) → place ≡ Some p → rank_of m p a ≡ Some r

-- the pairs of a couple's list before the one that it has: all of them if it has none
abbrev pub better_pairs : Assigned → ℕ → List Pair
better_pairs s c = until (λ pair. holds s.places (pair_of s c pair)) (couple_of s.market c).pairs

-- the ranks that are watched at a program
abbrev pub ranks_at : List (List Bool) → ℕ → Set
ranks_at rows p = is_in (slice_index_or rows p [])

-- whether one of these entries is that of a rank at a program
abbrev pub is_entry : List Live → ℕ → ℕ → Bool
is_entry entries p r = list_any (λ (e : Live). e.program == p && e.rank == r) entries

-- There is a set of watched ranks for each program, and no rank is in one.
pub record AreUnwatched (m : Market) (rows : List (List Bool)) : Type 0 where
  pub one_each : length rows ≡ length m.programs
  pub none : (p r : ℕ) → ranks_at rows p r ≡ false

-- an applicant is watched at a program that lists it if it wants that more than what it has, and at no other
abbrev pub IsWatched : Assigned → List (List Bool) → ℕ → Type 0
IsWatched s rows a = (p r : ℕ) → p < length s.market.programs → rank_of s.market p a ≡ Some r → ranks_at rows p r ≡ has (wanted s a) p

-- There is a set of watched ranks for each program. Each applicant is watched at each program that lists it
-- and that it wants more than what it has, and nowhere else.
pub record AreWatched (s : Assigned) (rows : List (List Bool)) : Type 0 where
  pub one_each : length rows ≡ length s.market.programs
  pub each : (a : ℕ) → a < applicants s.market → IsWatched s rows a

-- it is watched at no program that isn't on its list
abbrev pub IsWithinList : Market → List (List Bool) → ℕ → Type 0
IsWithinList m rows a = (p r : ℕ) → p < length m.programs → rank_of m p a ≡ Some r → ranks_at rows p r ≡ true → has (list_of m a) p ≡ true

-- each applicant that isn't one of these is watched where it was
abbrev pub KeepsOthers : Market → List (List Bool) → List (List Bool) → List ℕ → Type 0
KeepsOthers m old new xs = (b p r : ℕ) → has xs b ≡ false → p < length m.programs → rank_of m p b ≡ Some r → ranks_at new p r ≡ ranks_at old p r

-- each of these entries is watched too
pub record Watches (old new : List (List Bool)) (entries : List Live) : Type 0 where
  pub as_many : length new ≡ length old
  pub now : (p r : ℕ) → p < length old → ranks_at new p r ≡ (is_entry entries p r || ranks_at old p r)

-- none of these entries is watched any more
pub record Unwatches (old new : List (List Bool)) (entries : List Live) : Type 0 where
  pub as_many : length new ≡ length old
  pub now : (p r : ℕ) → p < length old → ranks_at new p r ≡ (not (is_entry entries p r) && ranks_at old p r)

-- an applicant is watched by where it is now, and nobody else is watched otherwise
pub record Follows (s : Assigned) (old new : List (List Bool)) (a : ℕ) : Type 0 where
  pub as_many : length new ≡ length old
  pub others : length old ≡ length s.market.programs → KeepsOthers s.market old new (a ∷ [])
  pub watched : length old ≡ length s.market.programs → IsWithinList s.market old a → IsWatched s new a

-- whether a couple has a pair at a program that would be taken, of those from one index on its list up to another
abbrev pub opens_between : Assigned → ℕ → ℕ → ℕ → ℕ → Bool
opens_between s c p from end =
    list_any (λ pair. names p pair && would_be_taken s.market s.places (pair_of s c pair)) (slice_range (couple_of s.market c).pairs from end)
