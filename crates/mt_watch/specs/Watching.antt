-- Where applicants are watched once several have moved, and what is counted and indexed of couples.
use Rattle.std.specs.Prelude.{◌≡◌, ℕ, ◌<◌, ◌≤◌, Bool, true, List, length, map, slice_index_or}
use Rattle.mt_terms.specs.Lists.{has}
use Rattle.mt_terms.specs.Market.{agent_of}
use Rattle.mt_terms.specs.Matching.{Placement}
use Rattle.mt_terms.specs.declared.numbers.Agent.{Agent}
use Rattle.mt_terms.specs.declared.numbers.Agent.TheVariants.{Couple}
use Rattle.mt_assignment.specs.Assigned.{Assigned}
use Rattle.mt_stage_tables.specs.Named.{indexed_count, AreNamed}
use Rattle.mt_watch.specs.declared.watch.Watch.{Watch}
use Rattle.mt_assignment.specs.Watched.{better_pairs, IsWatched, IsWithinList, KeepsOthers, AreWatched}
use Rattle.mt_assignment.specs.Blocking.{is_idle}

-- those that a placement sends somewhere
abbrev pub sent_ones : Placement → List ℕ
sent_ones sent = map (λ s. s.0) sent

-- some applicants are watched by where they are now, and nobody else is watched otherwise
pub record FollowsAll (s : Assigned) (old new : List (List Bool)) (xs : List ℕ) : Type 0 where
  pub as_many : length new ≡ length old
  pub others : length old ≡ length s.market.programs → KeepsOthers s.market old new xs
  pub watched : length old ≡ length s.market.programs → ((a : ℕ) → has xs a ≡ true → IsWithinList s.market old a) → (a : ℕ) → has xs a ≡ true → IsWatched s new a

-- it is counted how many pairs a couple wants more than what it has
abbrev pub IsCounted : Assigned → List ℕ → ℕ → Type 0
IsCounted s counts c = slice_index_or counts c 0 ≡ length (better_pairs s c)

-- so it is for each couple of the market
pub record AreCounted (s : Assigned) (counts : List ℕ) : Type 0 where
  pub one_each : length counts ≡ length s.market.couples
  pub each : (c : ℕ) → c < length s.market.couples → IsCounted s counts c

-- it is counted again for a couple, and the counts of the others are as right as before
pub record CountsCouple (s : Assigned) (old new : List ℕ) (c : ℕ) : Type 0 where
  pub as_many : length new ≡ length old
  pub keeps : (d : ℕ) → IsCounted s old d → IsCounted s new d
  pub counted : c < length old → IsCounted s new c

-- so it is for the couple of an applicant
pub record Counts (s : Assigned) (old new : Watch) (a : ℕ) : Type 0 where
  pub as_many : length new.better.items ≡ length old.better.items
  pub keeps : (c : ℕ) → IsCounted s old.better.items c → IsCounted s new.better.items c
  pub counted : (c : ℕ) → agent_of s.market a ≡ Couple c → c < length old.better.items → IsCounted s new.better.items c

-- so it is for the couples of several applicants
pub record CountsAll (s : Assigned) (old new : Watch) (xs : List ℕ) : Type 0 where
  pub as_many : length new.better.items ≡ length old.better.items
  pub keeps : (c : ℕ) → IsCounted s old.better.items c → IsCounted s new.better.items c
  pub counted : (a : ℕ) → has xs a ≡ true → (c : ℕ) → agent_of s.market a ≡ Couple c → c < length old.better.items → IsCounted s new.better.items c

-- all pairs are indexed that a couple wants more than what it has
abbrev pub IsIndexed : Watch → ℕ → Type 0
IsIndexed w c = slice_index_or w.better.items c 0 ≤ indexed_count w.couples c

-- so they are for a couple now, and no couple has fewer pairs indexed than before
pub record IndexesCouple (old new : Watch) (c : ℕ) : Type 0 where
  pub indexed : IsIndexed new c
  pub keeps : (d : ℕ) → indexed_count old.couples d ≤ indexed_count new.couples d

-- so they are if an agent is a couple, and no couple has fewer pairs indexed than before
pub record IndexesAgent (old new : Watch) (g : Agent) : Type 0 where
  pub indexed : (c : ℕ) → g ≡ Couple c → IsIndexed new c
  pub keeps : (d : ℕ) → indexed_count old.couples d ≤ indexed_count new.couples d

-- a couple that has entered and doesn't wait has all pairs indexed that it wants more than what it has
abbrev pub AreIndexed : ℕ → List Agent → Watch → Type 0
AreIndexed k waiting w = (c : ℕ) → is_idle k waiting (Couple c) ≡ true → IsIndexed w c

-- Once a couple has entered, the singles are watched, and the pairs of the couples that don't wait are indexed. For each
-- couple it is counted how many it wants more than what it has.
pub record IsWatching (k : ℕ) (s : Assigned) (waiting : List Agent) (w : Watch) : Type 0 where
  pub watched : AreWatched s w.singles
  pub named : AreNamed s.market w.couples
  pub counted : AreCounted s w.better.items
  pub indexed : AreIndexed k waiting w
