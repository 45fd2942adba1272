-- What a desk, a door and a pass show, and what they keep whenever their lock is free.
use Rattle.std.specs.Prelude.{◌≡◌, ℕ, ◌+◌, ◌-◌, ◌<◌, ◌≤◌, ◌==◌, Bool, List, length, take, sum, slice_index_or, slice_set, IsTrue, IsFalse, if◌then◌else◌}
use Rattle.mt_terms.specs.Lists.{Set, has, until}
use Rattle.mt_terms.specs.Market.{Market, applicants, program_of, live}
use Rattle.mt_terms.specs.Choice.{choice}
use Rattle.mt_terms.specs.Best.{IsExcluded}
use Rattle.mt_hold.specs.Holding.{Holding, ranks, received_from}

-- a desk: whose it is, how many proposals the applicant has made, whether it stands, and how many credits are left
pub record DeskView : Type 0 where
  pub applicant : ℕ
  pub made : ℕ
  pub standing : Bool
  pub credits : ℕ

-- a door: whose it is, and what its program holds
pub record DoorView : Type 0 where
  pub program : ℕ
  pub holding : Holding

-- a pass: how many proposals were made with it, and how many to each program and for each applicant
pub record PassView : Type 0 where
  pub proposals : ℕ
  pub by_program : List ℕ
  pub by_applicant : List ℕ

-- whom a door has received, by its program's list
abbrev pub received_at : Market → DoorView → Set
received_at m v = received_from (program_of m v.program) v.holding

-- whom the door's program holds of them
abbrev pub held_at : Market → DoorView → Set
held_at m v = choice (program_of m v.program) (received_at m v)

-- how many entries a desk has passed: all that it proposed to, but for the last one while the applicant is standing
abbrev pub passed_count : ℕ → Bool → ℕ
passed_count made standing = made - (if standing then 1 else 0)

-- the programs above one on an applicant's live list are excluded for it
abbrev pub AllAboveExcluded : Market → ℕ → ℕ → Type 0
AllAboveExcluded m a p = (q : ℕ) → IsTrue (has (until (λ x. x == p) (live m a)) q) → IsExcluded m a q

-- A desk's row can be that of a legal floor. An applicant that is standing has proposed, and each program that it has
-- passed is excluded for it.
pub record IsRow (m : Market) (a made : ℕ) (standing : Bool) : Type 0 where
  pub within : made ≤ length (live m a)
  pub proposed : IsTrue standing → 0 < made
  pub passed_excluded : (p : ℕ) → IsTrue (has (take (passed_count made standing) (live m a)) p) → IsExcluded m a p

-- What a desk keeps. Its credits and its proposals add up to its live entries. Its row can be that of a legal
-- floor: an applicant that stands has proposed, and all that it has passed is excluded for it.
pub record IsDesk (m : Market) (d : DeskView) : Type 0 where
  pub left : d.credits + d.made ≡ length (live m d.applicant)
  pub row : IsRow m d.applicant d.made d.standing

-- an applicant may come to a program: it is a live entry, and all live entries above it are excluded
pub record IsComer (m : Market) (a p : ℕ) : Type 0 where
  pub is_live : IsTrue (has (live m a) p)
  pub above_excluded : AllAboveExcluded m a p

-- What a door keeps. Its holding has its program's quota, and a rank for each applicant on the list. Each
-- applicant that it has received has the program on its live list, and all entries above it are excluded. By
-- the exclusion law a received applicant that isn't held is excluded there.
pub record IsDoor (m : Market) (v : DoorView) : Type 0 where
  pub quota : v.holding.quota ≡ (program_of m v.program).quota
  pub listed : ranks v.holding ≡ length (program_of m v.program).ranking
  pub comers : (a : ℕ) → IsTrue (received_at m v a) → IsComer m a v.program

-- each applicant that a program has received and doesn't hold is excluded there
abbrev pub RefusedAreExcluded : Market → DoorView → Type 0
RefusedAreExcluded m v = (a : ℕ) → IsTrue (received_at m v a) → IsFalse (held_at m v a) → IsExcluded m a v.program

-- What a pass keeps: a count for each program, and one for each applicant. Each of the two lists of counts
-- adds up to its proposals.
pub record IsPass (m : Market) (s : PassView) : Type 0 where
  pub programs : length s.by_program ≡ length m.programs
  pub applicants : length s.by_applicant ≡ applicants m
  pub to_programs : sum s.by_program ≡ s.proposals
  pub by_applicants : sum s.by_applicant ≡ s.proposals

-- counts with one more at a place
abbrev pub counted : List ℕ → ℕ → List ℕ
counted counts k = slice_set counts k (slice_index_or counts k 0 + 1)

-- a pass with one proposal more, to a program and by an applicant
abbrev pub one_more : PassView → ℕ → ℕ → PassView
one_more s p a = record {
  proposals = s.proposals + 1;
  by_program = counted s.by_program p;
  by_applicant = counted s.by_applicant a;
}
