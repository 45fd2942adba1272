-- How a floor is kept, and which floor of a market that is.
use Rattle.std.specs.Prelude.{◌≡◌, ℕ, ◌+◌, Bool, false, List, length, map, slice_index_or, slice_set}
use Rattle.mt_terms.specs.Lists.{Set, below}
use Rattle.mt_terms.specs.Market.{Market, applicants, program_of}
use Rattle.mt_terms.specs.Floor.{Floor}
use Rattle.mt_hold.specs.Holding.{Holding, ranks, held, opened, receive, received_from}

-- for each applicant how many proposals it has made and whether it stands, and for each program its holding
pub record Tables : Type 0 where
  pub made : List ℕ
  pub standing : List Bool
  pub holds : List Holding

-- the holding of a program: a number that no program has gives a holding that has received nothing
abbrev pub hold_of : Tables → ℕ → Holding
hold_of t p = slice_index_or t.holds p (opened 0 0)

-- the applicants that a program has received
abbrev pub received_by : Market → Tables → ℕ → Set
received_by m t p = received_from (program_of m p) (hold_of t p)

-- the floor of a market that tables show
unfoldable pub floor_of : Market → Tables → Floor
floor_of m t = record {
  made = λ a. slice_index_or t.made a 0;
  standing = λ a. slice_index_or t.standing a false;
  received = received_by m t;
}

-- The tables were opened for a market: they have a place for each of its applicants and programs. Each
-- holding has its program's quota, and a rank for each applicant on the list.
pub record IsOpenedWith (m : Market) (t : Tables) : Type 0 where
  pub made : length t.made ≡ applicants m
  pub standing : length t.standing ≡ applicants m
  pub holds : length t.holds ≡ length m.programs
  pub quotas : (p : ℕ) → (hold_of t p).quota ≡ (program_of m p).quota
  pub lists : (p : ℕ) → ranks (hold_of t p) ≡ length (program_of m p).ranking

-- the holding of a program of a market before it has received anybody
abbrev pub opened_for : Market → ℕ → Holding
opened_for m p = opened (program_of m p).quota (length (program_of m p).ranking)

-- the holdings of all programs of a market before they have received anybody
abbrev pub all_opened : Market → List Holding
all_opened m = map (opened_for m) (below (length m.programs))

-- the tables with an applicant that stands, or doesn't
abbrev pub with_standing : Tables → ℕ → Bool → Tables
with_standing t a standing = record t { standing = slice_set t.standing a standing }

-- the tables after an applicant's proposal to a program on whose list it has this rank
abbrev pub entered : Tables → ℕ → ℕ → ℕ → Tables
entered t a p rank = record {
  made = slice_set t.made a (slice_index_or t.made a 0 + 1);
  standing = slice_set t.standing a (held (receive (hold_of t p) rank) rank);
  holds = slice_set t.holds p (receive (hold_of t p) rank);
}
