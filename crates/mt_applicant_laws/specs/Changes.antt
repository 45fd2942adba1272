-- A market with one list or one quota changed, and how an applicant compares two matches.
use Rattle.std.specs.Prelude.{ℕ, List, slice_set, IsTrue, IsFalse}
use Rattle.mt_terms.specs.Lists.{has}
use Rattle.mt_terms.specs.Market.{Market, Program, program_of}
use Rattle.mt_terms.specs.Matching.{Places, at}
use Rattle.mt_terms.specs.Best.{better_programs}

-- the market in which an applicant has another list
abbrev pub with_list : Market → ℕ → List ℕ → Market
with_list m a list = record m { lists = slice_set m.lists a list }

-- the market in which a program is another one, or has another quota
abbrev pub with_program : Market → ℕ → Program → Market
with_program m p program = record m { programs = slice_set m.programs p program }

abbrev pub with_quota : Market → ℕ → ℕ → Market
with_quota m p quota = with_program m p (record (program_of m p) { quota = quota })

-- By its list in a market, an applicant has at least as much in a match as in another one if it doesn't want its
-- place there more.
abbrev pub HasAtLeast : Market → ℕ → Places → Places → Type 0
HasAtLeast m a places other = (p : ℕ) → IsTrue (at other p a) → IsFalse (has (better_programs m places a) p)
