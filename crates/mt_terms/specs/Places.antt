-- What is asked of a match of a market, whatever made it.
use Rattle.std.specs.Prelude.{◌≡◌, ℕ, ◌<◌, length, IsTrue}
use Rattle.mt_terms.specs.Market.{Market, applicants}
use Rattle.mt_terms.specs.Matching.{Places, at}

-- A match of a market: it has one place for each applicant, and each is none or a program of the market.
pub record ArePlaces (m : Market) (places : Places) : Type 0 where
  pub one_each : length places ≡ applicants m
  pub within : (a p : ℕ) → IsTrue (at places p a) → p < length m.programs
