-- A market and its singles' market with live lists alone have the same stable matches of the singles. An entry that
-- isn't mutual can be no place, and nobody blocks with it.
use Rattle.std.specs.Prelude.{◌≡◌, ◌↔◌, ℕ, [], ◌∷◌}
use Rattle.mt_terms.specs.Market.{Market, applicants, live, live_entries, singles_market, live_market}
use Rattle.mt_terms.specs.Matching.{Places}
use Rattle.mt_terms.specs.Stability.{stable}
use Rattle.mt_terms.specs.Best.{IsExcluded, IsBest, proposals}
use Rattle.mt_terms.specs.WellFormed.{IsWellFormed}
use Rattle.mt_terms.specs.Examples.Markets.{one_sided}

-- The live market of a market agrees with it. It is well formed and has the same live lists. It has the same stable
-- matches of the singles and the same best one. The way to that match has the same numbers of proposals.
pub record LiveAgrees (m : Market) : Type 0 where
  pub well_formed : IsWellFormed (live_market m)
  pub same_applicants : applicants (live_market m) ≡ applicants m
  pub same_live : (a : ℕ) → live (live_market m) a ≡ live m a
  pub same_entries : live_entries (live_market m) ≡ live_entries m
  pub same_stable : (places : Places) → stable (singles_market (live_market m)) places ≡ stable (singles_market m) places
  pub same_excluded : (a p : ℕ) → IsExcluded (live_market m) a p ↔ IsExcluded m a p
  pub same_best : (places : Places) → IsBest (live_market m) places ↔ IsBest m places
  pub same_proposals : (places : Places) (p : ℕ) → proposals (live_market m) places p ≡ proposals m places p

-- the live market of each well-formed market agrees with it
abbrev pub LiveMarketAgrees : Type 0
LiveMarketAgrees = (m : Market) → IsWellFormed m → LiveAgrees m

-- An example: if no entry is mutual, nothing is left on the lists, and the market agrees with that.
pub record NothingIsLive : Type 0 where
  pub no_lists : (live_market one_sided).lists ≡ [] ∷ [] ∷ []
  pub agrees : LiveAgrees one_sided
