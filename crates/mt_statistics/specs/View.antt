-- What the statistics of a match rest on.
use Rattle.std.specs.Prelude.{◌≡◌}
use Rattle.mt_terms.specs.Matching.{filled_counts}
use Rattle.mt_terms.specs.Registration.Accepted.{IsRegistration}
use Rattle.mt_statistics.specs.declared.statistics.Statistics.TheInside.{Inside}

-- The market is one of a file, and the counts are of the match.
pub record AreCounted (s : Inside) : Type 0 where
  pub registration : IsRegistration s.tables.registered
  pub filled : s.filled.items ≡ filled_counts s.tables.registered.market s.tables.places
