-- The limits of a version, beside the greatest of all.
use Rattle.std.specs.Prelude.{◌≤◌}
use Rattle.mt_terms.specs.declared.limits.Limits.{Limits}
use Rattle.mt_terms.specs.declared.limits.TheConstants.{LIMITS_2}

-- The limits on programs, applicants, couples and entries are no greater than those of version 2. No version
-- passes these.
pub record AreBounded (limits : Limits) : Type 0 where
  pub programs : limits.programs ≤ LIMITS_2.programs
  pub couples : limits.couples ≤ LIMITS_2.couples
  pub applicants : limits.applicants ≤ LIMITS_2.applicants
  pub entries : limits.entries ≤ LIMITS_2.entries
