-- What an assignment's tables mean.
use Rattle.std.specs.Prelude.{◌≡◌}
use Rattle.mt_terms.specs.Registration.Accepted.{IsRegistration}
use Rattle.mt_ranks.specs.Ranked.{ranked_of}
use Rattle.mt_terms.specs.Places.{ArePlaces}
use Rattle.mt_terms.specs.Matching.{ranks_by_program}
use Rattle.mt_assignment.specs.Assigned.{Assigned, AreListed}
use Rattle.mt_assignment.specs.declared.assignment.Assignment.TheInside.{Inside}

abbrev pub assigned_of : Inside → Assigned
assigned_of t = record { market = t.roster.now.market; places = t.places.items }

-- The rank tables are those of the market. Each applicant has one place, at a program that lists it. Each program has
-- the ranks of the applicants that are placed there.
pub record AreTables (t : Inside) : Type 0 where
  pub is_registration : IsRegistration t.roster.now
  pub one_market : t.ranks.now ≡ ranked_of t.roster.now.market
  pub are_places : ArePlaces t.roster.now.market t.places.items
  pub listed : AreListed t.roster.now.market t.places.items
  pub rows : t.rows.items ≡ ranks_by_program t.roster.now.market t.places.items
