-- How tables are seen as a market with its names, and which tables are those of a file.
use Rattle.std.specs.Prelude.{◌≡◌, ℕ, List, [], ◌∷◌, map, length}
use Rattle.mt_terms.specs.Lists.{below}
use Rattle.mt_terms.specs.Market.{Program, Pair, Partners, Registered, agent_of}
use Rattle.mt_terms.specs.Registration.Accepted.{IsRegistration}
use Rattle.mt_market.specs.declared.tables.Tables.{Tables}

-- programs with these quotas and rankings
abbrev pub programs_with : List ℕ → List (List ℕ) → List Program
programs_with [] rankings = []
programs_with (q ∷ qs) [] = []
programs_with (q ∷ qs) (r ∷ rs) = record { quota = q; ranking = r } ∷ programs_with qs rs

-- couples with these members and pairs
abbrev pub couples_with : List (ℕ × ℕ) → List (List Pair) → List Partners
couples_with [] pairs = []
couples_with (x ∷ xs) [] = []
couples_with (x ∷ xs) (p ∷ ps) = record { first = x.0; second = x.1; pairs = p } ∷ couples_with xs ps

-- the market that tables show, with its ids
abbrev pub registered_of : Tables → Registered
registered_of t = record {
  market = record { programs = programs_with t.quotas.items t.by_applicants.rankings; lists = t.by_programs.lists; couples = couples_with t.by_applicants.members.items t.by_programs.pairs };
  names = record { programs = t.program_ids; applicants = t.applicant_ids; couples = t.couple_ids };
}

-- The two tables of programs have one length, and so have the two of couples. Each applicant's agent is the
-- one that the market gives it. The market is a registration.
pub record AreTables (t : Tables) : Type 0 where
  pub rankings : length t.by_applicants.rankings ≡ length t.quotas.items
  pub pairs : length t.by_programs.pairs ≡ length t.by_applicants.members.items
  pub agents : t.agents.items ≡ map (agent_of (registered_of t).market) (below (length t.by_programs.lists))
  pub registration : IsRegistration (registered_of t)
