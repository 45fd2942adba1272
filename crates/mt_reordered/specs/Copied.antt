-- The columns of a market's tables, by number, and where a couple comes in an order.
use Rattle.std.specs.Prelude.{◌≡◌, ℕ, ◌+◌, ◌==◌, List, [], ◌∷◌, map, length, Option, Some, None, slice_index_or, if◌then◌else◌}
use Rattle.mt_terms.specs.Lists.{below}
use Rattle.mt_terms.specs.Market.{Market, Pair, Registered, program_of, couple_of, agent_of}
use Rattle.mt_terms.specs.declared.numbers.Agent.{Agent}
use Rattle.mt_terms.specs.declared.numbers.Agent.TheVariants.{Single, Couple}
use Rattle.mt_market.specs.declared.tables.Tables.{Tables}
use Rattle.mt_order_laws.specs.Reordered.{unless_aside}

-- a program's quota, and its rank order list
abbrev pub quota_at : Market → ℕ → ℕ
quota_at m p = (program_of m p).quota

abbrev pub ranking_at : Market → ℕ → List ℕ
ranking_at m p = (program_of m p).ranking

-- a couple's members and its pairs, and its pairs unless it is set aside
abbrev pub members_at : Market → ℕ → ℕ × ℕ
members_at m c = ((couple_of m c).first, (couple_of m c).second)

abbrev pub pairs_at : Market → ℕ → List Pair
pairs_at m c = (couple_of m c).pairs

abbrev pub pairs_unless_aside : List ℕ → Market → ℕ → List Pair
pairs_unless_aside aside m c = (unless_aside aside m c).pairs

-- where a couple comes in an order whose places are numbered from k on, if it is there
abbrev pub place_from : List ℕ → ℕ → ℕ → Option ℕ
place_from [] k c = None
place_from (x ∷ xs) k c = if x == c then Some k else place_from xs (k + 1) c

-- the agent of an applicant by its couple's place in an order, and by the places of all couples
abbrev pub agent_by_place : ℕ → Option ℕ → Agent
agent_by_place a (Some k) = Couple k
agent_by_place a None = Single a

abbrev pub renumbered : List (Option ℕ) → ℕ → Agent → Agent
renumbered places a (Single b) = Single a
renumbered places a (Couple c) = agent_by_place a (slice_index_or places c None)

-- the agent of an applicant, once the couples of a market are numbered by an order
abbrev pub renumbered_agent : Market → List ℕ → ℕ → Agent
renumbered_agent m order a = renumbered (map (place_from order 0) (below (length m.couples))) a (agent_of m a)

-- The tables have the programs, the lists and the ids of a market. Its couples may be others.
pub record HaveAllButCouples (r : Registered) (t : Tables) : Type 0 where
  pub quotas : t.quotas.items ≡ map (quota_at r.market) (below (length r.market.programs))
  pub rankings : t.by_applicants.rankings ≡ map (ranking_at r.market) (below (length r.market.programs))
  pub lists : t.by_programs.lists ≡ r.market.lists
  pub program_ids : t.program_ids ≡ r.names.programs
  pub applicant_ids : t.applicant_ids ≡ r.names.applicants
