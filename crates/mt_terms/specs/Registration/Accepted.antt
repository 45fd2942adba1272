-- A market with its names, as the file of records leaves it: well formed, and within the limits.
use Rattle.std.specs.Prelude.{◌≡◌, ℕ, ◌+◌, ◌*◌, ◌≤◌, Bool, true, ◌||◌, ◌&&◌, ◌==◌, nat_lt, List, length, sum_by, Option, Some, None, is_some, bytes_eq, IsTrue}
use Rattle.std.specs.List.{list_all}
use Rattle.std.specs.Option.{option_eq}
use Rattle.mt_terms.specs.declared.limits.TheConstants.{LIMITS_2}
use Rattle.mt_terms.specs.Market.{Market, Program, Partners, Pair, Registered, applicants, couple_of, program_of}
use Rattle.mt_terms.specs.WellFormed.{IsWellFormed}
use Rattle.mt_terms.specs.Registration.Ids.{Bytes, is_id, all_differ}

-- a pair of programs below n: one of the two may be none
abbrev pub is_none_or_below : ℕ → Option ℕ → Bool
is_none_or_below n None = true
is_none_or_below n (Some x) = nat_lt x n

abbrev pub is_pair_below : ℕ → Pair → Bool
is_pair_below n p = (is_some p.0 || is_some p.1) && is_none_or_below n p.0 && is_none_or_below n p.1

abbrev pub are_same_places : Pair → Pair → Bool
are_same_places p q = option_eq ◌==◌ p.0 q.0 && option_eq ◌==◌ p.1 q.1

-- names that fit this number of rows: an id for each, and none twice
pub record AreNames (n : ℕ) (ids : List Bytes) : Type 0 where
  pub one_each : length ids ≡ n
  pub are_ids : IsTrue (list_all (is_id LIMITS_2.id_bytes) ids)
  pub differ : IsTrue (all_differ bytes_eq ids)

-- how many list entries a market has: a pair is two
abbrev pub list_entries : Market → ℕ
list_entries m = sum_by (λ p. length (Program.ranking p)) m.programs + sum_by length m.lists + 2 * sum_by (λ c. length (Partners.pairs c)) m.couples

-- A market with its ids, as every accepted file has it: well formed, and within the limits. Each pair names
-- one or two programs of the market, and no couple lists a pair twice. Each program, applicant and couple has
-- an id of its own.
pub record IsRegistration (r : Registered) : Type 0 where
  pub well_formed : IsWellFormed r.market
  pub pairs_below : (c : ℕ) → IsTrue (list_all (is_pair_below (length r.market.programs)) (couple_of r.market c).pairs)
  pub pairs_differ : (c : ℕ) → IsTrue (all_differ are_same_places (couple_of r.market c).pairs)
  pub program_names : AreNames (length r.market.programs) r.names.programs
  pub applicant_names : AreNames (applicants r.market) r.names.applicants
  pub couple_names : AreNames (length r.market.couples) r.names.couples
  pub few_programs : length r.market.programs ≤ LIMITS_2.programs
  pub few_applicants : applicants r.market ≤ LIMITS_2.applicants
  pub few_couples : length r.market.couples ≤ LIMITS_2.couples
  pub few_entries : list_entries r.market ≤ LIMITS_2.entries
  pub quotas : (p : ℕ) → (program_of r.market p).quota ≤ LIMITS_2.quota
