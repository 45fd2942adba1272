-- What tables have of the ids that records register.
use Rattle.std.specs.Prelude.{◌≡◌, ℕ, ◌+◌, ◌-◌, ◌^◌, ◌||◌, List, [], ◌∷◌, ◌++◌, length, min, nat_le, take, if◌then◌else◌}
use Rattle.mt_terms.specs.Registration.Ids.{Bytes, has_id}
use Rattle.mt_terms.specs.Registration.Records.{Rules, Kind}
use Rattle.mt_ids.specs.Kinds.{ids_in}
use Rattle.mt_fault_terms.specs.Parts.{Parts, own_ids, applicants_among, all_own_ids, all_applicants, parts_of}
use Rattle.mt_faults.specs.declared.before.Passed.{Passed}
use Rattle.mt_faults.specs.declared.registry.Registry.{Registry}

-- a table with more ids, each that is new to it at its end
abbrev pub added : List Bytes → List Bytes → List Bytes
added table [] = table
added table (id ∷ ids) = added (if has_id table id then table else table ++ id ∷ []) ids

-- A registry's tables get what a record registers.
pub record AddsParts (rules : Rules) (old new : Registry) (parts : Parts) : Type 0 where
  pub registered : (kind : Kind) → ids_in new.registered kind ≡ added (ids_in old.registered kind) (own_ids rules kind parts)
  pub applicants : new.applicants ≡ added old.applicants (applicants_among rules parts)

-- the parts of a row's record: none if the row has no field
abbrev pub row_parts : Rules → List Bytes → List Parts
row_parts rules [] = []
row_parts rules (word ∷ fields) = parts_of rules (word ∷ fields) ∷ []

-- A registry's tables get what these records register.
pub record AddsAll (rules : Rules) (old new : Registry) (records : List Parts) : Type 0 where
  pub registered : (kind : Kind) → ids_in new.registered kind ≡ added (ids_in old.registered kind) (all_own_ids rules kind records)
  pub applicants : new.applicants ≡ added old.applicants (all_applicants rules records)

-- A registry's tables have what these records register.
pub record IsRegistry (rules : Rules) (all : List Parts) (r : Registry) : Type 0 where
  pub registered : (kind : Kind) → ids_in r.registered kind ≡ added [] (all_own_ids rules kind all)
  pub applicants : r.applicants ≡ added [] (all_applicants rules all)

-- how many ids of a table were seen with the next one
abbrev pub seen_with : List Bytes → ℕ → Bytes → ℕ
seen_with table seen id = if has_id (take seen table) id || nat_le (length table) seen then seen else seen + 1

-- the greatest count
abbrev pub most : ℕ
most = 2 ^ 64 - 1

-- These registrations stand before.
pub record IsPassed (ids : List Bytes) (p : Passed) : Type 0 where
  pub seen : p.seen ≡ length (added [] ids)
  pub count : p.count ≡ min (length ids) most

-- With more registrations of what a table has, in its order.
abbrev pub PassesIds : List Bytes → Passed → Passed → List Bytes → Type 0
PassesIds table old new ids = (before rest : List Bytes) → table ≡ added [] (before ++ ids ++ rest) → IsPassed before old → IsPassed (before ++ ids) new
