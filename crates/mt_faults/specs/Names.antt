-- What a record names, of each kind.
use Rattle.std.specs.Prelude.{◌≡◌, List, [], drop}
use Rattle.mt_terms.specs.Registration.Records.{Rules, OfProgram, OfApplicant, OfCouple}
use Rattle.mt_fault_terms.specs.Faults.{Placed}
use Rattle.mt_fault_terms.specs.Parts.{Form, Registers, Parts, ids_among, own_ids, applicants_among, withdrawn_ids}
use Rattle.mt_faults.specs.declared.names.Names.{Names}
use Rattle.mt_faults.specs.Seen.{placed_left}

-- The ids among these fields are those that a record registers and withdraws.
pub record AreNamed (p : Parts) (n : Names) : Type 0 where
  pub programs : (rules : Rules) → ids_among rules (placed_left n.programs) ≡ own_ids rules OfProgram p
  pub singles : (rules : Rules) → ids_among rules (placed_left n.singles) ≡ own_ids rules OfApplicant p
  pub couples : (rules : Rules) → ids_among rules (placed_left n.couples) ≡ own_ids rules OfCouple p
  pub applicants : (rules : Rules) → ids_among rules (placed_left n.applicants) ≡ applicants_among rules p
  pub withdrawn_programs : (rules : Rules) → ids_among rules (placed_left n.withdrawn_programs) ≡ withdrawn_ids rules OfProgram p
  pub withdrawn_singles : (rules : Rules) → ids_among rules (placed_left n.withdrawn_singles) ≡ withdrawn_ids rules OfApplicant p
  pub withdrawn_couples : (rules : Rules) → ids_among rules (placed_left n.withdrawn_couples) ≡ withdrawn_ids rules OfCouple p

-- the fields for the members of a couple: none of another record
abbrev pub members_of : Parts → List Placed
members_of parts = by_form parts.form
  where
    by_form : Form → List Placed
    by_form (Registers OfCouple) = drop 1 parts.names
    by_form _ = []
