-- The ids of records, and which applicants are singles.
use Rattle.std.specs.Prelude.{◌≡◌, ◌++◌, Bool, true, false, List, [], ◌∷◌, flat_map, option_to_list}
use Rattle.mt_terms.specs.Registration.Records.{Record, ApplicantRecord, CoupleRecord, OfProgram, OfCouple}
use Rattle.mt_terms.specs.Registration.Rows.{own_id, ids_of, applicants_of, applicant_ids}
use Rattle.mt_drafts.specs.declared.names.NameLists.{NameLists}

-- for each applicant that a record registers whether it is a single
abbrev pub singles_of : Record → List Bool
singles_of (ApplicantRecord id list) = true ∷ []
singles_of (CoupleRecord id a b pairs) = false ∷ false ∷ []
singles_of _ = []

-- for each applicant that records register whether it is a single
abbrev pub single_flags : List Record → List Bool
single_flags records = flat_map singles_of records

-- The ids are those that these records register, and the flags say which applicants are singles.
pub record AreNames (rs : List Record) (n : NameLists) : Type 0 where
  pub programs : n.programs ≡ ids_of OfProgram rs
  pub applicants : n.applicants ≡ applicant_ids rs
  pub couples : n.couples ≡ ids_of OfCouple rs
  pub singles : n.singles.items ≡ single_flags rs

-- The ids that a record registers are added at the end.
pub record AddsNames (old new : NameLists) (r : Record) : Type 0 where
  pub programs : new.programs ≡ old.programs ++ option_to_list (own_id OfProgram r)
  pub applicants : new.applicants ≡ old.applicants ++ applicants_of r
  pub couples : new.couples ≡ old.couples ++ option_to_list (own_id OfCouple r)
  pub singles : new.singles.items ≡ old.singles.items ++ singles_of r

-- The ids of others are added at the end.
pub record AddsAllNames (old new others : NameLists) : Type 0 where
  pub programs : new.programs ≡ old.programs ++ others.programs
  pub applicants : new.applicants ≡ old.applicants ++ others.applicants
  pub couples : new.couples ≡ old.couples ++ others.couples
  pub singles : new.singles.items ≡ old.singles.items ++ others.singles.items
