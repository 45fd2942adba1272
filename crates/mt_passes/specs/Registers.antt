-- What a register's tables say of its records.
use Rattle.std.specs.Prelude.{◌≡◌, ◌≤◌, Bool, false, List, ◌++◌, length, map, option_to_list}
use Rattle.mt_terms.specs.Registration.Ids.{has_id}
use Rattle.mt_terms.specs.Registration.Records as model
use Rattle.mt_terms.specs.Registration.Rows.{own_id, withdrawn_id, applicants_of, ids_of, withdrawn, applicant_ids, entry_count}
use Rattle.mt_terms.specs.Registration.Passes.{Numbered, contents}
use Rattle.mt_terms.specs.declared.limits.TheConstants.{LIMITS_2}
use Rattle.mt_passes.specs.declared.register.Numbered as declared
use Rattle.mt_passes.specs.declared.register.Register.{Register}
use Rattle.mt_records.specs.Records.{record_seen}
use Rattle.mt_ids.specs.Kinds.{ids_in}

abbrev pub numbered_seen : declared.Numbered → Numbered model.Record
numbered_seen n = (n.row, record_seen n.record)

abbrev pub records_seen : Register → List (Numbered model.Record)
records_seen r = map numbered_seen r.records.items

-- the records without their numbers
abbrev pub contents_seen : Register → List model.Record
contents_seen r = contents (records_seen r)

-- whether a record withdraws what was withdrawn before
abbrev pub withdraws_twice : List model.Record → model.Record → Bool
withdraws_twice before (model.WithdrawRecord kind id) = has_id (withdrawn kind before) id
withdraws_twice before _ = false

-- No more of anything than an input may have.
pub record AreFew (rs : List model.Record) : Type 0 where
  pub programs : length (ids_of model.OfProgram rs) ≤ LIMITS_2.programs
  pub couples : length (ids_of model.OfCouple rs) ≤ LIMITS_2.couples
  pub applicants : length (applicant_ids rs) ≤ LIMITS_2.applicants
  pub entries : entry_count rs ≤ LIMITS_2.entries

-- The tables are those of the records.
pub record IsRegister (r : Register) : Type 0 where
  pub registered : (kind : model.Kind) → ids_in r.registered kind ≡ ids_of kind (contents_seen r)
  pub applicants : r.applicants ≡ applicant_ids (contents_seen r)
  pub withdrawn : (kind : model.Kind) → ids_in r.withdrawn kind ≡ withdrawn kind (contents_seen r)
  pub entries : r.entries ≡ entry_count (contents_seen r)
  pub few : AreFew (contents_seen r)

-- A register's tables get what a record registers and withdraws.
pub record AddsRecord (old new : Register) (r : model.Record) : Type 0 where
  pub records : new.records ≡ old.records
  pub registered : (kind : model.Kind) → ids_in new.registered kind ≡ ids_in old.registered kind ++ option_to_list (own_id kind r)
  pub applicants : new.applicants ≡ old.applicants ++ applicants_of r
  pub withdrawn : (kind : model.Kind) → ids_in new.withdrawn kind ≡ ids_in old.withdrawn kind ++ option_to_list (withdrawn_id kind r)
  pub entries : new.entries ≡ old.entries
