-- How a market may differ from that of a file with one record changed.
use Rattle.std.specs.Prelude.{◌≡◌, ℕ, ◌<◌, List, length}
use Rattle.mt_terms.specs.Market.{Registered, program_of}
use Rattle.mt_terms.specs.Registration.Ids.{Bytes, numbers_of}
use Rattle.mt_terms.specs.Text.{name_of}
use Rattle.mt_applicant_laws.specs.Changes.{with_list, with_quota}

-- A market whose list of the applicant with an id may be another one.
pub record ListChanged (r s : Registered) (id : Bytes) (other : List Bytes) : Type 0 where
  pub number : ℕ
  pub within : number < length r.names.applicants
  pub has_id : name_of r.names.applicants number ≡ id
  pub market_is : s.market ≡ with_list r.market number (numbers_of r.names.programs other)

-- A market whose quota of one program may be another one.
pub record QuotaChanged (r s : Registered) (quota other : ℕ) : Type 0 where
  pub number : ℕ
  pub quota_is : (program_of r.market number).quota ≡ quota
  pub market_is : s.market ≡ with_quota r.market number other
