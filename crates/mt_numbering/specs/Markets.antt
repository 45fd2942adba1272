-- What is known of records by the steps to their market.
use Rattle.std.specs.Prelude.{◌≡◌, ◌&&◌, Bool, true, false, List, filter, filter_map, flat_map, Option, Some, None}
use Rattle.mt_draft_laws.specs.Faultless.{is_faultless, faultless_market, ids_differ}
use Rattle.mt_terms.specs.Market.{Registered as Market}
use Rattle.mt_terms.specs.Registration.Ids.{Bytes}
use Rattle.mt_terms.specs.Registration.Records.{Rules, Record, OfProgram, OfCouple}
use Rattle.mt_terms.specs.Registration.Rows.{ids_of, applicant_ids, remaining}
use Rattle.mt_terms.specs.Registration.Numbering.{registered}
use Rattle.mt_terms.specs.Registration.Accepted.{IsRegistration}
use Rattle.mt_ids.specs.declared.kinds.Kinds.{Kinds}
use Rattle.mt_market.specs.declared.tables.ByApplicants.{ByApplicants}
use Rattle.mt_market.specs.declared.tables.ByPrograms.{ByPrograms}
use Rattle.mt_numbering.specs.Numbered.{members_in, ranking_in, lists_by, pairs_in}
use Rattle.mt_numbering.specs.Reading.{lists_stand}

-- The ids are those of these records, and none is registered twice.
pub record AreIdsOfRecords (rs : List Record) (ids : Kinds) : Type 0 where
  pub programs : ids.programs ≡ ids_of OfProgram rs
  pub applicants : ids.applicants ≡ applicant_ids rs
  pub couples : ids.couples ≡ ids_of OfCouple rs
  pub differ : ids_differ rs ≡ true

-- What these records say by the numbers of their own programs and applicants.
pub record AreEntries (rs : List Record) (e : ByApplicants × ByPrograms) : Type 0 where
  pub rankings : e.0.rankings ≡ filter_map (ranking_in (applicant_ids rs)) rs
  pub lists : e.1.lists ≡ flat_map (lists_by (ids_of OfProgram rs)) rs
  pub pairs : e.1.pairs ≡ filter_map (pairs_in (ids_of OfProgram rs)) rs
  pub members : e.0.members.items ≡ filter_map (members_in (applicant_ids rs)) rs

-- No id is registered twice and all lists stand, and this is what the records that stay say; or an id is, or a list
-- doesn't stand.
abbrev pub GivesEntries : Bool → (Record → Bool) → List Record → Option (Kinds × (ByApplicants × ByPrograms)) → Type 0
GivesEntries half_pairs stays rs (Some e) =
    (lists_stand half_pairs (ids_of OfProgram rs) (applicant_ids rs) rs ≡ true) × AreIdsOfRecords rs e.0 × AreEntries (filter stays rs) e.1
GivesEntries half_pairs stays rs None = (ids_differ rs && lists_stand half_pairs (ids_of OfProgram rs) (applicant_ids rs) rs) ≡ false

-- These records have no fault among them, and this is what those that remain of them say; or they have a fault.
abbrev pub Remains : Rules → List Record → List Record → Option (ByApplicants × ByPrograms) → Type 0
Remains rules rs left (Some e) = (is_faultless rules rs ≡ true) × (left ≡ remaining rs) × AreEntries left e
Remains rules rs left None = is_faultless rules rs ≡ false

-- The market of these records, if they have no fault among them.
abbrev pub GivesMarket : Rules → List Record → Option Market → Type 0
GivesMarket rules rs None = is_faultless rules rs ≡ false
GivesMarket rules rs (Some m) = (is_faultless rules rs ≡ true) × (m ≡ registered rs)

-- What is accepted of these rows is a registration.
abbrev pub AcceptsRegistrations : Rules → List (List Bytes) → Type 0
AcceptsRegistrations rules rows = (m : Market) → faultless_market rules rows ≡ Some m → IsRegistration m
