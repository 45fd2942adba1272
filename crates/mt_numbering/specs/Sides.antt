-- What the lists of records say by applicants, and what they say by programs. Neither needs the other.
use Rattle.std.specs.Prelude.{◌≡◌, ◌&&◌, Bool, true, false, List, filter, filter_map, flat_map, Option, Some, None, bytes_eq}
use Rattle.std.specs.List.{list_all}
use Rattle.mt_draft_laws.specs.Faultless.{ranking_stands, list_stands, pairs_stand}
use Rattle.mt_terms.specs.Registration.Ids.{Bytes, all_differ}
use Rattle.mt_terms.specs.Registration.Records.{Record, OfProgram}
use Rattle.mt_terms.specs.Registration.Rows.{ids_of, applicant_ids}
use Rattle.mt_market.specs.declared.tables.ByApplicants.{ByApplicants}
use Rattle.mt_market.specs.declared.tables.ByPrograms.{ByPrograms}
use Rattle.mt_numbering.specs.Numbered.{members_in, ranking_in, lists_by, pairs_in}

-- whether no two applicants have one id, and each program's list names applicants alone, none of them twice
abbrev pub applicants_stand : List Record → Bool
applicants_stand rs = all_differ bytes_eq (applicant_ids rs) && list_all (ranking_stands (applicant_ids rs)) rs

-- whether no two programs have one id, and each applicant's list and each couple's pairs stand
abbrev pub programs_stand : Bool → List Record → Bool
programs_stand half_pairs rs =
    all_differ bytes_eq (ids_of OfProgram rs) && list_all (list_stands (ids_of OfProgram rs)) rs
    && list_all (pairs_stand half_pairs (ids_of OfProgram rs)) rs

-- The ids are those of all applicants, and this is what the records that stay say by the applicants among them.
pub record AreByApplicants (stays : Record → Bool) (rs : List Record) (b : List Bytes × ByApplicants) : Type 0 where
  pub ids : b.0 ≡ applicant_ids rs
  pub rankings : b.1.rankings ≡ filter_map (ranking_in (applicant_ids (filter stays rs))) (filter stays rs)
  pub members : b.1.members.items ≡ filter_map (members_in (applicant_ids (filter stays rs))) (filter stays rs)

-- The ids are those of all programs, and this is what the records that stay say by the programs among them.
pub record AreByPrograms (stays : Record → Bool) (rs : List Record) (b : List Bytes × ByPrograms) : Type 0 where
  pub ids : b.0 ≡ ids_of OfProgram rs
  pub lists : b.1.lists ≡ flat_map (lists_by (ids_of OfProgram (filter stays rs))) (filter stays rs)
  pub pairs : b.1.pairs ≡ filter_map (pairs_in (ids_of OfProgram (filter stays rs))) (filter stays rs)

-- All stand, and were read; or one doesn't stand.
abbrev pub GivesByApplicants : (Record → Bool) → List Record → Option (List Bytes × ByApplicants) → Type 0
GivesByApplicants stays rs (Some b) = (applicants_stand rs ≡ true) × AreByApplicants stays rs b
GivesByApplicants stays rs None = applicants_stand rs ≡ false

abbrev pub GivesByPrograms : Bool → (Record → Bool) → List Record → Option (List Bytes × ByPrograms) → Type 0
GivesByPrograms half_pairs stays rs (Some b) = (programs_stand half_pairs rs ≡ true) × AreByPrograms stays rs b
GivesByPrograms half_pairs stays rs None = programs_stand half_pairs rs ≡ false

-- These ids differ, and the table has them in their order; or two are the same.
abbrev pub IsTableOf : List Bytes → Option (List Bytes) → Type 0
IsTableOf names (Some ids) = (all_differ bytes_eq names ≡ true) × (ids ≡ names)
IsTableOf names None = all_differ bytes_eq names ≡ false
