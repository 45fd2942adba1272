-- What the reading of records' lists gives, and of their couples' members.
use Rattle.std.specs.Prelude.{ℕ, ◌&&◌, Bool, List, Option, None}
use Rattle.std.specs.List.{list_all}
use Rattle.mt_draft_laws.specs.Faultless.{ranking_stands, list_stands, pairs_stand}
use Rattle.mt_draft_laws.specs.Staying.{both_there}
use Rattle.mt_terms.specs.Registration.Ids.{Bytes}
use Rattle.mt_terms.specs.Registration.Records.{Record, CoupleRecord, IdPair}
use Rattle.mt_records.specs.Records.{all_seen}
use Rattle.mt_numbering.specs.Withdrawals.{stays_after}
use Rattle.mt_id_lists.specs.Numbering.{Numbering, number_by}
use Rattle.mt_numbering.specs.declared.listed.RecordLists.{RecordLists}
use Rattle.mt_numbering.specs.Numbered.{program_lists, applicant_lists, couple_lists}

-- the lists of programs, of applicants and of couples of records, of which those of withdrawn ones aren't kept
abbrev pub lists_of_programs : RecordLists → List (Bool × List Bytes)
lists_of_programs l = program_lists (stays_after l.withdrawn.now) (all_seen l.records.now)

abbrev pub lists_of_applicants : RecordLists → List (Bool × List Bytes)
lists_of_applicants l = applicant_lists (stays_after l.withdrawn.now) (all_seen l.records.now)

abbrev pub lists_of_couples : RecordLists → List (Bool × List IdPair)
lists_of_couples l = couple_lists (stays_after l.withdrawn.now) (all_seen l.records.now)

-- whether the lists of these records stand, by all programs and applicants
abbrev pub lists_stand : Bool → List Bytes → List Bytes → List Record → Bool
lists_stand half_pairs programs applicants rs =
    list_all (ranking_stands applicants) rs && list_all (list_stands programs) rs && list_all (pairs_stand half_pairs programs) rs

-- a couple's members by new numbers, if both have one
abbrev pub members_by : Numbering ℕ → Record → Option (ℕ × ℕ)
members_by n (CoupleRecord id a b pairs) = both_there (number_by n a) (number_by n b)
members_by n _ = None
