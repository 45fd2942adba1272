-- What each table of a roster has from each record, by the ids of programs and of applicants.
use Rattle.std.specs.Prelude.{ℕ, Bool, List, [], ◌∷◌, map, Option, Some, None, filter_map, flat_map}
use Rattle.mt_terms.specs.Market.{Pair, Partners, Registered}
use Rattle.mt_terms.specs.Registration.Ids.{Bytes, number_of, numbers_of}
use Rattle.mt_terms.specs.Registration.Records.{Record, ProgramRecord, ApplicantRecord, CoupleRecord, IdPair}
use Rattle.mt_terms.specs.Registration.Numbering.{pairs_by_number, names_of, market_by}

-- the lists of programs, of applicants and of couples as the records have them, and whether each is kept: a couple's two
-- members have empty ones
abbrev pub program_lists : (Record → Bool) → List Record → List (Bool × List Bytes)
program_lists stays records = filter_map list_of records
  where
    list_of : Record → Option (Bool × List Bytes)
    list_of (ProgramRecord id quota list) = Some (stays (ProgramRecord id quota list), list)
    list_of _ = None

abbrev pub applicant_lists : (Record → Bool) → List Record → List (Bool × List Bytes)
applicant_lists stays records = flat_map lists_of records
  where
    lists_of : Record → List (Bool × List Bytes)
    lists_of (ApplicantRecord id list) = (stays (ApplicantRecord id list), list) ∷ []
    lists_of (CoupleRecord id a b pairs) = (stays (CoupleRecord id a b pairs), []) ∷ (stays (CoupleRecord id a b pairs), []) ∷ []
    lists_of _ = []

abbrev pub couple_lists : (Record → Bool) → List Record → List (Bool × List IdPair)
couple_lists stays records = filter_map list_of records
  where
    list_of : Record → Option (Bool × List IdPair)
    list_of (CoupleRecord id a b pairs) = Some (stays (CoupleRecord id a b pairs), pairs)
    list_of _ = None

-- a program's quota and its list
abbrev pub quota_in : Record → Option ℕ
quota_in (ProgramRecord id quota list) = Some quota
quota_in _ = None

abbrev pub ranking_in : List Bytes → Record → Option (List ℕ)
ranking_in applicants (ProgramRecord id quota list) = Some (numbers_of applicants list)
ranking_in applicants _ = None

-- the list of each applicant that a record registers
abbrev pub lists_by : List Bytes → Record → List (List ℕ)
lists_by programs (ApplicantRecord id list) = numbers_of programs list ∷ []
lists_by programs (CoupleRecord id a b pairs) = [] ∷ [] ∷ []
lists_by programs _ = []

-- a couple's members and its pairs
abbrev pub members_in : List Bytes → Record → Option (ℕ × ℕ)
members_in applicants (CoupleRecord id a b pairs) = Some (number_of applicants a, number_of applicants b)
members_in applicants _ = None

abbrev pub pairs_in : List Bytes → Record → Option (List Pair)
pairs_in programs (CoupleRecord id a b pairs) = Some (pairs_by_number programs pairs)
pairs_in programs _ = None

-- couples with these members, and no pairs
abbrev pub bare_couples : List (ℕ × ℕ) → List Partners
bare_couples members = map (λ m. record { first = m.0; second = m.1; pairs = [] }) members

-- the market of records none of which is withdrawn
abbrev pub registered_by_all : List Record → Registered
registered_by_all records = record { market = market_by (names_of records) records; names = names_of records }
