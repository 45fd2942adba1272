-- The market of records without a fault: the withdrawn rows dropped, and the others by number, in order of
-- registration from 0. (This project's own format.)
use Rattle.std.specs.Prelude.{ℕ, Bool, true, ◌&&◌, List, [], ◌∷◌, map, filter, flat_map, filter_map, Option, Some, None, option_map}
use Rattle.mt_terms.specs.Market.{Market, Program, Partners, Pair, Names, Registered}
use Rattle.mt_terms.specs.Registration.Ids.{Bytes, has_id, number_of, numbers_of}
use Rattle.mt_terms.specs.Registration.Records.{Record, ProgramRecord, ApplicantRecord, CoupleRecord, OfProgram, OfCouple, IdPair}
use Rattle.mt_terms.specs.Registration.Rows.{ids_of, applicant_ids, remaining}

-- the ids that records register, each in order of registration
abbrev pub names_of : List Record → Names
names_of records = record { programs = ids_of OfProgram records; applicants = applicant_ids records; couples = ids_of OfCouple records }

-- whether a pair names none but these programs, and a pair by their numbers
abbrev pub is_none_or_in : List Bytes → Option Bytes → Bool
is_none_or_in programs None = true
is_none_or_in programs (Some id) = has_id programs id

abbrev pub names_only : List Bytes → IdPair → Bool
names_only programs p = is_none_or_in programs p.0 && is_none_or_in programs p.1

abbrev pub pair_by_number : List Bytes → IdPair → Pair
pair_by_number programs p = (option_map (number_of programs) p.0, option_map (number_of programs) p.1)

-- a list of pairs by numbers: a pair that names another program leaves it
abbrev pub pairs_by_number : List Bytes → List IdPair → List Pair
pairs_by_number programs pairs = map (pair_by_number programs) (filter (names_only programs) pairs)

-- What each record gives to the market, by these names. A program's record gives a program, and a couple's record a
-- couple. A record of applicants gives the list of each applicant that it registers, which is empty for a member.
abbrev pub program_in : Names → Record → Option Program
program_in names (ProgramRecord id quota list) = Some (record { quota = quota; ranking = numbers_of names.applicants list })
program_in names _ = None

abbrev pub lists_in : Names → Record → List (List ℕ)
lists_in names (ApplicantRecord id list) = numbers_of names.programs list ∷ []
lists_in names (CoupleRecord id a b pairs) = [] ∷ [] ∷ []
lists_in names _ = []

abbrev pub couple_in : Names → Record → Option Partners
couple_in names (CoupleRecord id a b pairs) =
    Some (record { first = number_of names.applicants a; second = number_of names.applicants b; pairs = pairs_by_number names.programs pairs })
couple_in names _ = None

abbrev pub market_by : Names → List Record → Market
market_by names records =
    record { programs = filter_map (program_in names) records; lists = flat_map (lists_in names) records; couples = filter_map (couple_in names) records }

-- the market of these records, after their withdrawals
abbrev pub registered : List Record → Registered
registered records = by_names (names_of (remaining records))
  where
    by_names : Names → Registered
    by_names names = record { market = market_by names (remaining records); names = names }
