-- What the records of a match say, whatever program wrote them, or their first fault. (This project's own format.)
use Rattle.std.specs.Prelude.{ℕ, Bool, not, ◌&&◌, ◌||◌, ◌==◌, nat_lt, nat_le, List, [], ◌∷◌, ◌++◌, map, length, position, replicate, slice_index, slice_index_or, slice_set, Option, Some, None, is_some, ok_or, option_map, Result, Ok, Err, codes, bytes_eq, if◌then◌else◌}
use Rattle.std.specs.Char.{is_ascii_digit}
use Rattle.std.specs.List.{list_all}
use Rattle.std.specs.Option.{unwrap_or}
use Rattle.std.specs.Str.Parse.{digits_value}
use Rattle.mt_terms.specs.Lists.{has}
use Rattle.mt_terms.specs.Market.{Names, Registered, applicants}
use Rattle.mt_terms.specs.Matching.{Places}
use Rattle.mt_terms.specs.Registration.Faults.{Fault, RecordFault, record_fault, record_fault_alone, fault_at}
use Rattle.mt_terms.specs.Registration.Ids.{Bytes, is_dash, is_id}
use Rattle.mt_terms.specs.Registration.Passes.{Numbered, and_then, at_record, numbered_from}
use Rattle.mt_terms.specs.Text.{name_of}
use Rattle.mt_terms.specs.declared.limits.TheConstants.{LIMITS_2}
use Rattle.mt_match_file.specs.declared.codes.TheConstants.{OTHER_RECORD, OTHER_FIELDS, NO_SUCH_APPLICANT, PLACED_TWICE, NO_SUCH_PROGRAM, NOT_PLACED, NO_SUCH_COUPLE, ASIDE_TWICE}
use Rattle.mt_match_file.specs.declared.line.Line.{Line}
use Rattle.mt_match_file.specs.declared.line.Line.TheVariants.{Head, Place, Counts, Aside}
use Rattle.mt_match_file.specs.declared.submitted_match.Count.TheVariants as count
use Rattle.mt_match_file.specs.declared.submitted_match.Counted.{Counted}

-- What a match says: a place for each applicant of a market, the counts of its records, and the couples that are set
-- aside, by number in the order of their records. Each count has its record's number.
pub record Submitted : Type 0 where
  pub places : Places
  pub counts : List Counted
  pub aside : List ℕ

-- what some records said: the counts, the couples set aside, and for each applicant, by number, its place if one of
-- them said it
pub record SoFar : Type 0 where
  pub places : List (Option (Option ℕ))
  pub counts : List Counted
  pub aside : List ℕ

-- an id that may be shown, and nothing if a field is none
abbrev pub shown : Bytes → Bytes
shown field = if is_id LIMITS_2.id_bytes field then field else []

-- a fault at a field, with the field as its id if it is one
abbrev pub record_fault_at : ℕ → Bytes → RecordFault
record_fault_at code field = record_fault code (shown field)

-- a number as published texts write them: one to ten digits, with no zero before others
abbrev pub has_leading_zero : Bytes → Bool
has_leading_zero field = nat_lt 1 (length field) && (slice_index field 0 == 48)

abbrev pub is_number : Bytes → Bool
is_number field = nat_lt 0 (length field) && nat_le (length field) 10 && list_all is_ascii_digit field && not (has_leading_zero field)

abbrev pub number : Bytes → ℕ
number field = digits_value 10 field

-- the field, if there is just one
abbrev pub one_of : List Bytes → Option Bytes
one_of (x ∷ []) = Some x
one_of _ = None

-- the fields, if there are just two, and just four
abbrev pub two_of : List Bytes → Option (Bytes × Bytes)
two_of (x ∷ y ∷ []) = Some (x, y)
two_of _ = None

abbrev pub four_of : List Bytes → Option (Bytes × Bytes × Bytes × Bytes)
four_of (x ∷ y ∷ z ∷ w ∷ []) = Some (x, y, z, w)
four_of _ = None

-- the first record says that a match follows: one of version 1, or one of version 2, which may set couples aside
abbrev pub head_line : Option (Bytes × Bytes) → Result Line RecordFault
head_line None = Err (record_fault_alone OTHER_FIELDS)
head_line (Some f) =
    if (bytes_eq f.0 (codes "1") || bytes_eq f.0 (codes "2")) && bytes_eq f.1 (codes "published") then Ok Head
    else Err (record_fault_alone OTHER_FIELDS)

-- the place that a field names: a program by its id, or none by `-`
abbrev pub place_named : List Bytes → Bytes → Option (Option ℕ)
place_named programs field = if is_dash field then Some None else option_map Some (position (bytes_eq field) programs)

-- an applicant's id and the field of its place: a record without that field says that the applicant is unplaced
abbrev pub placed_of : List Bytes → Option (Bytes × Bytes)
placed_of (id ∷ []) = Some (id, codes "-")
placed_of (id ∷ place ∷ []) = Some (id, place)
placed_of _ = None

-- the place of an applicant, which is one of the market that no record before placed
abbrev pub placed_at : Names → List (Option (Option ℕ)) → Bytes × Bytes → Option ℕ → Result Line RecordFault
placed_at names places f None = Err (record_fault_at NO_SUCH_APPLICANT f.0)
placed_at names places f (Some a) =
    if is_some (slice_index_or places a None) then Err (record_fault_at PLACED_TWICE f.0)
    else ok_or (option_map (Place a) (place_named names.programs f.1)) (record_fault_at NO_SUCH_PROGRAM f.1)

abbrev pub applicant_line : Names → List (Option (Option ℕ)) → Option (Bytes × Bytes) → Result Line RecordFault
applicant_line names places None = Err (record_fault_alone OTHER_FIELDS)
applicant_line names places (Some f) = placed_at names places f (position (bytes_eq f.0) names.applicants)

-- The quota of a program, how many are placed there and how many proposals it received. The proposals are no matter
-- of a match.
abbrev pub counts_at : Bytes × Bytes × Bytes × Bytes → Option ℕ → Result Line RecordFault
counts_at f None = Err (record_fault_at NO_SUCH_PROGRAM f.0)
counts_at f (Some p) = Ok (Counts (count.Program p (number f.1) (number f.2)))

abbrev pub program_line : Names → Option (Bytes × Bytes × Bytes × Bytes) → Result Line RecordFault
program_line names None = Err (record_fault_alone OTHER_FIELDS)
program_line names (Some f) =
    if is_number f.1 && is_number f.2 && is_number f.3 then counts_at f (position (bytes_eq f.0) names.programs)
    else Err (record_fault_alone OTHER_FIELDS)

-- the totals
abbrev pub totals_line : Option (Bytes × Bytes × Bytes × Bytes) → Result Line RecordFault
totals_line None = Err (record_fault_alone OTHER_FIELDS)
totals_line (Some f) =
    if is_number f.0 && is_number f.1 && is_number f.2 && is_number f.3
    then Ok (Counts (count.Totals (number f.0) (number f.1) (number f.2) (number f.3)))
    else Err (record_fault_alone OTHER_FIELDS)

-- a couple that is set aside, which is one of the market that no record before set aside
abbrev pub aside_at : List ℕ → Bytes → Option ℕ → Result Line RecordFault
aside_at aside id None = Err (record_fault_at NO_SUCH_COUPLE id)
aside_at aside id (Some c) = if has aside c then Err (record_fault_at ASIDE_TWICE id) else Ok (Aside c)

abbrev pub aside_line : Names → List ℕ → Option Bytes → Result Line RecordFault
aside_line names aside None = Err (record_fault_alone OTHER_FIELDS)
aside_line names aside (Some id) = aside_at aside id (position (bytes_eq id) names.couples)

-- what a record says after others, by its first field, or its first fault by the order of the codes
abbrev pub line_of : Names → SoFar → List Bytes → Result Line RecordFault
line_of names before [] = Err (record_fault_alone OTHER_RECORD)
line_of names before (word ∷ fields) =
    if bytes_eq word (codes "applicant") then applicant_line names before.places (placed_of fields)
    else if bytes_eq word (codes "program") then program_line names (four_of fields)
    else if bytes_eq word (codes "totals") then totals_line (four_of fields)
    else if bytes_eq word (codes "match") then head_line (two_of fields)
    else if bytes_eq word (codes "aside") then aside_line names before.aside (one_of fields)
    else Err (record_fault_alone OTHER_RECORD)

-- what the records say with one more, which has this number
abbrev pub after : ℕ → SoFar → Line → SoFar
after n before Head = before
after n before (Place a place) = record before { places = slice_set before.places a (Some place) }
after n before (Counts c) = record before { counts = before.counts ++ record { row = n; count = c } ∷ [] }
after n before (Aside c) = record before { aside = before.aside ++ c ∷ [] }

abbrev pub next_read : Names → SoFar → Numbered (List Bytes) → Result SoFar Fault
next_read names before row = at_record row.0 (and_then (line_of names before row.1) (λ l. Ok (after row.0 before l)))

-- what records say after others, one after another up to the first fault
abbrev pub all_read : Names → SoFar → List (Numbered (List Bytes)) → Result SoFar Fault
all_read names before [] = Ok before
all_read names before (row ∷ rows) = and_then (next_read names before row) (λ s. all_read names s rows)

-- before the first record no applicant, of this number of them, has a place
abbrev pub nothing_read : ℕ → SoFar
nothing_read n = record { places = replicate n None; counts = []; aside = [] }

-- the first applicant that no record places
abbrev pub first_unplaced : SoFar → Option ℕ
first_unplaced s = position (λ place. not (is_some place)) s.places

-- the match if each applicant has a place, or the fault that this applicant has none
abbrev pub match_of : Names → SoFar → Option ℕ → Result Submitted Fault
match_of names s (Some a) = Err (fault_at 0 (record_fault_at NOT_PLACED (name_of names.applicants a)))
match_of names s None = Ok (record { places = map (λ place. unwrap_or place None) s.places; counts = s.counts; aside = s.aside })

-- What the records of a match say of the applicants of a market, or their first fault. Records are read one
-- after another and counted from 1, and one without a field is passed over. After all of them each applicant
-- has its place.
abbrev pub submitted_by : Registered → List (List Bytes) → Result Submitted Fault
submitted_by r rows =
    and_then (all_read r.names (nothing_read (applicants r.market)) (numbered_from 1 rows)) (λ s. match_of r.names s (first_unplaced s))
