-- What the program writes: the text of a match, or one refusal line. This project's own format.
use Rattle.std.specs.Prelude.{◌≡◌, ℕ, ◌-◌, Bool, true, not, ◌&&◌, ◌==◌, nat_eq, nat_le, List, [], ◌∷◌, ◌++◌, length, Option, Some, None, is_some, slice_index_or, codes, decimal, IsTrue, IsFalse, if◌then◌else◌}
use Rattle.std.specs.List.{flat_map, join_with_byte, list_any, slice_split, starts_with}
use Rattle.mt_terms.specs.Lists.{below, count, total_below}
use Rattle.mt_terms.specs.Market.{Market, Names, applicants, program_of}
use Rattle.mt_terms.specs.Matching.{Places, place_of, filled}
use Rattle.mt_terms.specs.declared.codes.TheConstants.{TOO_LARGE, TWO_MARKS, NO_VERSION, UNKNOWN_KIND, FIELD_COUNT, BAD_ID, BAD_QUOTA, DUPLICATE_ID, DUPLICATE_ENTRY, TOO_MANY, UNKNOWN_APPLICANT, UNKNOWN_PROGRAM, NOT_REGISTERED, OUT_OF_MEMORY, READ_FAULT, BUDGET_SPENT}
use Rattle.mt_terms.specs.Registration.Ids.{Bytes, is_id}
use Rattle.mt_terms.specs.declared.limits.TheConstants.{LIMITS_2}

abbrev pub comma : ℕ
comma = 44

abbrev pub line_feed : ℕ
line_feed = 10

-- a line: its fields with commas between them, and a line feed
abbrev pub line : List (List ℕ) → List ℕ
line fields = join_with_byte comma fields ++ line_feed ∷ []

-- the id of a program, an applicant or a couple, by its number in a list of ids
abbrev pub name_of : List (List ℕ) → ℕ → List ℕ
name_of ids n = slice_index_or ids n []

-- a place is a program's id, or a dash
abbrev pub place_text : Names → Option ℕ → List ℕ
place_text names None = codes "-"
place_text names (Some p) = name_of names.programs p

-- the line of an id and a place
abbrev pub place_line : List ℕ → List ℕ → List ℕ
place_line id place = line (codes "applicant" ∷ id ∷ place ∷ [])

abbrev pub applicant_line : Names → Places → ℕ → List ℕ
applicant_line names places a = place_line (name_of names.applicants a) (place_text names (place_of places a))

abbrev pub applicant_lines : Market → Names → Places → List ℕ
applicant_lines m names places = flat_map (applicant_line names places) (below (applicants m))

-- the line of a program's id, its quota, how many are placed there, and how many proposals it received from singles
abbrev pub counts_line : List ℕ → ℕ → ℕ → ℕ → List ℕ
counts_line id quota filled received = line (codes "program" ∷ id ∷ decimal quota ∷ decimal filled ∷ decimal received ∷ [])

abbrev pub program_line : Market → Names → Places → List ℕ → ℕ → List ℕ
program_line m names places received p =
    counts_line (name_of names.programs p) (program_of m p).quota (filled places p) (slice_index_or received p 0)

abbrev pub program_lines : Market → Names → Places → List ℕ → List ℕ
program_lines m names places received = flat_map (program_line m names places received) (below (length m.programs))

-- how many applicants have no place
abbrev pub unmatched : Places → ℕ
unmatched places = count (λ place. not (is_some place)) places

-- how many posts there are: the sum of all quotas
abbrev pub positions : Market → ℕ
positions m = total_below (λ p. (program_of m p).quota) (length m.programs)

-- how many posts are filled, at all programs together
abbrev pub all_filled : Market → Places → ℕ
all_filled m places = total_below (filled places) (length m.programs)

-- the line of how many applicants, unmatched ones, posts and free posts there are
abbrev pub sums_line : ℕ → ℕ → ℕ → ℕ → List ℕ
sums_line all unmatched positions unfilled =
    line (codes "totals" ∷ decimal all ∷ decimal unmatched ∷ decimal positions ∷ decimal unfilled ∷ [])

abbrev pub totals_line : Market → Places → List ℕ
totals_line m places = sums_line (applicants m) (unmatched places) (positions m) (positions m - all_filled m places)

-- the text of a match: every applicant, every program, and the totals
abbrev pub published : Market → Names → Places → List ℕ → List ℕ
published m names places received =
    line (codes "match" ∷ codes "1" ∷ codes "published" ∷ [])
    ++ applicant_lines m names places ++ program_lines m names places received ++ totals_line m places

-- the codes of the refusals, each with its name
abbrev pub refusals : List (ℕ × List ℕ)
refusals =
    (TOO_LARGE, codes "TooLarge") ∷ (TWO_MARKS, codes "TwoMarks") ∷ (NO_VERSION, codes "NoVersion") ∷ (UNKNOWN_KIND, codes "UnknownKind")
    ∷ (FIELD_COUNT, codes "FieldCount") ∷ (BAD_ID, codes "BadId") ∷ (BAD_QUOTA, codes "BadQuota") ∷ (DUPLICATE_ID, codes "DuplicateId")
    ∷ (DUPLICATE_ENTRY, codes "DuplicateEntry") ∷ (TOO_MANY, codes "TooMany") ∷ (UNKNOWN_APPLICANT, codes "UnknownApplicant")
    ∷ (UNKNOWN_PROGRAM, codes "UnknownProgram") ∷ (NOT_REGISTERED, codes "NotRegistered")
    ∷ (OUT_OF_MEMORY, codes "OutOfMemory") ∷ (READ_FAULT, codes "ReadFault") ∷ (BUDGET_SPENT, codes "BudgetSpent") ∷ []

-- whether a number is the code of a refusal
abbrev pub is_known_code : ℕ → Bool
is_known_code code = list_any (λ r. r.0 == code) refusals

-- the codes of the faults of a file, which are the known ones from 12 to 22: only their lines name a record or an id
abbrev pub is_fault_code : ℕ → Bool
is_fault_code code = is_known_code code && nat_le NO_VERSION code && nat_le code NOT_REGISTERED

-- no byte, or an id, which has 64 bytes at most
abbrev pub is_none_or_id : Bytes → Bool
is_none_or_id [] = true
is_none_or_id (byte ∷ bytes) = is_id LIMITS_2.id_bytes (byte ∷ bytes)

-- What a refusal line may say: a known code, and an id or none. It says neither a record nor an id if the
-- code is no fault of a file.
pub record IsNamedRefusal (code row : ℕ) (id : Bytes) : Type 0 where
  pub known : IsTrue (is_known_code code)
  pub is_id : IsTrue (is_none_or_id id)
  pub alone : IsFalse (is_fault_code code) → (row ≡ 0) × (id ≡ [])

abbrev pub name_among : List (ℕ × List ℕ) → ℕ → List ℕ
name_among [] code = []
name_among (r ∷ rs) code = if r.0 == code then r.1 else name_among rs code

-- an id as a line has it, with a dash if there is none
abbrev pub id_text : List ℕ → List ℕ
id_text [] = codes "-"
id_text (b ∷ bytes) = b ∷ bytes

-- the fields of a refusal line: its code and name, the record's number, and the id at fault
abbrev pub refusal_fields : ℕ → ℕ → Bytes → List (List ℕ)
refusal_fields code row id =
    codes "match" ∷ codes "1" ∷ codes "refused" ∷ decimal code ∷ name_among refusals code ∷ decimal row ∷ id_text id ∷ []

-- the one line of a refusal
abbrev pub refused : ℕ → ℕ → List ℕ → List ℕ
refused code row id = line (refusal_fields code row id)

-- a text cut at its line feeds, and a line cut at its commas
abbrev pub lines_of : List ℕ → List (List ℕ)
lines_of text = slice_split (λ byte. byte == line_feed) text

abbrev pub fields_of : List ℕ → List (List ℕ)
fields_of line = slice_split (λ byte. byte == comma) line

-- a line of an applicant's place
abbrev pub is_applicant_line : List ℕ → Bool
is_applicant_line line = starts_with nat_eq line (codes "applicant,")

-- A text is one record: one line of these fields, with a line feed at its end. It is no line of an applicant.
pub record IsOneRecord (fields : List (List ℕ)) (text : List ℕ) : Type 0 where
  pub line : List ℕ
  pub one_line : lines_of text ≡ line ∷ [] ∷ []
  pub its_fields : fields_of line ≡ fields
  pub no_applicant : IsFalse (list_any is_applicant_line (lines_of text))
