-- The line of a refusal of one of the two files. This project's own format.
use Rattle.std.specs.Prelude.{ℕ, Bool, not, ◌&&◌, ◌||◌, ◌==◌, List, [], ◌∷◌, ◌++◌, codes, decimal}
use Rattle.mt_terms.specs.Lists.{has}
use Rattle.mt_terms.specs.Registration.Ids.{Bytes}
use Rattle.mt_terms.specs.Text as terms
use Rattle.mt_terms.specs.Text.{id_text, is_known_code, line, name_among}
use Rattle.mt_terms.specs.declared.codes.TheConstants.{TOO_LARGE, TWO_MARKS, OUT_OF_MEMORY, READ_FAULT, BUDGET_SPENT}
use Rattle.mt_match_file.specs.Laws.{fault_codes}
use Rattle.mt_match_file.specs.declared.codes.TheConstants.{OTHER_RECORD, OTHER_FIELDS, NO_SUCH_APPLICANT, PLACED_TWICE, NO_SUCH_PROGRAM, NOT_PLACED, NO_SUCH_COUPLE, ASIDE_TWICE}
use Rattle.mt_files.specs.declared.source.Source.{Source}
use Rattle.mt_files.specs.declared.source.Source.TheVariants as source

-- the word for a file
abbrev pub source_word : Source → Bytes
source_word source.Market = codes "market"
source_word source.Match = codes "match"

-- the codes of the refusals, each with its name: those of a market, and those of a match
abbrev pub refusals : List (ℕ × Bytes)
refusals = terms.refusals
    ++ (OTHER_RECORD, codes "OtherRecord") ∷ (OTHER_FIELDS, codes "OtherFields") ∷ (NO_SUCH_APPLICANT, codes "NoSuchApplicant")
    ∷ (PLACED_TWICE, codes "PlacedTwice") ∷ (NO_SUCH_PROGRAM, codes "NoSuchProgram") ∷ (NOT_PLACED, codes "NotPlaced")
    ∷ (NO_SUCH_COUPLE, codes "NoSuchCouple") ∷ (ASIDE_TWICE, codes "AsideTwice") ∷ []

-- the codes whose lines name neither a record nor an id
abbrev pub is_code_alone : ℕ → Bool
is_code_alone code = has (TOO_LARGE ∷ TWO_MARKS ∷ OUT_OF_MEMORY ∷ READ_FAULT ∷ []) code

-- the codes with which a file is refused: no market for its budget, which only rounds spend
abbrev pub is_code_of : Source → ℕ → Bool
is_code_of source.Market code = is_known_code code && not (code == BUDGET_SPENT)
is_code_of source.Match code = is_code_alone code || has fault_codes code

-- the one line of a refusal, which begins with this word
abbrev pub refused_line : Bytes → Source → ℕ → ℕ → Bytes → Bytes
refused_line word file code row id =
    line (word ∷ codes "1" ∷ codes "refused" ∷ decimal code ∷ name_among refusals code ∷ source_word file ∷ decimal row ∷ id_text id ∷ [])
