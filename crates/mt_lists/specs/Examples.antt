-- Worked inputs and their rows.
use Rattle.std.specs.Prelude.{◌≡◌, ℕ, List, [], ◌∷◌, ◌++◌, codes, Some, None}
use Rattle.mt_lists.specs.Records.{mark, records_of}

-- What a spreadsheet exports: a mark, quoted fields, an empty line, and rows padded with empty fields. One of these
-- rows has no other field. The last line has no end.
abbrev pub spreadsheet : List ℕ
spreadsheet = mark
    ++ codes "match,1,,\r\n"
    ++ codes "\"program\",P1,1,\"a2\",a1\r\n"
    ++ codes "\r\n"
    ++ codes "program,P2,01,a1,a2,\r\n"
    ++ codes ",,,\r\n"
    ++ codes "applicant,a1,P1,P2\r\n"
    ++ codes "applicant,\"a2\",P2,P1"

abbrev pub spreadsheet_rows : List (List (List ℕ))
spreadsheet_rows = (codes "match" ∷ codes "1" ∷ [])
    ∷ (codes "program" ∷ codes "P1" ∷ codes "1" ∷ codes "a2" ∷ codes "a1" ∷ [])
    ∷ (codes "program" ∷ codes "P2" ∷ codes "01" ∷ codes "a1" ∷ codes "a2" ∷ [])
    ∷ []
    ∷ (codes "applicant" ∷ codes "a1" ∷ codes "P1" ∷ codes "P2" ∷ [])
    ∷ (codes "applicant" ∷ codes "a2" ∷ codes "P2" ∷ codes "P1" ∷ [])
    ∷ []

abbrev pub SpreadsheetIsRead : Type 0
SpreadsheetIsRead = records_of spreadsheet ≡ Some spreadsheet_rows

-- a second mark after the first
abbrev pub SecondMarkIsRefused : Type 0
SecondMarkIsRefused = records_of (mark ++ mark ++ codes "match,1\n") ≡ None

-- two quotes in a quoted field are one
abbrev pub DoubledQuoteIsOne : Type 0
DoubledQuoteIsOne = records_of (codes "match,1\napplicant,\"a\"\"1\"\n")
    ≡ Some ((codes "match" ∷ codes "1" ∷ []) ∷ (codes "applicant" ∷ codes "a\"1" ∷ []) ∷ [])
