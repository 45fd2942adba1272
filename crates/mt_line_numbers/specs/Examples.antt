-- A worked text and the lines on which its records begin.
use Rattle.std.specs.Prelude.{◌≡◌, ℕ, List, [], ◌∷◌, ◌++◌, codes, map}
use Rattle.mt_line_numbers.specs.Records.{line_of_record}

-- a text with each line end, with an empty line, with a line end in quotes, and with a last line that has no end
abbrev pub worked_text : List ℕ
worked_text = codes "match,2\r\n"
    ++ codes "\r\n"
    ++ codes "program,P,1,\"a\r\n1\"\r"
    ++ codes "applicant,\"a\"\"\n\n\",P\n"
    ++ codes "couple"

-- the lines of its records, after that of number 0, and before those of a record too many
abbrev pub WorkedLines : Type 0
WorkedLines = map (line_of_record worked_text) (0 ∷ 1 ∷ 2 ∷ 3 ∷ 4 ∷ 5 ∷ 6 ∷ []) ≡ 0 ∷ 1 ∷ 3 ∷ 5 ∷ 8 ∷ 8 ∷ 8 ∷ []
