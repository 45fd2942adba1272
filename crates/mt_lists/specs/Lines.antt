-- The rows of a text with no quote are its lines.
use Rattle.std.specs.Prelude.{◌≡◌, ◌<◌, ℕ, Bool, ◌==◌, ◌||◌, List, [], ◌∷◌, ◌++◌, length, if◌then◌else◌}
use Rattle.csv.specs.Reading.{records, default_config}

-- whether a byte is a double quote
abbrev pub is_quote : ℕ → Bool
is_quote c = c == 34

-- whether a byte is a comma
abbrev pub is_comma : ℕ → Bool
is_comma c = c == 44

-- whether a byte is a carriage return
abbrev pub is_return : ℕ → Bool
is_return c = c == 13

-- whether a byte ends a line
abbrev pub ends_line : ℕ → Bool
ends_line c = (c == 10) || (c == 13)

-- the fields of a line, with the bytes of the field at hand
unfoldable pub split_from : List ℕ → List ℕ → List (List ℕ)
split_from field [] = field ∷ []
split_from field (c ∷ rest) = if c == 44 then field ∷ split_from [] rest else split_from (field ++ (c ∷ [])) rest

-- the fields of a line: what is between its commas
abbrev pub fields_of_line : List ℕ → List (List ℕ)
fields_of_line line = split_from [] line

-- the record of a line, if it has a byte
abbrev pub record_of_line : List ℕ → List (List (List ℕ))
record_of_line [] = []
record_of_line (b ∷ rest) = fields_of_line (b ∷ rest) ∷ []

-- the text is a line and then the rest, as csv reads it
abbrev pub NextLine : List ℕ → List ℕ → List ℕ → Type 0
NextLine text line rest = (records default_config text ≡ record_of_line line ++ records default_config rest) × (length rest < length text)

-- the fields of a line that has lost the commas at its end
abbrev pub fields_of_trimmed : List ℕ → List (List ℕ)
fields_of_trimmed [] = []
fields_of_trimmed (b ∷ rest) = fields_of_line (b ∷ rest)
