-- The text of a match of a market in which some couples are set aside. This project's own format.
use Rattle.std.specs.Prelude.{ℕ, List, [], ◌∷◌, ◌++◌, codes}
use Rattle.std.specs.List.{flat_map}
use Rattle.mt_terms.specs.Market.{Market, Names}
use Rattle.mt_terms.specs.Matching.{Places}
use Rattle.mt_terms.specs.Text.{line, name_of, applicant_lines, program_lines, totals_line}

-- the line of a couple's id, which is set aside
abbrev pub couple_aside_line : List ℕ → List ℕ
couple_aside_line id = line (codes "aside" ∷ id ∷ [])

-- the lines of couples that are set aside, in the order of a list of their numbers
abbrev pub aside_lines : Names → List ℕ → List ℕ
aside_lines names aside = flat_map (λ c. couple_aside_line (name_of names.couples c)) aside

-- The text of a match with couples set aside: every applicant, every program, the couples set aside, and the totals.
-- The market is the one in which each couple has its pairs.
abbrev pub published_aside : Market → Names → Places → List ℕ → List ℕ → List ℕ
published_aside m names places received aside =
    line (codes "match" ∷ codes "2" ∷ codes "published" ∷ [])
    ++ applicant_lines m names places ++ program_lines m names places received ++ aside_lines names aside ++ totals_line m places
