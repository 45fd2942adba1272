-- What is said of a spent budget. This project's own rule.
use Rattle.std.specs.Prelude.{◌≡◌, ◌⊎◌, ◌++◌, ◌+◌, ◌/◌, ◌%◌, ℕ, Bool, List, [], ◌∷◌, Option, codes, decimal, if◌then◌else◌, nat_lt}
use Rattle.mt_answer.specs.declared.ways.Entering.{Entering}
use Rattle.mt_report.specs.Drains.{IsWritten}

-- a comma, and a number below 1,000 by three digits
abbrev pub group : ℕ → List ℕ
group n = 44 ∷ (48 + n / 100) ∷ (48 + n / 10 % 10) ∷ (48 + n % 10) ∷ []

-- a number of 32 bits with a comma before each three digits but the first
unfoldable pub grouped : ℕ → List ℕ
grouped n =
    if nat_lt n 1000 then decimal n
    else if nat_lt n 1000000 then decimal (n / 1000) ++ group (n % 1000)
    else if nat_lt n 1000000000 then decimal (n / 1000000) ++ group (n / 1000 % 1000) ++ group (n % 1000)
    else decimal (n / 1000000000) ++ group (n / 1000000 % 1000) ++ group (n / 1000 % 1000) ++ group (n % 1000)

-- what is said of the rounds: that no budget is enough, or how large the budget was
unfoldable pub outcome : Entering → (budget : ℕ) → List ℕ
outcome entering budget =
    if entering.comes_back then codes "; after " ++ (grouped entering.rounds ++ codes " rounds all was as before, so no budget is enough\n")
    else codes " when the budget of " ++ (grouped budget ++ codes " rounds was spent\n")

-- what is said of the order, if several were tried
abbrev pub order_words : (orders : ℕ) → List ℕ
order_words orders = if nat_lt 1 orders then codes " in the order of registration" else []

-- which couple was entering, by its id, and in which order
abbrev pub couple_words : (id : List ℕ) (orders : ℕ) → List ℕ
couple_words id orders = codes "nrmatch: couple " ++ (id ++ (codes " was entering" ++ order_words orders))

-- the line at a spent budget, with what is said of the rounds
unfoldable pub spent_line : Entering → (budget orders : ℕ) → List ℕ
spent_line entering budget orders = couple_words entering.id orders ++ outcome entering budget

-- A writer took nothing, or this line, or its first bytes.
abbrev pub SaysLine : (line : List ℕ) (old new : Option (List ℕ)) → Type 0
SaysLine line old new = (new ≡ old) ⊎ ((written : ℕ) × (whole : Bool) × IsWritten line old new written whole)
