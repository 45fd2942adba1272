-- Laws of the answer.
use Rattle.std.specs.Prelude.{◌≡◌, ◌≢◌, ℕ, List}
use Rattle.mt_terms.specs.Text.{IsOneRecord, refusal_fields, published, refused}
use Rattle.mt_terms.specs.Market.{Market, Names}
use Rattle.mt_terms.specs.Matching.{Places}
use Rattle.mt_run_laws.specs.Answer.{IsAnswer}
use Rattle.mt_run_laws.specs.Headline.{IsRefusal, IsStableText}

-- bytes and a budget have one answer, in which no number of workers occurs
abbrev pub OneAnswer : Type 0
OneAnswer = (bytes : List ℕ) (budget c d : ℕ) (text other : List ℕ) → IsAnswer bytes budget c text → IsAnswer bytes budget d other → (c ≡ d) × (text ≡ other)

-- what is published is the text of a match stable by the lists in the bytes, and the best of all if no couple is
-- entered
abbrev pub PublishedIsStable : Type 0
PublishedIsStable = (bytes : List ℕ) (budget : ℕ) (text : List ℕ) → IsAnswer bytes budget 0 text → IsStableText bytes text

-- no published text is a refusal line
abbrev pub PublishedIsNoRefusal : Type 0
PublishedIsNoRefusal =
    (m : Market) (names : Names) (places : Places) (received : List ℕ) (code row : ℕ) (id : List ℕ)
    → published m names places received ≢ refused code row id

-- a refusal line is one record of seven fields and no line of an applicant, so it has no place
abbrev pub RefusalIsOneRecord : Type 0
RefusalIsOneRecord = (code : ℕ) (text : List ℕ) (r : IsRefusal code text) → IsOneRecord (refusal_fields code r.row r.id) text
