-- The headline in its own words: what a published text is, by the lists in the bytes.
use Rattle.std.specs.Prelude.{◌≡◌, ℕ, List, [], Option, IsTrue, IsFalse}
use Rattle.mt_terms.specs.Best.{better_programs}
use Rattle.mt_terms.specs.Matching.{FillsAlike, Places, at}
use Rattle.mt_terms.specs.Lists.{has}
use Rattle.mt_terms.specs.Market.{Market, Registered}
use Rattle.mt_terms.specs.Stability.{stable}
use Rattle.mt_terms.specs.Text.{IsNamedRefusal, published, refused}
use Rattle.mt_input.specs.Files.{IsMarketOf}
use Rattle.mt_input.specs.Left.{OfLeft}

-- a match gives each applicant at least what another one gives it: nobody wants its place there more
abbrev pub GivesAtLeast : Market → Places → Places → Type 0
GivesAtLeast m places other = (a p : ℕ) → IsTrue (at other p a) → IsFalse (has (better_programs m places a) p)

-- A match gives each applicant at least what every stable match gives it. Every stable match places the same
-- applicants and equally many at each program, and the same ones at a program with a free post.
pub record IsBestOfAll (m : Market) (places : Places) : Type 0 where
  pub at_least : (other : Places) → IsTrue (stable m other) → GivesAtLeast m places other
  pub fills_alike : (other : Places) → IsTrue (stable m other) → FillsAlike m places other

-- The text of a match stable by the lists in the bytes. If no couple is entered, that match is the best of all stable
-- ones.
pub record IsStableText (bytes text : List ℕ) : Type 0 where
  pub registered : Registered
  pub of_bytes : IsMarketOf bytes registered
  pub places : Places
  pub proposals : List ℕ
  pub is_text : text ≡ published registered.market registered.names places proposals
  pub is_stable : IsTrue (stable registered.market places)
  pub best : registered.market.couples ≡ [] → IsBestOfAll registered.market places

-- the same of the bytes that a reader had left, or of some bytes if it doesn't tell them
abbrev pub IsStableTextOf : Option (List ℕ) → List ℕ → Type 0
IsStableTextOf left text = OfLeft left (λ bytes. IsStableText bytes text)

-- one named refusal line: it names no record and no id if the code is no fault of a file
pub record IsRefusal (code : ℕ) (text : List ℕ) : Type 0 where
  pub row : ℕ
  pub id : List ℕ
  pub named : IsNamedRefusal code row id
  pub line : text ≡ refused code row id
