-- Laws of what the two programs write.
use Rattle.std.specs.Prelude.{◌≡◌, ◌↔◌, ℕ, ◌≤◌, List, length, Ok, IsTrue, slice_index_or}
use Rattle.mt_terms.specs.Market.{Registered, applicants}
use Rattle.mt_terms.specs.Matching.{Places}
use Rattle.mt_terms.specs.Places.{ArePlaces}
use Rattle.mt_terms.specs.Stability.{stable}
use Rattle.mt_order_laws.specs.Reordered.{IsOrderOfSome, set_aside}
use Rattle.mt_report.specs.Aside.{published_aside}
use Rattle.mt_input.specs.Files.{market_in}
use Rattle.mt_run_laws.specs.Answer as run
use Rattle.mt_check.specs.Answer.{answer_to}
use Rattle.mt_first_finding.specs.Text.{stable_line, stable_line_with}
use Rattle.mt_answer_laws.specs.ReadBack.{IsReadBack}

-- What is published for a file is called stable for that file: the answer of a check is the line `check,1,stable`, with
-- code 0. (This project's own rule.)
abbrev pub PublishedIsCalledStable : Type 0
PublishedIsCalledStable =
    (bytes : List ℕ) (budget : ℕ) (text : List ℕ) → run.IsAnswer bytes budget 0 text
    → answer_to bytes text ≡ record { code = 0; text = stable_line }

-- A check reads in it the match that was published.
abbrev pub PublishedIsReadBack : Type 0
PublishedIsReadBack = (bytes : List ℕ) (budget : ℕ) (text : List ℕ) → run.IsAnswer bytes budget 0 text → IsReadBack bytes text

-- A text with couples set aside is called stable exactly if its match is stable once these couples want nothing. Its
-- counts are right in any case. (This project's own rule.)
abbrev pub PublishedAsideIsJudged : Type 0
PublishedAsideIsJudged =
    (bytes : List ℕ) (r : Registered) → market_in bytes ≡ Ok r → (places : Places) → ArePlaces r.market places
    → (received : List ℕ) → ((p : ℕ) → slice_index_or received p 0 ≤ applicants r.market)
    → (aside : List ℕ) → IsOrderOfSome r.market aside
    → (answer_to bytes (published_aside r.market r.names places received aside) ≡ record { code = 0; text = stable_line_with (length aside) })
    ↔ IsTrue (stable (set_aside aside r.market) places)
