-- The answer to the bytes of a market and of a match, and what an explanation did.
use Rattle.std.specs.Prelude.{◌≡◌, ◌≢◌, ℕ, Bool, List, Option, Some, None, codes}
use Rattle.mt_terms.specs.Market.{Registered}
use Rattle.mt_terms.specs.Matching.{Places}
use Rattle.mt_terms.specs.Registration.Ids.{Bytes}
use Rattle.mt_terms.specs.declared.codes.TheConstants.{OUT_OF_MEMORY, READ_FAULT}
use Rattle.mt_order_laws.specs.Reordered.{set_aside_registered}
use Rattle.mt_report.specs.Drains.{IsWritten}
use Rattle.mt_match_file.specs.Submitted.{Submitted}
use Rattle.mt_files.specs.Answer as files
use Rattle.mt_files.specs.Answer.{IsAnswerBy}
pub use Rattle.mt_files.specs.Answer.{Answer}
use Rattle.mt_files.specs.Refusals.{IsInTurn, OfBoth}
use Rattle.mt_explain_text.specs.Text.{agents_text}
use Rattle.mt_match_file.specs.Agents.{first_unknown}
use Rattle.mt_explained.specs.Asked.{agents_asked}
use Rattle.mt_explained.specs.Headline.{IsExplained, IsRefusal}
use Rattle.mt_explained.specs.Text.{unknown_line}
use Rattle.mt_explained.specs.declared.codes.TheConstants.{NO_SUCH_AGENT}

-- the refusal of a word that names no agent, or the lines of the agents with code 0
abbrev pub answer_by : Option Bytes → List ℕ → Answer
answer_by (Some word) text = record { code = NO_SUCH_AGENT; text = unknown_line word }
answer_by None text = record { code = 0; text = text }

-- the answer to a market and the places of a match
abbrev pub match_answer : Registered → Places → List Bytes → Bool → Answer
match_answer r places ids is_public = answer_by (first_unknown r ids) (agents_text r places is_public (agents_asked r ids))

-- The answer to a market and a match: that in the market in which the couples that the match sets aside want nothing.
abbrev pub submitted_answer : List Bytes → Bool → Registered → Submitted → Answer
submitted_answer ids is_public r submitted = match_answer (set_aside_registered submitted.aside r) submitted.places ids is_public

-- The answer to the bytes of a market and of a match. It is the lines of the agents asked for, the refusal of a word that
-- names none, or a fault: the first one of the market, or else of the match.
abbrev pub answer_to : List Bytes → Bool → List ℕ → List ℕ → Answer
answer_to ids is_public = files.answer_to (codes "check") (submitted_answer ids is_public)

abbrev pub IsAnswer : List Bytes → Bool → List ℕ → List ℕ → ℕ → List ℕ → Type 0
IsAnswer ids is_public = IsAnswerBy (answer_to ids is_public)

-- What a text says that was written after this number of reads of the match. With code 0 it explains the match that was
-- read. With any other code it is one refusal line, which names the file whose turn it is. But for want of memory and a
-- read that failed, it is the answer to the bytes that were there to read.
pub record Says (ids : List Bytes) (is_public : Bool) (market matched : Option (List ℕ)) (reads code : ℕ) (text : List ℕ) : Type 0 where
  pub explained : code ≡ 0 → OfBoth market matched (λ market_bytes match_bytes. IsExplained ids is_public market_bytes match_bytes text)
  pub refusal : code ≢ 0 → IsRefusal ids code text
  pub in_turn : (refused : code ≢ 0) → IsInTurn market reads (refusal refused).file
  pub answer : code ≢ OUT_OF_MEMORY → code ≢ READ_FAULT
      → OfBoth market matched (λ market_bytes match_bytes. IsAnswer ids is_public market_bytes match_bytes code text)

-- What an explanation did. It wrote the first bytes of a text, and all of it if the writer didn't fail.
pub record Answers (ids : List Bytes) (is_public : Bool) (market matched : Option (List ℕ)) (reads : ℕ) (old new : Option (List ℕ)) (code : ℕ) (whole : Bool) : Type 0 where
  pub text : List ℕ
  pub written : ℕ
  pub is_written : IsWritten text old new written whole
  pub says : Says ids is_public market matched reads code text
