-- What a run writes for the bytes that it reads, if the couples may enter in several ways.
use Rattle.std.specs.Prelude.{◌≡◌, ◌≢◌, ℕ, Bool, List, [], Option, MatchResult, IfSome, is_some, true, IsTrue}
use Rattle.mt_terms.specs.Market.{Registered}
use Rattle.mt_terms.specs.Matching.{Places}
use Rattle.mt_terms.specs.Stability.{stable}
use Rattle.mt_terms.specs.Text.{IsNamedRefusal}
use Rattle.mt_terms.specs.declared.codes.TheConstants.{BUDGET_SPENT, OUT_OF_MEMORY, READ_FAULT}
use Rattle.mt_terms.specs.declared.refusal.Refusal.{Refusal}
use Rattle.mt_order_laws.specs.Reordered.{set_aside, IsOrderOfSome}
use Rattle.mt_report.specs.Aside.{published_aside}
use Rattle.mt_report.specs.Drains.{IsWritten}
use Rattle.mt_report.specs.declared.ended.TheConstants.{SET_ASIDE}
use Rattle.mt_input.specs.Files.{IsMarketOf, market_in}
use Rattle.mt_input.specs.Left.{OfLeft}
use Rattle.mt_answer.specs.Refusals.{line_of}
use Rattle.mt_answer.specs.Ways.{IsAnswerInWays, IsEntering}
use Rattle.mt_answer.specs.declared.ways.Entering.{Entering}
use Rattle.mt_answer.specs.declared.ways.Ways.{Ways}
use Rattle.mt_run_laws.specs.Answer.{IsAnswerOfFault}
use Rattle.mt_run_laws.specs.Headline.{IsRefusal, IsStableTextOf}

-- The answer to bytes, a budget, and the ways in which couples may enter. It is that to the market in the bytes, or to
-- their first fault. Its code is 0 for a match, SET_ASIDE for one with couples set aside, and else that of a refusal.
-- (This project's own rule.)
abbrev pub IsAnswerIn : List ℕ → ℕ → Ways → ℕ → List ℕ → Type 0
IsAnswerIn bytes budget ways code text =
    MatchResult (market_in bytes) (λ r. IsAnswerInWays r budget ways code text) (λ f. IsAnswerOfFault f code text)

-- the answer to the bytes that a reader had left, or to some bytes if it doesn't tell them
abbrev pub IsAnswerInTo : Option (List ℕ) → ℕ → Ways → ℕ → List ℕ → Type 0
IsAnswerInTo left budget ways code text = OfLeft left (λ bytes. IsAnswerIn bytes budget ways code text)

-- The text of a match with some couples set aside. It is stable by the lists in the bytes, if these couples want nothing.
pub record IsStableAsideText (bytes text : List ℕ) : Type 0 where
  pub registered : Registered
  pub of_bytes : IsMarketOf bytes registered
  pub aside : List ℕ
  pub some : aside ≢ []
  pub are_couples : IsOrderOfSome registered.market aside
  pub places : Places
  pub proposals : List ℕ
  pub is_text : text ≡ published_aside registered.market registered.names places proposals aside
  pub is_stable : IsTrue (stable (set_aside aside registered.market) places)

-- What the text of a run says. If the code is 0, it is that of a stable match. If it is SET_ASIDE, couples might be set
-- aside, and it is that of a match that is stable once they want nothing. Any other code has one named refusal line. But
-- for want of memory and a read that failed, it is the answer to the bytes that were there to read.
pub record SaysInWays (left : Option (List ℕ)) (budget : ℕ) (ways : Ways) (code : ℕ) (text : List ℕ) : Type 0 where
  pub refusal : code ≢ 0 → code ≢ SET_ASIDE → IsRefusal code text
  pub stable : code ≡ 0 → IsStableTextOf left text
  pub aside : code ≡ SET_ASIDE → IsTrue ways.set_aside × OfLeft left (λ bytes. IsStableAsideText bytes text)
  pub answer : code ≢ OUT_OF_MEMORY → code ≢ READ_FAULT → IsAnswerInTo left budget ways code text

-- What a run did. It wrote the first bytes of a text, and all of it if the writer didn't fail. The text is that of a
-- match stable by the lists in the bytes that were left, or one named refusal line.
pub record AnswersInWays (left : Option (List ℕ)) (budget : ℕ) (ways : Ways) (old new : Option (List ℕ)) (code written : ℕ) (whole : Bool) : Type 0 where
  pub text : List ℕ
  pub is_written : IsWritten text old new written whole
  pub says : SaysInWays left budget ways code text

-- the couple that was entering when the budget was spent, in the market in some bytes
abbrev pub IsEnteringIn : List ℕ → ℕ → Entering → Type 0
IsEnteringIn bytes budget e = (r : Registered) × IsMarketOf bytes r × IsEntering r budget e

-- A run names a couple exactly if its budget was spent, and then it is the one that was entering.
pub record NamesEntering (left : Option (List ℕ)) (budget code : ℕ) (entering : Option Entering) : Type 0 where
  pub named : code ≡ BUDGET_SPENT → is_some entering ≡ true
  pub spent : is_some entering ≡ true → code ≡ BUDGET_SPENT
  pub is_so : IfSome entering (λ e. OfLeft left (λ bytes. IsEnteringIn bytes budget e))

-- A named refusal, which is the answer to the bytes that were there to read, but for want of memory and a read that
-- failed.
pub record IsRefusalIn (left : Option (List ℕ)) (budget : ℕ) (ways : Ways) (e : Refusal) : Type 0 where
  pub named : IsNamedRefusal e.code e.row e.id
  pub answer : e.code ≢ OUT_OF_MEMORY → e.code ≢ READ_FAULT → IsAnswerInTo left budget ways e.code (line_of e)
