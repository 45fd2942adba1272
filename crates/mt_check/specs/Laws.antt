-- Laws of the answer.
use Rattle.std.specs.Prelude.{◌≡◌, ◌≤◌, ◌<◌, ℕ, List, []}
use Rattle.mt_terms.specs.Market.{Registered}
use Rattle.mt_match_file.specs.Submitted.{Submitted}
use Rattle.mt_files.specs.Answer.{OneAnswerBy}
use Rattle.mt_check.specs.Answer.{IsAnswer, answer_to, finding_answer, judged_answer}
use Rattle.mt_first_finding.specs.Findings.{finding_of}
use Rattle.mt_judged.specs.Refusals.{IsRefusal}
use Rattle.mt_check.specs.Headline.{IsJudged}

-- the bytes of two files have one answer
abbrev pub OneAnswer : Type 0
OneAnswer = OneAnswerBy answer_to

-- an answer with code 0 or 1 says what is so of the match, and every other one is a named refusal
abbrev pub AnswersAreSo : Type 0
AnswersAreSo = (market_bytes match_bytes : List ℕ) (code : ℕ) (text : List ℕ) → IsAnswer market_bytes match_bytes code text
    → (code ≤ 1 → IsJudged market_bytes match_bytes code text) × (1 < code → IsRefusal code text)

-- a match that sets no couple aside is judged by all lists of the market, and its line is one without such couples
abbrev pub JudgedByAllLists : Type 0
JudgedByAllLists = (r : Registered) (submitted : Submitted) → submitted.aside ≡ [] → judged_answer r submitted ≡ finding_answer r 0 (finding_of r.market submitted)
