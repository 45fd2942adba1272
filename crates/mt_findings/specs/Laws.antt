-- Laws of all findings.
use Rattle.std.specs.Prelude.{◌≡◌, ◌↔◌, ℕ, ◌&&◌, List, [], ◌++◌, length, nat_lt, None, IsTrue}
use Rattle.mt_terms.specs.Lists.{has, is_distinct}
use Rattle.mt_terms.specs.Market.{Market, applicants}
use Rattle.mt_terms.specs.Matching.{Places, better}
use Rattle.mt_terms.specs.Stability.{stable}
use Rattle.mt_terms.specs.WellFormed.{IsWellFormed}
use Rattle.mt_terms.specs.declared.numbers.Agent.{Agent}
use Rattle.mt_match_file.specs.Submitted.{Submitted}
use Rattle.mt_judged.specs.Answer as plain
use Rattle.mt_first_finding.specs.Findings.{finding_of, first_differing}
use Rattle.mt_findings.specs.Answer.{answer_to}
use Rattle.mt_findings.specs.Findings.{blocking_options, findings, first_of, is_taken}

-- the first finding is the one that a plain check names
abbrev pub FirstIsNamed : Type 0
FirstIsNamed = (m : Market) (submitted : Submitted) → first_of (findings m submitted) ≡ finding_of m submitted

-- An option is among those by which an agent blocks exactly if the agent wants it more and it would be taken. None is
-- there twice.
abbrev pub EachBlockingOption : Type 0
EachBlockingOption = (m : Market) (places : Places) (g : Agent)
    → ((k : ℕ) → has (blocking_options m places g) k ≡ (is_taken m places g k && nat_lt k (length (better m places g))))
    × IsTrue (is_distinct (blocking_options m places g))

-- there is no finding exactly if the match is stable and no record has other counts
abbrev pub NoneIfStable : Type 0
NoneIfStable = (m : Market) → IsWellFormed m → (submitted : Submitted) → length submitted.places ≡ applicants m
    → (findings m submitted ≡ []) ↔ (IsTrue (stable m submitted.places) × (first_differing m submitted ≡ None))

-- an answer with another one's code, which begins with its text
pub record GoesOn (one all : ℕ × List ℕ) : Type 0 where
  pub rest : List ℕ
  pub same_code : all.0 ≡ one.0
  pub begins : all.1 ≡ one.1 ++ rest

-- the answer with all findings has the code of the plain answer, and begins with its line
abbrev pub BeginsAsPlain : Type 0
BeginsAsPlain = (market_bytes match_bytes : List ℕ)
    → GoesOn ((plain.answer_to market_bytes match_bytes).code, (plain.answer_to market_bytes match_bytes).text)
    ((answer_to market_bytes match_bytes).code, (answer_to market_bytes match_bytes).text)
