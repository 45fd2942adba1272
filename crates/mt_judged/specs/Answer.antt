-- The answers about a match that is judged: the first finding, or the refusal line of a file.
use Rattle.std.specs.Prelude.{◌⊎◌, ℕ, Bool, List, [], length, Option, codes}
use Rattle.mt_terms.specs.Market.{Registered}
use Rattle.mt_terms.specs.Registration.Faults.{Fault}
use Rattle.mt_terms.specs.declared.codes.TheConstants.{OUT_OF_MEMORY}
use Rattle.mt_match_file.specs.Submitted.{Submitted}
use Rattle.mt_first_finding.specs.Findings.{finding_code, finding_of, judged}
use Rattle.mt_first_finding.specs.Text.{finding_line}
use Rattle.mt_first_finding.specs.declared.finding.Finding.{Finding}
use Rattle.mt_files.specs.Answer as files
use Rattle.mt_files.specs.Answer.{Answer, IsGiven}
use Rattle.mt_files.specs.declared.source.Source.{Source}
use Rattle.mt_files.specs.declared.source.Source.TheVariants.{Match}

-- the answer that is a finding on a match which sets this number of couples aside
abbrev pub finding_answer : Registered → ℕ → Finding → Answer
finding_answer r aside finding = record { code = finding_code finding; text = finding_line r aside finding }

-- the answer to the fault of a file
abbrev pub fault_answer : Source → Fault → Answer
fault_answer = files.fault_answer (codes "check")

-- The answer to a market and a match: the finding in the market in which the couples that the match sets aside want
-- nothing.
abbrev pub judged_answer : Registered → Submitted → Answer
judged_answer r submitted = finding_answer (judged r submitted) (length submitted.aside) (finding_of (judged r submitted).market submitted)

-- The answer to the bytes of a market and of a match: the first finding, or the first fault of the market, or else of
-- the match.
abbrev pub answer_to : List ℕ → List ℕ → Answer
answer_to = files.answer_to (codes "check") judged_answer

-- the answer that the files have in want of memory
abbrev pub memory_answer : Answer
memory_answer = fault_answer Match (record { code = OUT_OF_MEMORY; row = 0; id = [] })

-- This answer was written, or its first bytes. If memory ran out, it was the refusal line for that.
abbrev pub IsGivenOrMemory : Answer → Option (List ℕ) → Option (List ℕ) → ℕ → Bool → Type 0
IsGivenOrMemory answer old new code whole = IsGiven answer old new code whole ⊎ IsGiven memory_answer old new code whole
