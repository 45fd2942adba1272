-- The headline in its own words: what the lines of all findings say of the bytes of two files.
use Rattle.std.specs.Prelude.{◌≡◌, ◌↔◌, ℕ, ◌&&◌, List, [], length, nat_lt, None, Ok, IsTrue}
use Rattle.mt_terms.specs.Lists.{has, is_distinct}
use Rattle.mt_terms.specs.Market.{Market, Registered}
use Rattle.mt_terms.specs.Matching.{better}
use Rattle.mt_terms.specs.Stability.{stable}
use Rattle.mt_terms.specs.declared.numbers.Agent.{Agent}
use Rattle.mt_match_file.specs.Submitted.{Submitted}
use Rattle.mt_input.specs.Files.{IsMarketOf}
use Rattle.mt_files.specs.Files.{submitted_in}
use Rattle.mt_first_finding.specs.Findings.{finding_of, first_differing, judged}
use Rattle.mt_findings.specs.Findings.{blocking_options, findings, first_of, is_taken}
use Rattle.mt_findings.specs.Text.{findings_text}

-- What the findings against a match say. The first is the finding that a plain check names. An option is among those by
-- which an agent blocks exactly if the agent wants it more than what it has and it would be taken. None is there twice.
-- There is no finding exactly if the match is stable and no record has other counts.
pub record FindingsAreSo (m : Market) (submitted : Submitted) : Type 0 where
  pub first : first_of (findings m submitted) ≡ finding_of m submitted
  pub options : (g : Agent) (k : ℕ) → has (blocking_options m submitted.places g) k
      ≡ (is_taken m submitted.places g k && nat_lt k (length (better m submitted.places g)))
  pub once : (g : Agent) → IsTrue (is_distinct (blocking_options m submitted.places g))
  pub none : (findings m submitted ≡ []) ↔ (IsTrue (stable m submitted.places) × (first_differing m submitted ≡ None))

-- The bytes are a market and a match of its applicants. The text has a line for each finding against that match, by
-- the lists of the market in which the couples that it sets aside want nothing. The code is 0 exactly if there is none.
pub record AreFound (market_bytes match_bytes : List ℕ) (code : ℕ) (text : List ℕ) : Type 0 where
  pub registered : Registered
  pub of_market : IsMarketOf market_bytes registered
  pub submitted : Submitted
  pub of_match : submitted_in registered match_bytes ≡ Ok submitted
  pub is_text : text ≡ findings_text (judged registered submitted) (length submitted.aside) (findings (judged registered submitted).market submitted)
  pub are_so : FindingsAreSo (judged registered submitted).market submitted
  pub ends : (code ≡ 0) ↔ (findings (judged registered submitted).market submitted ≡ [])
