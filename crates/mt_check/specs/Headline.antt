-- The headline in its own words: what the line of a check says of the bytes of its two files.
use Rattle.std.specs.Prelude.{◌≡◌, ◌↔◌, ℕ, List, length, None, Ok, IsTrue}
use Rattle.mt_terms.specs.Market.{Registered}
use Rattle.mt_terms.specs.Stability.{stable}
use Rattle.mt_match_file.specs.Submitted.{Submitted}
use Rattle.mt_input.specs.Files.{IsMarketOf}
use Rattle.mt_files.specs.Files.{submitted_in}
use Rattle.mt_first_finding.specs.Findings.{FindingSays, first_differing, judged}
use Rattle.mt_first_finding.specs.Text.{finding_line, stable_line_with}
use Rattle.mt_first_finding.specs.declared.finding.Finding.{Finding}

-- The bytes are a market and a match of its applicants, and the line says what is so of that match. The line is that
-- of a stable match exactly if the match is stable by the market's lists and no record has other counts. Otherwise it
-- is the line of the first finding. Couples that the match sets aside want nothing, and the line of a stable match says
-- how many they are.
pub record IsJudged (market_bytes match_bytes : List ℕ) (code : ℕ) (text : List ℕ) : Type 0 where
  pub registered : Registered
  pub of_market : IsMarketOf market_bytes registered
  pub submitted : Submitted
  pub of_match : submitted_in registered match_bytes ≡ Ok submitted
  pub finding : Finding
  pub is_text : text ≡ finding_line (judged registered submitted) (length submitted.aside) finding
  pub is_so : FindingSays (judged registered submitted).market submitted finding
  pub stable : (text ≡ stable_line_with (length submitted.aside))
      ↔ (IsTrue (stable (judged registered submitted).market submitted.places) × (first_differing registered.market submitted ≡ None))
  pub ends : (code ≡ 0) ↔ (text ≡ stable_line_with (length submitted.aside))
