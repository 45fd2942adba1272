-- The headline in its own words: what the text of a report says of the bytes of its two files.
use Rattle.std.specs.Prelude.{◌≡◌, ℕ, ◌+◌, List, Ok, length}
use Rattle.mt_terms.specs.Lists.{total_below}
use Rattle.mt_terms.specs.Market.{Registered}
use Rattle.mt_terms.specs.Matching.{Places}
use Rattle.mt_terms.specs.Registration.Ids.{Bytes}
use Rattle.mt_terms.specs.Text.{all_filled, positions}
use Rattle.mt_match_file.specs.Submitted.{Submitted}
use Rattle.mt_input.specs.Files.{IsMarketOf}
use Rattle.mt_files.specs.Files.{submitted_in}
use Rattle.mt_files.specs.Refusals.{IsNamedRefusalOf}
use Rattle.mt_files.specs.declared.source.Source.{Source}
use Rattle.mt_statistics.specs.Counts.{at_choice, couples_with, empty_programs, full_programs, most_choices, open_posts, partly_filled_programs, singles, unmatched_singles}
use Rattle.mt_statistics.specs.Laws.{AreWithinQuotas, HaveOwnOptions}
use Rattle.mt_statistics_page.specs.Page.{report_page}
use Rattle.mt_statistics_text.specs.Text.{report_text}
use Rattle.mt_reported.specs.Text.{refused_line}
use Rattle.mt_reported.specs.declared.form.Form.{Form}
use Rattle.mt_reported.specs.declared.form.Form.TheVariants.{Lines, Page}

-- the numbers of a match in a form
abbrev pub text_in : Form → Registered → Places → Bytes
text_in Lines r places = report_text r places
text_in Page r places = report_page r places

-- The bytes are a market and a match of its applicants, and the text has the numbers of that match in this form. The singles add up
-- if each agent has an option of its list or nothing, and the posts if no program is over its quota.
pub record IsReported (form : Form) (market_bytes match_bytes text : List ℕ) : Type 0 where
  pub registered : Registered
  pub of_market : IsMarketOf market_bytes registered
  pub submitted : Submitted
  pub of_match : submitted_in registered match_bytes ≡ Ok submitted
  pub is_text : text ≡ text_in form registered submitted.places
  pub singles : HaveOwnOptions registered.market submitted.places
      → total_below (at_choice registered.market submitted.places) (most_choices registered.market submitted.places)
      + unmatched_singles registered.market submitted.places ≡ singles registered.market
  pub couples : couples_with registered.market submitted.places 2 + couples_with registered.market submitted.places 1
      + couples_with registered.market submitted.places 0 ≡ length registered.market.couples
  pub programs : full_programs registered.market submitted.places + partly_filled_programs registered.market submitted.places
      + empty_programs registered.market submitted.places ≡ length registered.market.programs
  pub posts : AreWithinQuotas registered.market submitted.places
      → all_filled registered.market submitted.places + open_posts registered.market submitted.places ≡ positions registered.market

-- one named refusal line
pub record IsRefusal (code : ℕ) (text : List ℕ) : Type 0 where
  pub file : Source
  pub row : ℕ
  pub id : Bytes
  pub named : IsNamedRefusalOf file code row id
  pub line : text ≡ refused_line file code row id
