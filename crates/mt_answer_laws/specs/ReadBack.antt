-- What the judge reads in a published text.
use Rattle.std.specs.Prelude.{◌≡◌, ℕ, List, Ok, IsTrue}
use Rattle.mt_terms.specs.Market.{Registered}
use Rattle.mt_terms.specs.Matching.{Places}
use Rattle.mt_terms.specs.Stability.{stable}
use Rattle.mt_terms.specs.Text.{published}
use Rattle.mt_match_file.specs.Submitted.{Submitted}
use Rattle.mt_input.specs.Files.{market_in}
use Rattle.mt_files.specs.Files.{submitted_in}

-- A text is that of a stable match of the market in the bytes, and it is read back as that match.
pub record IsReadBack (bytes text : List ℕ) : Type 0 where
  pub registered : Registered
  pub of_bytes : market_in bytes ≡ Ok registered
  pub places : Places
  pub received : List ℕ
  pub is_text : text ≡ published registered.market registered.names places received
  pub is_stable : IsTrue (stable registered.market places)
  pub submitted : Submitted
  pub of_text : submitted_in registered text ≡ Ok submitted
  pub same_places : submitted.places ≡ places
