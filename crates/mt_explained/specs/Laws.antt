-- A law of the answer.
use Rattle.std.specs.Prelude.{◌≡◌, Bool, List, []}
use Rattle.mt_terms.specs.Market.{Registered}
use Rattle.mt_terms.specs.Registration.Ids.{Bytes}
use Rattle.mt_match_file.specs.Submitted.{Submitted}
use Rattle.mt_explained.specs.Answer.{match_answer, submitted_answer}

-- a match that sets no couple aside is explained by all lists of the market
abbrev pub ExplainedByAllLists : Type 0
ExplainedByAllLists =
    (r : Registered) (submitted : Submitted) (ids : List Bytes) (is_public : Bool) → submitted.aside ≡ []
    → submitted_answer ids is_public r submitted ≡ match_answer r submitted.places ids is_public
