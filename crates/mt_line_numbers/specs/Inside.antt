-- What holds of the place in a text that the code has come to.
use Rattle.std.specs.Prelude.{◌≡◌, ℕ, ◌+◌, List}
use Rattle.mt_line_numbers.specs.declared.place.Place.{Place}
use Rattle.mt_line_numbers.specs.LineEnds.{line_ends}
use Rattle.mt_line_numbers.specs.Records.{after_records}

-- the record after the first n of a text begins at this place
pub record IsAtRecord (text : List ℕ) (n : ℕ) (place : Place) : Type 0 where
  pub rest : place.rest.now ≡ after_records n text
  pub lines : place.line + line_ends place.rest.now ≡ line_ends text + 1
