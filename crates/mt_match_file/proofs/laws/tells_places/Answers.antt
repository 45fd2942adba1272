use Rattle.mt_match_file.proofs.PlaceFacts.{tells_places_lem}
use Rattle.mt_match_file.proofs.laws.tells_places.Goals as goal

pub returns : goal.returns
returns c = tells_places_lem
