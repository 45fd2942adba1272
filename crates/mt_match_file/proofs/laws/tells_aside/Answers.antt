use Rattle.mt_match_file.proofs.PlaceFacts.{tells_aside_lem}
use Rattle.mt_match_file.proofs.laws.tells_aside.Goals as goal

pub returns : goal.returns
returns c = tells_aside_lem
