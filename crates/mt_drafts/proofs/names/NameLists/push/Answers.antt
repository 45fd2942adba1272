use Rattle.std.proofs.Common.{arith}
use Rattle.std.proofs.lemmas.Grind.{common_steps}
use Rattle.mt_drafts.proofs.names.NameLists.push.Goals as goal

pub returns-in_ok-push-in-Couple-2 : goal.returns-in_ok-push-in-Couple-2
returns-in_ok-push-in-Couple-2 c = grind (arith, common_steps)
