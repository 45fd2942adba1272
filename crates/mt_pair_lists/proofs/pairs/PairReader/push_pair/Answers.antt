use Rattle.std.proofs.Common.{◌∙◌, ap, length}
use Rattle.mt_id_lists.proofs.ListFacts.{length-with_last}
use Rattle.mt_pair_lists.proofs.pairs.PairReader.push_pair.Goals as goal

pub returns-in_ok-push-clause-len : goal.returns-in_ok-push-clause-len
returns-in_ok-push-clause-len c = ap length c.in_ok-push.ensures.ok ∙ length-with_last _ _
