use Rattle.std.proofs.Common.{◌∙◌, List, Bool, true, ap, set}
use Rattle.mt_id_lists.proofs.ListFacts.{flags_set}
use Rattle.mt_id_lists.proofs.met.Met.meet.Goals as goal

pub returns-clause-met : goal.returns-clause-met
returns-clause-met c = flags_set c.self.inside.stamp c.self.inside.stamps.items c.args.place ∙ ap (λ (l : List Bool). set l c.args.place true) c.self.view_is
