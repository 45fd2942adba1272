use Rattle.std.proofs.Common.{◌∙◌}
use Rattle.mt_ranks.proofs.TablesSeen.{count_of_applicants}
use Rattle.mt_ranks.proofs.tables.Ranks.applicants.Goals as goal

pub returns-clause-count : goal.returns-clause-count
returns-clause-count c = c.applicants.ensures.count ∙ count_of_applicants c.self.inside c.args.self.now c.self.view_is
