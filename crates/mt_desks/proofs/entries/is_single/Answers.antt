use Rattle.std.proofs.Common.{sym, ◌∙◌}
use Rattle.mt_desks.proofs.Keeping.{single_known}
use Rattle.mt_desks.proofs.entries.is_single.Goals as goal

pub returns-clause-known : goal.returns-clause-known
returns-clause-known c on = single_known c.args.ranks.now c.applicants.ensures.ranked c.args.applicant (sym c.is_single.ensures ∙ on)
