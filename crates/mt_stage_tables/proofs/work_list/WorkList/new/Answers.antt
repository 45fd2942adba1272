use Rattle.mt_stage_tables.proofs.FlagFacts.{nobody_flagged}
use Rattle.mt_stage_tables.proofs.work_list.WorkList.new.Goals as goal

pub invariant_of-result : goal.invariant_of-result
invariant_of-result c = rw (c.new.ensures.items, c.in_ok-new.ensures) (nobody_flagged c.args.applicants c.args.couples)
