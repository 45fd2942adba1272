use Rattle.std.proofs.Common.{subst}
use Rattle.mt_stage_tables.specs.View.{IsWorkList}
use Rattle.mt_stage_tables.proofs.FlagFacts.{flags_rest}
use Rattle.mt_stage_tables.proofs.work_list.WorkList.take.Goals as goal

pub invariant_of-self-2 : goal.invariant_of-self-2
invariant_of-self-2 c =
    let f = c.self.inside.flags in
    let g = c.in_ok-agent.agent in
    let gs = c.pop_front.new.self.items in
    rw c.set.ensures (flags_rest f g gs (subst (IsWorkList f) c.in_ok-agent.ensures.items c.self.invariant))
