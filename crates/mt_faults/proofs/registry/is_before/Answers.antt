use Rattle.mt_faults.proofs.AddedFacts.{in_first, not_in_first}
use Rattle.mt_faults.proofs.registry.is_before.Goals as goal

pub returns-in-Some : goal.returns-in-Some
returns-in-Some c = in_first c.args.table.now c.args.id.now c.in-Some.number c.args.seen c.in-Some.ensures

pub returns-in-None : goal.returns-in-None
returns-in-None c = not_in_first c.args.table.now c.args.id.now c.args.seen c.in-None.ensures
