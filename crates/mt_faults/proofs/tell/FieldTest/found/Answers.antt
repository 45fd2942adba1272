use Rattle.mt_faults.specs.Seen.{placed_left}
use Rattle.mt_faults.proofs.RecordFacts.{found}
use Rattle.mt_faults.proofs.tell.FieldTest.found.Goals as goal

pub returns : goal.returns
returns c rules = found rules c.args.code c.args.ids c.args.seen (placed_left c.args.fields)
