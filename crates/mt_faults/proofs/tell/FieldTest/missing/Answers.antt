use Rattle.mt_faults.specs.Seen.{placed_left}
use Rattle.mt_faults.proofs.RecordFacts.{missing}
use Rattle.mt_faults.proofs.tell.FieldTest.missing.Goals as goal

pub returns : goal.returns
returns c rules = missing rules c.args.code c.args.ids (placed_left c.args.fields)
