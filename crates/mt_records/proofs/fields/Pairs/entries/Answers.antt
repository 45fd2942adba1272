use Rattle.std.proofs.Common.{arith}
use Rattle.mt_lists.specs.Rows.{fields_left}
use Rattle.mt_records.proofs.FieldFacts.{places_long}
use Rattle.mt_records.proofs.fields.Pairs.entries.Goals as goal

pub returns : goal.returns
returns c = omega (arith, c.len.ensures, places_long (fields_left c.args.self.now.fields))
