use Rattle.mt_lists.specs.Rows.{fields_left}
use Rattle.mt_faults.proofs.PartsFacts.{all_placed}
use Rattle.mt_faults.proofs.placed.Placed.of.Goals as goal

pub returns : goal.returns
returns c = all_placed 1 c.len-count.result (fields_left c.args.fields) c.len-count.ensures
