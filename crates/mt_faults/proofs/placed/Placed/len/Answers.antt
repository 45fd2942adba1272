use Rattle.std.proofs.Common.{◌+◌, sym}
use Rattle.mt_lists.specs.Rows.{fields_left}
use Rattle.mt_faults.proofs.PartsFacts.{count_placed}
use Rattle.mt_faults.proofs.placed.Placed.len.Goals as goal

pub returns : goal.returns
returns c = sym (count_placed (c.args.self.now.before + 1) c.args.self.now.count (fields_left c.args.self.now.fields) c.args.self.now.enough)
