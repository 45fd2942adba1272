use Rattle.std.proofs.Common.{◌+◌, ap, ◌∙◌, take}
use Rattle.mt_lists.specs.Rows.{fields_left}
use Rattle.mt_fault_terms.specs.Faults.{placed_from}
use Rattle.mt_faults.proofs.PartsFacts.{take-taken}
use Rattle.mt_faults.proofs.placed.Placed.first.Goals as goal

pub returns : goal.returns
returns c =
    let fields = placed_from (c.args.self.now.before + 1) (fields_left c.args.self.now.fields) in
    ap (λ n. take n fields) c.min.ensures ∙ take-taken c.args.count c.args.self.now.count fields
