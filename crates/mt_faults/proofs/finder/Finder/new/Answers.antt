use Rattle.std.proofs.Common.{refl}
use Rattle.mt_lists.specs.Rows.{rows_left}
use Rattle.mt_terms.specs.Registration.Passes.{numbered_from}
use Rattle.mt_fault_terms.specs.OfFile.{all_parts}
use Rattle.mt_faults.proofs.finder.Finder.new.Goals as goal

pub returns-clause-stands : goal.returns-clause-stands
returns-clause-stands c = λ first. record {
  rest = all_parts c.args.rules.now (numbered_from first (rows_left c.args.rows));
  first = refl;
  registry = c.in_ok-registry.ensures first;
  before_is = c.new.ensures c.args.rules.now;
}
