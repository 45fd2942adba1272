use Rattle.std.proofs.Common.{ap, sym, ◌∙◌}
use Rattle.std.specs.Prelude.{option_map}
use Rattle.std.specs.Result.{result_ok}
use Rattle.mt_lists.specs.Rows.{rows_left}
use Rattle.mt_terms.specs.Registration.Passes.{numbered_from}
use Rattle.mt_records.specs.Refusals.{fault_seen}
use Rattle.mt_passes.specs.Registers.{records_seen}
use Rattle.mt_passes.proofs.FaultFacts.{market_by}
use Rattle.mt_passes.proofs.fault.fault_by.Goals as goal

pub unreachable-requires : goal.unreachable-requires
unreachable-requires c =
    let rows = numbered_from c.args.first (rows_left c.args.rows) in
    let records = records_seen c.first_pass.new.register in
    let found = market_by c.args.rules.now rows records (option_map fault_seen c.second_pass.result) c.in-Ok.ensures.1 c.second_pass.ensures (ap (option_map fault_seen) c.in-None.is) in
    cc (sym c.requires.fault ∙ ap result_ok found)
