use Rattle.std.proofs.Common.{sym, ap, ◌∙◌, Err}
use Rattle.mt_lists.specs.Rows.{fields_left}
use Rattle.mt_records.specs.Records.{read_seen, record_fault_seen}
use Rattle.mt_passes.specs.Registers.{records_seen}
use Rattle.mt_passes.proofs.PassFacts.{ends_alone}
use Rattle.mt_passes.proofs.first.read_fields.Goals as goal

pub returns-in-Ok : goal.returns-in-Ok
returns-in-Ok c = c.read_record.ensures (fields_left c.args.fields) (sym c.record_of.ensures ∙ ap read_seen c.in-Ok.is)

pub returns-in-Err : goal.returns-in-Err
returns-in-Err c = λ rest.
    ends_alone c.args.rules.now (records_seen c.args.register.now) c.args.number (fields_left c.args.fields) rest (record_fault_seen c.in-Err.record_fault)
    (sym c.record_of.ensures ∙ ap read_seen c.in-Err.is) ∙ ap Err (sym c.at.ensures)
