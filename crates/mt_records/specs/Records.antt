-- How the records that are parsed from rows are seen as those of the definition.
use Rattle.std.specs.Prelude.{List, Result, Ok, Err, map}
use Rattle.mt_ids.specs.Kinds.{kind_seen}
use Rattle.mt_lists.specs.Rows.{fields_left}
use Rattle.mt_terms.specs.Registration.Faults as faults
use Rattle.mt_terms.specs.Registration.Records as model
use Rattle.mt_records.specs.Fields.{members_in, pairs_after}
use Rattle.mt_records.specs.declared.record.Record.{Record}
use Rattle.mt_records.specs.declared.record.Record.TheVariants as records
use Rattle.mt_records.specs.declared.record.RecordFault.{RecordFault}

-- a record that was read, as the definition's record
abbrev pub record_seen : Record → model.Record
record_seen (records.Program quota id list) = model.ProgramRecord id.now quota (fields_left list)
record_seen (records.Applicant id list) = model.ApplicantRecord id.now (fields_left list)
record_seen (records.Couple id couple) = model.CoupleRecord id.now (members_in couple).0 (members_in couple).1 (pairs_after couple)
record_seen (records.Withdraw kind id) = model.WithdrawRecord (kind_seen kind) id.now

-- records that were read, as the definition's records
abbrev pub all_seen : List Record → List model.Record
all_seen records = map record_seen records

-- a fault without its record's number, as the definition's
abbrev pub record_fault_seen : RecordFault → faults.RecordFault
record_fault_seen c = (c.code, c.id.now)

-- what the reading of one record gives, the record or its fault, as the definition's result
abbrev pub read_seen : Result Record RecordFault → Result model.Record faults.RecordFault
read_seen (Ok r) = Ok (record_seen r)
read_seen (Err c) = Err (record_fault_seen c)
