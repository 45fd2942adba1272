use Rattle.std.proofs.Common.{sym, ap, ◌∙◌, Err}
use Rattle.std.specs.Prelude.{option_map}
use Rattle.mt_records.specs.Records.{record_seen, record_fault_seen}
use Rattle.mt_passes.specs.Registers.{contents_seen, records_seen}
use Rattle.mt_passes.proofs.PassFacts.{IsAccepted, is_accepted, once_said, few_more, ends_beside, goes_on}
use Rattle.mt_passes.proofs.first.read_record.Goals as goal

accepted : (c : goal.After-push-arg-1) → IsAccepted c.args.rules.now (contents_seen c.args.register.now) (record_seen c.args.next)
accepted c = is_accepted c.args.rules.now (contents_seen c.args.register.now) (record_seen c.args.next) (sym c.in_ok-record_fault.ensures ∙ ap (option_map record_fault_seen) c.in_default.is)

pub push-requires-clause-new : goal.push-requires-clause-new
push-requires-clause-new c = (accepted c).new

pub push-requires-clause-once : goal.push-requires-clause-once
push-requires-clause-once c = once_said (contents_seen c.args.register.now) (record_seen c.args.next) (accepted c).once

pub push-requires-clause-few : goal.push-requires-clause-few
push-requires-clause-few c = few_more c.args.rules.now (contents_seen c.args.register.now) (record_seen c.args.next) c.requires.limits (accepted c).few

pub returns-in-Some : goal.returns-in-Some
returns-in-Some c = λ fields is rest.
    ends_beside c.args.rules.now (records_seen c.args.register.now) c.args.number fields rest (record_seen c.args.next) (record_fault_seen c.in-Some.record_fault) is
    (sym c.in_ok-record_fault.ensures ∙ ap (option_map record_fault_seen) c.in-Some.is) ∙ ap Err (sym c.at.ensures)

pub returns : goal.returns
returns c = λ fields is. (
  c.in_ok-push.ensures.register,
  λ rest.
      goes_on c.args.rules.now (records_seen c.args.register.now) c.args.number fields rest (records_seen c.push.new.self) (record_seen c.args.next) is
      (sym c.in_ok-record_fault.ensures ∙ ap (option_map record_fault_seen) c.in_default.is) c.in_ok-push.ensures.records,
)
