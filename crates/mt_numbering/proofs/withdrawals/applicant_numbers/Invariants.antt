use Rattle.std.proofs.Common.{◌≡◌, ◌≤◌, ◌+◌, ◌++◌, drop, length}
use Rattle.mt_draft_laws.specs.Staying.{new_numbers, applicant_flags}
use Rattle.mt_terms.specs.Registration.Rows.{applicant_ids}
use Rattle.mt_records.specs.Records.{all_seen}
use Rattle.mt_numbering.specs.Withdrawals.{stays_after}
use Rattle.mt_numbering.proofs.withdrawals.applicant_numbers.Given as goal

abbrev pub invariant-loop-one : goal.invariant-loop-one
invariant-loop-one l = record {
  numbers : l.numbers.items ++ new_numbers l.next (applicant_flags (stays_after l.withdrawn) (all_seen (drop l.one-index l.records)))
      ≡ new_numbers 0 (applicant_flags (stays_after l.withdrawn) (all_seen l.records));
  few : l.next + length (applicant_ids (all_seen (drop l.one-index l.records))) ≤ length (applicant_ids (all_seen l.records));
}
