use Rattle.std.proofs.Common.{◌≡◌, ◌≤◌, ◌+◌, ◌++◌, drop, length}
use Rattle.mt_draft_laws.specs.Staying.{new_numbers, program_flags}
use Rattle.mt_terms.specs.Registration.Records.{OfProgram}
use Rattle.mt_terms.specs.Registration.Rows.{ids_of}
use Rattle.mt_records.specs.Records.{all_seen}
use Rattle.mt_numbering.specs.Withdrawals.{stays_after}
use Rattle.mt_numbering.proofs.withdrawals.program_numbers.Given as goal

abbrev pub invariant-loop-one : goal.invariant-loop-one
invariant-loop-one l = record {
  numbers : l.numbers.items ++ new_numbers l.next (program_flags (stays_after l.withdrawn) (all_seen (drop l.one-index l.records)))
      ≡ new_numbers 0 (program_flags (stays_after l.withdrawn) (all_seen l.records));
  few : l.next + length (ids_of OfProgram (all_seen (drop l.one-index l.records))) ≤ length (ids_of OfProgram (all_seen l.records));
}
