use Rattle.std.proofs.Common.{◌≡◌, []}
use Rattle.mt_lists.specs.Rows.{rows_left}
use Rattle.mt_terms.specs.Registration.Passes.{numbered_from}
use Rattle.mt_terms.specs.Registration.Records.{Kind}
use Rattle.mt_ids.specs.Kinds.{ids_in}
use Rattle.mt_fault_terms.specs.OfFile.{all_parts}
use Rattle.mt_fault_terms.specs.Parts.{all_own_ids, all_applicants}
use Rattle.mt_faults.specs.Registered.{added}
use Rattle.mt_faults.proofs.registry.Registry.of.Given as goal

-- with the records that have yet to come, the tables are what they will be
abbrev pub invariant-loop-row : goal.invariant-loop-row
invariant-loop-row l = record {
  registered : (kind : Kind) → added (ids_in l.registry.registered kind) (all_own_ids l.rules kind (all_parts l.rules (numbered_from 1 (rows_left l.row-iterator))))
      ≡ added [] (all_own_ids l.rules kind (all_parts l.rules (numbered_from 1 (rows_left l.fn.rows))));
  applicants : added l.registry.applicants (all_applicants l.rules (all_parts l.rules (numbered_from 1 (rows_left l.row-iterator))))
      ≡ added [] (all_applicants l.rules (all_parts l.rules (numbered_from 1 (rows_left l.fn.rows))));
}
