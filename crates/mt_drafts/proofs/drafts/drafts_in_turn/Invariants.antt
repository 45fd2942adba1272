use Rattle.std.proofs.Common.{◌≡◌, false}
use Rattle.mt_lists.specs.Rows.{rows_left}
use Rattle.mt_terms.specs.Registration.Passes.{are_too_many}
use Rattle.mt_drafts.specs.Drafts.{drafted, AreDrafts}
use Rattle.mt_drafts.proofs.DraftFacts.{GoesOn}
use Rattle.mt_drafts.proofs.drafts.drafts_in_turn.Given as goal

abbrev pub invariant-loop-row : goal.invariant-loop-row
invariant-loop-row l = record {
  are : AreDrafts l.drafts;
  few : are_too_many l.rules.limits (drafted l.drafts) ≡ false;
  goes_on : GoesOn l.rules (rows_left l.fn.rows) (drafted l.drafts) (rows_left l.row-iterator);
}
