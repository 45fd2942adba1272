use Rattle.std.proofs.Common.{subst}
use Rattle.mt_match_file.specs.Errors.{Tells}
use Rattle.mt_match_file.specs.Submitted.{submitted_by}
use Rattle.mt_match_file.specs.declared.fault.MatchError.{MatchError}
use Rattle.mt_files.proofs.NameFacts.{refusal_of_rows}
use Rattle.mt_files.proofs.files.match_of.Goals as goal

pub returns-in-Err-Fault-clause-refused : goal.returns-in-Err-Fault-clause-refused
returns-in-Err-Fault-clause-refused c =
    refusal_of_rows c.args.roster.now c.args.rows.now c.in-Err-Fault.fault
    (subst (λ (e : MatchError). Tells e (submitted_by c.args.roster.now c.args.rows.now)) c.in-Err-Fault.field-0-is c.in-Err-Fault.ensures.fault)
