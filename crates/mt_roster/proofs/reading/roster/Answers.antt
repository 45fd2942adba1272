use Rattle.mt_roster.proofs.FaultFacts.{has_short_id}
use Rattle.mt_roster.proofs.reading.roster.Goals as goal

pub error_of-requires : goal.error_of-requires
error_of-requires g c = has_short_id c.args.rows.now c.in-Err.refusal c.in-Err.ensures
