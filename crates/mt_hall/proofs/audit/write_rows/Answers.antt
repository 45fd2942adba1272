use Rattle.mt_floor_laws.proofs.FloorEvents.{legal_from_passed_lem}
use Rattle.mt_core.specs.Floors.{floor_of}
use Rattle.mt_hall.proofs.audit.write_rows.Goals as goal

pub returns-clause-legal : goal.returns-clause-legal
returns-clause-legal c =
    let m = c.args.ranks.now.market in
    legal_from_passed_lem m c.applicants-applicant-end.ensures.ranked.well_formed (floor_of m c.loop-applicant.floor) c.loop-applicant.invariant.recorded c.loop-applicant.invariant.passed
