use Rattle.std.proofs.Common.{sym, ap, ◌∙◌}
use Rattle.mt_core.specs.Floors.{floor_of}
use Rattle.mt_core.proofs.FloorTables.{unseated_floor}
use Rattle.mt_core.proofs.step.notice.Goals as goal

pub returns-clause-floor : goal.returns-clause-floor
returns-clause-floor c =
    let m = c.args.ranks.now.market in
    let due = sym c.is_dropped.ensures ∙ c.if-not-is_dropped.false in
    rw due (ap (floor_of m) c.set_standing.ensures ∙ unseated_floor m c.args.floor.now c.args.applicant c.requires.opened c.requires.applicant)
