use Rattle.std.proofs.Common.{subst}
use Rattle.mt_desks.specs.Parts.{DoorView, RefusedAreExcluded}
use Rattle.mt_desks.proofs.Meeting.{fallen}
use Rattle.mt_desks.proofs.door.Door.received.Goals as goal

pub returns-clause-refused : goal.returns-clause-refused
returns-clause-refused g c wf =
    let m = g.K.HallName.ranked.market in
    let v : DoorView = record { program = c.self.inside.program; holding = c.self.inside.hold } in
    subst (λ (x : DoorView). RefusedAreExcluded m x) c.self.view_is (fallen m wf v c.self.invariant)
