use Rattle.std.proofs.Common.{◌≡◌}
use Rattle.mt_core.specs.Desks.{with_desk}
use Rattle.mt_core.specs.Floors.{floor_of, IsOpenedWith}
use Rattle.mt_core.proofs.floor.Floor.put_desk.Given as goal

abbrev pub invariant-loop-place : goal.invariant-loop-place
invariant-loop-place l =
    let m = l.ranks.market in
    let f = floor_of m l.self in
    record {
      opened : IsOpenedWith m l.self;
      shows : f ≡ with_desk m (floor_of m l.initial.self) l.applicant l.place (f.standing l.applicant);
    }
