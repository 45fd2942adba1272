use Rattle.std.proofs.Common.{◌≡◌, ◌≤◌, take}
use Rattle.mt_terms.specs.Floor.{IsRecorded, IsLegal, IsStrict, after_all, due_count}
use Rattle.mt_core.specs.Floors.{floor_of, IsOpenedWith}
use Rattle.mt_core.proofs.settle.run.Given as goal

abbrev pub invariant-loop-event : goal.invariant-loop-event
invariant-loop-event l =
    record {
      opened : IsOpenedWith l.ranks.market l.floor;
      recorded : IsRecorded l.ranks.market (floor_of l.ranks.market l.floor);
      legal : IsLegal l.ranks.market (floor_of l.ranks.market l.initial.floor) → IsLegal l.ranks.market (floor_of l.ranks.market l.floor);
      strict : IsStrict l.ranks.market (floor_of l.ranks.market l.initial.floor) → IsStrict l.ranks.market (floor_of l.ranks.market l.floor);
      floor : floor_of l.ranks.market l.floor ≡ after_all l.ranks.market (floor_of l.ranks.market l.initial.floor) (take l.event-index l.events);
      count : l.due ≡ due_count l.ranks.market (floor_of l.ranks.market l.initial.floor) (take l.event-index l.events);
      few : l.due ≤ l.event-index;
    }
