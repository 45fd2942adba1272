use Rattle.mt_terms.specs.Floor.{IsRecorded}
use Rattle.mt_core.specs.Floors.{floor_of, IsOpenedWith}
use Rattle.mt_core.specs.Ends.{IsReached, AreSettled}
use Rattle.mt_core.proofs.settle.finish.Given as goal

abbrev pub invariant-loop-applicant : goal.invariant-loop-applicant
invariant-loop-applicant l =
    record {
      opened : IsOpenedWith l.ranks.market l.floor;
      recorded : IsRecorded l.ranks.market (floor_of l.ranks.market l.floor);
      reached : IsReached l.ranks.market (floor_of l.ranks.market l.initial.floor) (floor_of l.ranks.market l.floor) l.proposals;
      settled : AreSettled l.ranks.market (floor_of l.ranks.market l.floor) l.applicant;
    }
