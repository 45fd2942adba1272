use Rattle.std.proofs.Common.{◌≡◌, ℕ, ◌<◌, ◌-◌}
use Rattle.mt_terms.specs.Market.{applicants, live_entries}
use Rattle.mt_terms.specs.Floor.{IsRecorded, proposals_made}
use Rattle.mt_ranks.specs.Ranked.{ranked_list}
use Rattle.mt_core.specs.Floors.{floor_of, IsOpenedWith}
use Rattle.mt_core.specs.Ends.{IsReached, AreSettledBut}
use Rattle.mt_core.proofs.settle.settle.Given as goal

abbrev pub invariant-loop-displaced : goal.invariant-loop-displaced
invariant-loop-displaced l =
    record {
      opened : IsOpenedWith l.ranks.market l.floor;
      recorded : IsRecorded l.ranks.market (floor_of l.ranks.market l.floor);
      applicant : l.applicant < applicants l.ranks.market;
      list : l.list ≡ ranked_list l.ranks.market l.applicant;
      reached : IsReached l.ranks.market (floor_of l.ranks.market l.initial.floor) (floor_of l.ranks.market l.floor) l.proposals;
      settled : (n : ℕ) → AreSettledBut l.ranks.market (floor_of l.ranks.market l.initial.floor) n l.initial.applicant
          → AreSettledBut l.ranks.market (floor_of l.ranks.market l.floor) n l.applicant;
    }

abbrev pub decreases-loop-displaced : goal.decreases-loop-displaced
decreases-loop-displaced l = live_entries l.ranks.market - proposals_made l.ranks.market (floor_of l.ranks.market l.floor)
