use Rattle.std.proofs.Common.{◌≡◌, ◌≤◌, ◌<◌, ℕ, Some, false, take, length}
use Rattle.mt_ranks.specs.Ranked.{rank_of}
use Rattle.mt_stage_tables.specs.Ranks.{HavePlaced}
use Rattle.mt_assignment.specs.Assigned.{assignment}
use Rattle.mt_assignment.specs.Watched.{ranks_at, IsWatched}
use Rattle.mt_assignment.proofs.assignment.placed_ranks.Given as goal

abbrev pub invariant-loop-number : goal.invariant-loop-number
invariant-loop-number l = record {
  placed : HavePlaced l.roster.market (take l.number l.places) l.table;
  one_each : length l.watched ≡ length l.roster.market.programs;
  each : (a : ℕ) → a < l.number → IsWatched (assignment l.roster.market l.places) l.watched a;
  later : (a p r : ℕ) → l.number ≤ a → p < length l.roster.market.programs → rank_of l.roster.market p a ≡ Some r → ranks_at l.watched p r ≡ false;
}
