use Rattle.std.proofs.Common.{◌+◌, ◌*◌}
use Rattle.mt_ranks.proofs.tables.+parts.Given as goal

abbrev pub decreases-parts_below : goal.decreases-parts_below
decreases-parts_below g l = 2 * l.count

abbrev pub decreases-others : goal.decreases-others
decreases-others g l = 2 * l.last + 1
