use Rattle.std.proofs.Common.{◌≡◌, [], replicate}
use Rattle.mt_stage_tables.proofs.couple_list.CoupleLists.new.Given as goal

abbrev pub invariant-loop : goal.invariant-loop
invariant-loop l = l.named ≡ replicate l.counter []
