use Rattle.std.proofs.Common.{◌≡◌, map, take}
use Rattle.mt_terms.specs.Text.{name_of}
use Rattle.mt_reordered.proofs.couples.couple_ids.Given as goal

abbrev pub invariant-loop-couple : goal.invariant-loop-couple
invariant-loop-couple l = l.ids ≡ map (name_of l.roster.names.couples) (take l.couple-index l.order)
