use Rattle.std.proofs.Common.{not, sym, ap, ◌∙◌}
use Rattle.mt_pair_lists.proofs.NeighbourFacts.{differ_in_any_order}
use Rattle.mt_pair_lists.proofs.duplicates.has_duplicate.Goals as goal

pub returns : goal.returns
returns g c =
    c.has_equal_neighbours.ensures
    ∙ ap not (sym (differ_in_any_order g.met.T.Ord.total g.T.PartialEq.eq g.met.T.Ord.matches_eq c.args.items.now c.sort_unstable.new.self c.sort_unstable.ensures.permutation))
