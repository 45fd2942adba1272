use Rattle.std.proofs.Common.{not, sym, ap, ◌∙◌, arith}
use Rattle.std.proofs.lemmas.Grind.{elements}
use Rattle.mt_pair_lists.proofs.NeighbourFacts.{same_before, differ_in_order}
use Rattle.mt_pair_lists.proofs.duplicates.has_equal_neighbours.Goals as goal

pub returns-then-eq : goal.returns-then-eq
returns-then-eq g c =
    ap not
    (sym (same_before g.T.PartialEq.eq c.args.items.now c.loop-i.i c.index-items-i.result c.index-items-i-in-loop-i.result
    (omega arith) (omega arith) c.index-items-i.is c.index-items-i-in-loop-i.is (sym c.eq.ensures ∙ c.if-eq.true)))

pub returns : goal.returns
returns g c =
    ap not
    (sym (differ_in_order g.met.T.Ord.total g.T.PartialEq.eq g.met.T.Ord.matches_eq c.args.items.now c.requires
    (λ k d l. c.loop-i.invariant k d (omega arith))))

pub loop-i-preserved : goal.loop-i-preserved
loop-i-preserved g c = grind (arith, elements)
