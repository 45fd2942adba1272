use Rattle.std.proofs.Common.{arith, ◌∙◌}
use Rattle.mt_lists.proofs.FieldFacts.{piece-passed}
use Rattle.mt_lists.proofs.lines.past_pieces.Goals as goal

pub loop-rest-preserved : goal.loop-rest-preserved
loop-rest-preserved c =
    let split = c.split_at.ensures in
    let passed = c.from-passed.ensures ∙ c.piece_commas.ensures in
    let fewer = c.if-passed-left.false in
    piece-passed c.loop-rest.rest.now _ _ c.loop-rest.left _ 255 split.front split.back (omega (arith, passed, fewer)) (omega (arith, fewer))
    ∙ c.loop-rest.invariant
