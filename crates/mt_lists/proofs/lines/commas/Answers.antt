use Rattle.std.proofs.Common.{arith}
use Rattle.mt_lists.proofs.FieldFacts.{commas-few, commas-parts, fields-count}
use Rattle.mt_lists.proofs.lines.commas.Goals as goal

pub returns-clause-fields : goal.returns-clause-fields
returns-clause-fields c = omega (arith, c.from.ensures, c.piece_commas-2.ensures, c.loop-left.invariant, fields-count c.args.line.now)

pub overflow_add-count : goal.overflow_add-count
overflow_add-count c =
    let split = c.split_at.ensures in
    let parts = commas-parts c.loop-left.left.now _ _ 255 split.front split.back in
    omega (arith, c.from-count.ensures, c.piece_commas.ensures, c.loop-left.invariant, parts, commas-few c.args.line.now)

pub loop-left-preserved : goal.loop-left-preserved
loop-left-preserved c =
    let split = c.split_at.ensures in
    let parts = commas-parts c.loop-left.left.now _ _ 255 split.front split.back in
    omega (arith, c.from-count.ensures, c.piece_commas.ensures, c.loop-left.invariant, parts)

pub overflow_add-result : goal.overflow_add-result
overflow_add-result c =
    omega (arith, c.from.ensures, c.piece_commas-2.ensures, c.loop-left.invariant, commas-few c.args.line.now)

pub returns-clause-few : goal.returns-clause-few
returns-clause-few c =
    omega (arith, c.from.ensures, c.piece_commas-2.ensures, c.loop-left.invariant, commas-few c.args.line.now)
