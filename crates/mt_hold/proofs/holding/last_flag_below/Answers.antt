use Rattle.std.proofs.Common.{arith}
use Rattle.mt_hold.proofs.LastFlag.{word_of_end, word_before, not_first, last_in_word}
use Rattle.mt_hold.proofs.holding.last_flag_below.Goals as goal

pub loop-word-init : goal.loop-word-init
loop-word-init c = word_of_end c.args.words.now c.args.end

pub overflow_sub-at : goal.overflow_sub-at
overflow_sub-at c = not_first c.args.words.now c.args.end c.loop-word.at c.loop-word.word c.loop-word.invariant c.loop-word-test.true c.requires.some

pub loop-word-smaller : goal.loop-word-smaller
loop-word-smaller c =
    let some = not_first c.args.words.now c.args.end c.loop-word.at c.loop-word.word c.loop-word.invariant c.loop-word-test.true c.requires.some in
    omega arith

pub loop-word-preserved : goal.loop-word-preserved
loop-word-preserved c =
    word_before c.args.words.now c.args.end c.loop-word.at c.loop-word.word c.loop-word.invariant c.loop-word-test.true
    (not_first c.args.words.now c.args.end c.loop-word.at c.loop-word.word c.loop-word.invariant c.loop-word-test.true c.requires.some)

pub returns : goal.returns
returns c =
    last_in_word c.args.words.now c.args.end c.loop-word.at c.loop-word.word c.ilog2.result c.loop-word.invariant c.ilog2.ensures.power_le c.ilog2.ensures.next_power_gt c.ilog2.ensures.bound
