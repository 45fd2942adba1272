use Rattle.std.proofs.Common.{◌∙◌, ◌-◌, ◌/◌, length, sym}
use Rattle.mt_ids.proofs.WordFacts.{above_8, bytes_of_four, bytes_of_one, bytes_of_none}
use Rattle.mt_ids.proofs.words.bytes_of.Goals as goal

pub returns-then-len-ge4-clause-value : goal.returns-then-len-ge4-clause-value
returns-then-len-ge4-clause-value c = c.seven.ensures.value ∙ sym (bytes_of_four c.args.id.now c.if-len-ge4.true)

pub returns-then-len-gt0-clause-value : goal.returns-then-len-gt0-clause-value
returns-then-len-gt0-clause-value c =
    let id = c.args.id.now in
    let byte = c.type_inv.id in
    rw (c.from.ensures, c.from-then-len-gt0.ensures, c.from-then-len-gt0-2.ensures)
    (above_8 _ _ _ (byte 0).fits (byte (length id / 2)).fits (byte (length id - 1)).fits ∙ sym (bytes_of_one id c.if-len-ge4.false c.if-len-gt0.true))

pub returns-else-len-gt0-clause-value : goal.returns-else-len-gt0-clause-value
returns-else-len-gt0-clause-value c = sym (bytes_of_none c.args.id.now c.if-len-gt0.false)
