use Rattle.std.proofs.Common.{◌∙◌, ◌+◌, ◌*◌, ◌^◌, ◌≤◌, length, ap, arith}
use Rattle.mt_ids.proofs.WordFacts.{above_56}
use Rattle.mt_ids.proofs.words.word_of.Goals as goal

pub returns : goal.returns
returns c =
    let id = c.args.id.now in
    let bytes = c.bytes_of.ensures in
    (above_56 _ _ bytes.bound (let h : length id ≤ 15 = omega (arith, c.requires) in h) ∙ ap (λ b. b + length id * 2 ^ 56) bytes.value, λ i. (c.type_inv.id i).fits)
