use Rattle.std.proofs.Common.{◌∙◌, ◌<◌, ◌^◌, ◌/◌, arith, refl}
use Rattle.mt_ids.proofs.WordFacts.{above_32}
use Rattle.mt_ids.proofs.words.seven.Goals as goal

pub returns-clause-value : goal.returns-clause-value
returns-clause-value c =
    let first = c.four.ensures in
    let last = c.four-2.ensures in
    above_32 _ _ first.bound (let h : c.four-2.result / 256 < 2 ^ 32 = omega (arith, last.bound) in h) ∙ rw (first.value, last.value) refl
