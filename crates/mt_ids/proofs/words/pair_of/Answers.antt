use Rattle.std.proofs.Common.{◌∙◌, ℕ, ◌+◌, ◌*◌, ◌^◌, length, ap, ap₂}
use Rattle.mt_ids.proofs.WordFacts.{above_32, above_56}
use Rattle.mt_ids.proofs.words.pair_of.Goals as goal

pub returns : goal.returns
returns c =
    let id = c.args.id.now in
    let first = c.four.ensures in
    let second = c.four-2.ensures in
    let last = c.seven.ensures in
    let low = above_32 _ _ first.bound second.bound ∙ ap₂ (λ a b. a + b * 2 ^ 32) first.value second.value in
    let high = above_56 _ _ last.bound c.requires.short ∙ ap (λ b. b + length id * 2 ^ 56) last.value in
    (ap₂ (λ (a b : ℕ). (a, b)) low high, λ i. (c.type_inv.id i).fits)
