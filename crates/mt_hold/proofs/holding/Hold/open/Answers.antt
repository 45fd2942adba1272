use Rattle.std.proofs.Common.{ℕ, ap, sym, ◌∙◌, ◌+◌, ◌/◌, arith, length}
use Rattle.std.proofs.lemmas.List.{length-replicate}
use Rattle.mt_terms.specs.Lists.{count_below}
use Rattle.mt_hold.specs.Holding.{Holding}
use Rattle.mt_bits.specs.Flags.{flag, flags}
use Rattle.mt_bits.proofs.Flags.{flags-zeros}
use Rattle.mt_hold.proofs.Bits.{count-zeros}
use Rattle.mt_hold.proofs.Ends.{IsEnd-empty}
use Rattle.mt_hold.proofs.holding.Hold.open.Goals as goal

pub invariant_of-result : goal.invariant_of-result
invariant_of-result c =
    let n = c.args.list_len in
    let m = n / 64 + 1 in
    let zeros = c.in_ok-received.ensures.items_if_clones_equal (λ y e. e) in
    let none = ap (λ words. count_below (flag words) n) zeros ∙ count-zeros m n in
    record {
      words = omega (arith, ap length zeros, length-replicate {A = ℕ} m 0);
      counted = sym none;
      ends = IsEnd-empty c.args.quota n (flag c.in_ok-received.received.items) none;
    }

pub returns : goal.returns
returns c =
    let n = c.args.list_len in
    let zeros = c.in_ok-received.ensures.items_if_clones_equal (λ y e. e) in
    ap {B = Holding} (λ f. record { quota = c.args.quota; received = f })
    (ap (λ words. flags words n) zeros ∙ flags-zeros (n / 64 + 1) n)
