use Rattle.std.proofs.Common.{Bool, ◌∙◌, ap, length, arith, if◌then◌else◌, []}
use Rattle.mt_terms.specs.Lists.{has}
use Rattle.mt_terms.specs.Market.{couple_of}
use Rattle.mt_reordered.specs.Copied.{pairs_at, pairs_unless_aside}
use Rattle.mt_reordered.proofs.ColumnFacts.{one_more}
use Rattle.mt_reordered.proofs.PlaceFacts.{flag_is, pairs_if}
use Rattle.mt_terms.proofs.BelowFacts.{length-map_below}
use Rattle.mt_reordered.proofs.couples.pairs_unless_aside.Goals as goal

pub index-requires : goal.index-requires
index-requires c =
    let is_aside = c.in_ok-is_aside.is_aside in
    omega (arith, is_aside.ok.0, ap length c.in_ok-is_aside.ensures, length-map_below (has c.args.aside.now) c.couples.result)

pub loop-number-preserved : goal.loop-number-preserved
loop-number-preserved c =
    let m = c.args.roster.now.market in
    let k = c.loop-number.number in
    let flag = flag_is c.args.aside.now c.couples.result k c.in_ok-is_aside.is_aside.items c.index.result.now c.in_ok-is_aside.ensures (omega arith) c.index.ensures in
    one_more (pairs_unless_aside c.args.aside.now m) k _ _ _ c.loop-number.invariant
    (ap (λ (b : Bool). if b then [] else pairs_at m k) flag ∙ pairs_if (has c.args.aside.now k) (couple_of m k)) c.in_ok-push_pairs.ensures
