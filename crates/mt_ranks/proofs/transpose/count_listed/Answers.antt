use Rattle.std.proofs.Common.{◌<◌, length, arith}
use Rattle.mt_terms.proofs.ListFacts.{item_below}
use Rattle.mt_ranks.proofs.ListedFacts.{counted_more}
use Rattle.mt_ranks.proofs.transpose.count_listed.Goals as goal

pub offset_bounds-counts-index : goal.offset_bounds-counts-index
offset_bounds-counts-index c =
    let w : c.index.result < length c.loop-applicant.counts =
    omega (arith, item_below c.args.ranking.now c.loop-applicant.applicant-index c.applicant-item.result _ c.loop-applicant-test.true c.applicant-item.is c.requires.within) in
    grind arith

pub bounds-counts-index : goal.bounds-counts-index
bounds-counts-index c =
    omega (arith, item_below c.args.ranking.now c.loop-applicant.applicant-index c.applicant-item.result _ c.loop-applicant-test.true c.applicant-item.is c.requires.within)

pub bounds-counts-index-in-loop-applicant : goal.bounds-counts-index-in-loop-applicant
bounds-counts-index-in-loop-applicant c =
    omega (arith, item_below c.args.ranking.now c.loop-applicant.applicant-index c.applicant-item.result _ c.loop-applicant-test.true c.applicant-item.is c.requires.within)

pub loop-applicant-preserved : goal.loop-applicant-preserved
loop-applicant-preserved c = rw c.index.ensures
    (counted_more c.loop-applicant.counts c.args.counts.now c.args.ranking.now c.loop-applicant.applicant-index c.applicant-item.result c.loop-applicant.invariant c.loop-applicant-test.true c.applicant-item.is
    (omega (arith, item_below c.args.ranking.now c.loop-applicant.applicant-index c.applicant-item.result _ c.loop-applicant-test.true c.applicant-item.is c.requires.within)))
