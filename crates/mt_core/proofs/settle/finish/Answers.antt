use Rattle.std.proofs.Common.{◌+◌, arith}
use Rattle.mt_terms.specs.Market.{applicants}
use Rattle.mt_terms.specs.Floor.{is_settled}
use Rattle.mt_stability_laws.proofs.ListLemmas.{all_below}
use Rattle.mt_core.specs.Floors.{floor_of}
use Rattle.mt_core.proofs.Reaching.{reached_more, reached_legal, reached_strict, reached_made, reached_few}
use Rattle.mt_core.proofs.settle.finish.Goals as goal
use Rattle.mt_ranks.proofs.LiveMarket.{few_live}

pub overflow_add-proposals : goal.overflow_add-proposals
overflow_add-proposals c =
    let r = c.args.ranks.now in
    let f = floor_of r.market c.args.floor.now in
    let g = floor_of r.market c.loop-applicant.floor in
    let h = floor_of r.market c.settle-proposals.new.floor in
    let all = reached_more r.market f g h c.loop-applicant.proposals c.settle-proposals.result c.loop-applicant.invariant.reached c.settle-proposals.ensures.reached in
    omega (arith, reached_few r.market f h _ all c.requires.recorded, few_live r c.applicants-applicant-end.ensures.ranked)

pub loop-applicant-preserved : goal.loop-applicant-preserved
loop-applicant-preserved c =
    let m = c.args.ranks.now.market in
    let f = floor_of m c.args.floor.now in
    let g = floor_of m c.loop-applicant.floor in
    let h = floor_of m c.settle-proposals.new.floor in
    let i = c.loop-applicant.applicant in
    record {
      opened = c.settle-proposals.ensures.opened;
      recorded = c.settle-proposals.ensures.recorded;
      reached = reached_more m f g h c.loop-applicant.proposals c.settle-proposals.result c.loop-applicant.invariant.reached c.settle-proposals.ensures.reached;
      settled = c.settle-proposals.ensures.settled (i + 1) (λ a low other. c.loop-applicant.invariant.settled a (omega arith));
    }

pub returns-clause-quiet : goal.returns-clause-quiet
returns-clause-quiet c =
    let m = c.args.ranks.now.market in
    all_below (is_settled m (floor_of m c.loop-applicant.floor)) (applicants m)
    (λ a low. c.loop-applicant.invariant.settled a (omega (arith, c.applicants-applicant-end.ensures.count)))

pub returns-clause-rises : goal.returns-clause-rises
returns-clause-rises c =
    let m = c.args.ranks.now.market in
    reached_made m (floor_of m c.args.floor.now) (floor_of m c.loop-applicant.floor) c.loop-applicant.proposals c.loop-applicant.invariant.reached c.requires.recorded

pub returns-clause-at_most : goal.returns-clause-at_most
returns-clause-at_most c =
    let m = c.args.ranks.now.market in
    reached_few m (floor_of m c.args.floor.now) (floor_of m c.loop-applicant.floor) c.loop-applicant.proposals c.loop-applicant.invariant.reached c.requires.recorded

pub returns-clause-legal : goal.returns-clause-legal
returns-clause-legal c =
    let r = c.args.ranks.now in
    reached_legal r c.applicants-applicant-end.ensures.ranked (floor_of r.market c.args.floor.now) (floor_of r.market c.loop-applicant.floor) c.loop-applicant.proposals c.loop-applicant.invariant.reached

pub returns-clause-strict : goal.returns-clause-strict
returns-clause-strict c =
    let r = c.args.ranks.now in
    reached_strict r c.applicants-applicant-end.ensures.ranked (floor_of r.market c.args.floor.now) (floor_of r.market c.loop-applicant.floor) c.loop-applicant.proposals c.loop-applicant.invariant.reached
