use Rattle.std.proofs.Common.{◌≡◌, length, arith}
use Rattle.mt_terms.specs.Market.{applicants, live}
use Rattle.mt_ranks.proofs.LiveMarket.{few_live}
use Rattle.mt_fault_text.proofs.MutualFacts.{live_length, total_more, total_within}
use Rattle.mt_fault_text.proofs.mutual.live_entries.Goals as goal

pub overflow_add-count : goal.overflow_add-count
overflow_add-count c =
    let r = c.args.ranks.now in
    let i = c.loop-number.number in
    let ranked = c.applicants-number-end.ensures.ranked in
    omega (
      arith,
      c.loop-number.invariant,
      live_length r i c.live.result.now ranked c.live.ensures.list,
      total_within (λ a. length (live r.market a)) i (applicants r.market) (omega arith),
      few_live r ranked,
    )

pub loop-number-preserved : goal.loop-number-preserved
loop-number-preserved c =
    let r = c.args.ranks.now in
    let i = c.loop-number.number in
    let ranked = c.applicants-number-end.ensures.ranked in
    omega (
      arith,
      c.loop-number.invariant,
      live_length r i c.live.result.now ranked c.live.ensures.list,
      total_more (λ a. length (live r.market a)) i,
    )

pub returns : goal.returns
returns c =
    let r = c.args.ranks.now in
    let ranked = c.applicants-number-end.ensures.ranked in
    let all : c.loop-number.number ≡ applicants r.market = omega arith in
    record {
      count = rw all at c.loop-number.invariant;
      few = omega (arith, rw all at c.loop-number.invariant, few_live r ranked);
    }
