use Rattle.std.proofs.lemmas.Grind.{common_steps}
use Rattle.std.proofs.Common.{arith, ◌≡◌, ◌∙◌, ◌==◌, ℕ, Some, true, sym}
use Rattle.std.proofs.lemmas.List.Sorted.{IsNonDecreasingBy-from_sort, list_any-IsPermutation}
use Rattle.mt_terms.specs.Lists.{has}
use Rattle.mt_ranks.specs.Ranked.{rank_of}
use Rattle.mt_stage_tables.proofs.PlaceFacts.{has_read}
use Rattle.mt_stage_tables.proofs.GrowingFacts.{each_all}
use Rattle.mt_couples.proofs.recheck.ranks_of.Goals as goal

pub rank-requires : goal.rank-requires
rank-requires c =
    c.requires.applicants c.applicant-item.result (has_read c.args.applicants.now c.loop-applicant.applicant-index c.applicant-item.result c.loop-applicant-test.true c.applicant-item.is)

pub returns-clause-ranks : goal.returns-clause-ranks
returns-clause-ranks c =
    let old = c.loop-applicant.ranks.items in
    let new = c.sort_unstable.new.self.items in
    let same = λ (r : ℕ). list_any-IsPermutation (λ x. x == r) old new c.sort_unstable.ensures.permutation in
    record {
      within = λ r on. c.loop-applicant.invariant.within r (same r ∙ on);
      all = λ a r on ranked. sym (same r)
          ∙ each_all (λ x. (q : ℕ) → rank_of c.args.assignment.now.market c.args.program x ≡ Some q → has old q ≡ true) c.args.applicants.now c.loop-applicant.applicant-index
          c.loop-applicant-test.false c.loop-applicant.invariant.all a on r ranked;
    }

pub returns-clause-sorted : goal.returns-clause-sorted
returns-clause-sorted c = IsNonDecreasingBy-from_sort (λ x. x) c.sort_unstable.new.self.items c.sort_unstable.ensures.sorted

pub loop-applicant-preserved : goal.loop-applicant-preserved
loop-applicant-preserved c = grind (arith, common_steps)
