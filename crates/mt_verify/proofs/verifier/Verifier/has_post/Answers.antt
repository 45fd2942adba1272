use Rattle.std.proofs.Common.{nat_lt, ap, sym, subst, ◌∙◌, arith}
use Rattle.std.specs.List.Sorted.{IsNonDecreasing}
use Rattle.mt_terms.specs.Lists.{count}
use Rattle.mt_terms.specs.Market.{program_of}
use Rattle.mt_terms.specs.Matching.{at}
use Rattle.mt_verify.proofs.PlacedFacts.{ranks_rise}
use Rattle.mt_terms.proofs.ListFacts.{ranks_above}
use Rattle.mt_verify.proofs.verifier.Verifier.has_post.Goals as goal

pub are_fewer_below-requires : goal.are_fewer_below-requires
are_fewer_below-requires c =
    let self = c.args.self.now in
    subst IsNonDecreasing (sym c.placed_at.ensures) (ranks_rise 0 (at self.matched.now.places c.args.program) (program_of self.roster.now.market c.args.program).ranking)

pub returns : goal.returns
returns c =
    let self = c.args.self.now in
    let quota = (program_of self.roster.now.market c.args.program).quota in
    c.are_fewer_below.ensures ∙ ap (λ n. nat_lt (count (λ r. nat_lt r c.args.rank) c.placed_at.result.now) n) c.quota.ensures
    ∙ ap (λ n. nat_lt n quota)
    (ap (count (λ r. nat_lt r c.args.rank)) c.placed_at.ensures
    ∙ ranks_above 0 c.args.rank (at self.matched.now.places c.args.program) (program_of self.roster.now.market c.args.program).ranking c.args.rank (omega arith))
