use Rattle.std.proofs.Common.{◌≡◌, ◌∙◌, nat_lt, take, sym, ap, refl}
use Rattle.mt_terms.specs.Lists.{count, above}
use Rattle.mt_terms.specs.Market.{program_of}
use Rattle.mt_terms.specs.Matching.{at}
use Rattle.mt_assignment.proofs.RankFacts.{has_rank, has_no_rank}
use Rattle.mt_terms.proofs.ListFacts.{until_position}
use Rattle.mt_assignment.proofs.assignment.Assignment.is_kept.Goals as goal

pub returns-in-Some : goal.returns-in-Some
returns-in-Some c =
    let ranking = (program_of c.args.self.now.market c.args.program).ranking in
    let set = at c.args.self.now.places c.args.program in
    let a = c.args.applicant in
    let found = sym c.in-Some.ensures.position in
    let above_is : count set (take c.in-Some.rank ranking) ≡ above set ranking a = ap (count set) (sym (until_position ranking a c.in-Some.rank found)) in
    rw (has_rank ranking a c.in-Some.rank found, c.requires.there) (c.has_post.ensures.post ∙ ap (λ n. nat_lt n (program_of c.args.self.now.market c.args.program).quota) above_is)

pub returns-in-None : goal.returns-in-None
returns-in-None c =
    let ranking = (program_of c.args.self.now.market c.args.program).ranking in
    rw (has_no_rank ranking c.args.applicant (sym c.in-None.ensures.position)) refl
