use Rattle.std.proofs.Common.{◌≡◌, ◌∙◌, nat_lt, Some, take, sym, ap, refl}
use Rattle.mt_terms.specs.Lists.{count, above}
use Rattle.mt_terms.specs.Market.{program_of}
use Rattle.mt_terms.specs.Matching.{at, send}
use Rattle.mt_round_laws.proofs.RoundsLists.{in_has, in_image}
use Rattle.mt_round_laws.proofs.RoundsPlaces.{movers}
use Rattle.mt_assignment.proofs.RankFacts.{has_rank, has_no_rank}
use Rattle.mt_terms.proofs.ListFacts.{until_position}
use Rattle.mt_round_laws.proofs.SentCounts.{in_list}
use Rattle.mt_assignment.proofs.SentFacts.{sent_there}
use Rattle.mt_assignment.proofs.assignment.Assignment.is_chosen.Goals as goal

pub rank-requires : goal.rank-requires
rank-requires c =
    c.requires.sent.within c.args.applicant (in_has c.args.applicant (movers c.args.sent.now) (in_image (λ s. s.0) (c.args.applicant, Some c.args.program) c.args.sent.now (in_list c.args.sent.now _ c.requires.there)))

pub returns-in-Some : goal.returns-in-Some
returns-in-Some c =
    let ranking = (program_of c.args.self.now.market c.args.program).ranking in
    let set = at (send c.args.sent.now c.args.self.now.places) c.args.program in
    let a = c.args.applicant in
    let found = sym c.in-Some.ensures.position in
    let there = sent_there c.args.self.now.market c.args.self.now.places c.args.sent.now a c.args.program c.requires.sent c.in-Some.ensures.assigned.are_places.one_each (in_list c.args.sent.now _ c.requires.there) in
    let above_is : count set (take c.in-Some.rank ranking) ≡ above set ranking a = ap (count set) (sym (until_position ranking a c.in-Some.rank found)) in
    rw (has_rank ranking a c.in-Some.rank found, there) (c.has_post_after.ensures ∙ ap (λ n. nat_lt n (program_of c.args.self.now.market c.args.program).quota) above_is)

pub returns-in-None : goal.returns-in-None
returns-in-None c =
    let ranking = (program_of c.args.self.now.market c.args.program).ranking in
    rw (has_no_rank ranking c.args.applicant (sym c.in-None.ensures.position)) refl
