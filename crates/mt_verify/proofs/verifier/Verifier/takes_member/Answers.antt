use Rattle.std.proofs.Common.{◌<◌, length, sym, ◌∙◌, arith}
use Rattle.mt_verify.proofs.TakenFacts.{member_ranked}
use Rattle.mt_verify.proofs.verifier.Verifier.takes_member.Goals as goal

pub returns-in-Some-rank : goal.returns-in-Some-rank
returns-in-Some-rank c =
    let self = c.args.self.now in
    let member : c.args.member < length self.matched.now.places = omega (arith, self.are_places.one_each, c.requires.member) in
    let partner : c.args.partner < length self.matched.now.places = omega (arith, self.are_places.one_each, c.requires.partner) in
    rw (c.in-Some.is, c.count_above_moved-above.ensures, c.quota.ensures)
    (sym (member_ranked self.matched.now.places c.args.member c.args.partner c.in-Some.program c.args.partner_place member partner c.requires.apart
    self.roster.now.market c.in-Some-rank.rank (sym c.rank.ensures.position ∙ c.in-Some-rank.is)))
