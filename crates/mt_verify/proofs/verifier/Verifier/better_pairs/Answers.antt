use Rattle.std.proofs.Common.{length, ap, sym, ◌∙◌, arith}
use Rattle.std.proofs.lemmas.List.{length-map}
use Rattle.mt_terms.specs.Market.{couple_of}
use Rattle.mt_terms.specs.Matching.{couple_placement}
use Rattle.mt_terms.specs.declared.numbers.Agent.TheVariants.{Couple}
use Rattle.mt_verify.proofs.HeldFacts.{better_all, better_before}
use Rattle.mt_verify.proofs.MarketFacts.{few_pairs}
use Rattle.mt_verify.proofs.verifier.Verifier.better_pairs.Goals as goal

pub overflow_cast-result : goal.overflow_cast-result
overflow_cast-result c =
    let self = c.args.self.now in
    omega (arith, ap length c.couple_list.ensures, few_pairs self.roster.now self.is_registration c.args.couple c.requires)

pub returns-in-Some : goal.returns-in-Some
returns-in-Some c =
    let self = c.args.self.now in
    sym (better_before self.roster.now.market self.matched.now.places (Couple c.args.couple) c.in-Some.option
    (sym c.held_pair.ensures ∙ c.in-Some.is))

pub returns-in-None : goal.returns-in-None
returns-in-None c =
    let self = c.args.self.now in
    let m = self.roster.now.market in
    let couple = couple_of m c.args.couple in
    ap length c.couple_list.ensures
    ∙ sym (length-map couple.pairs (couple_placement couple.first couple.second))
    ∙ sym (better_all m self.matched.now.places (Couple c.args.couple) (sym c.held_pair.ensures ∙ c.in-None.is))
