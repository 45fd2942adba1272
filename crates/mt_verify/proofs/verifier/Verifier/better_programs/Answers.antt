use Rattle.std.proofs.Common.{length, ap, sym, ◌∙◌}
use Rattle.std.proofs.lemmas.List.{length-map}
use Rattle.mt_terms.specs.Market.{list_of}
use Rattle.mt_terms.specs.Matching.{single_placement}
use Rattle.mt_terms.specs.declared.numbers.Agent.TheVariants.{Single}
use Rattle.mt_verify.proofs.HeldFacts.{better_all, better_before}
use Rattle.mt_verify.proofs.verifier.Verifier.better_programs.Goals as goal

pub returns-in-Some : goal.returns-in-Some
returns-in-Some c =
    let self = c.args.self.now in
    sym (better_before self.roster.now.market self.matched.now.places (Single c.args.applicant) c.in-Some.option
    (sym c.held_program.ensures ∙ c.in-Some.is))

pub returns-in-None : goal.returns-in-None
returns-in-None c =
    let self = c.args.self.now in
    let m = self.roster.now.market in
    ap length c.single_list.ensures
    ∙ sym (length-map (list_of m c.args.applicant) (single_placement c.args.applicant))
    ∙ sym (better_all m self.matched.now.places (Single c.args.applicant) (sym c.held_program.ensures ∙ c.in-None.is))
