use Rattle.std.proofs.Common.{sym, ◌∙◌}
use Rattle.mt_terms.specs.Market.{program_of}
use Rattle.mt_verify.proofs.TakenFacts.{not_on_front}
use Rattle.mt_terms.proofs.ListFacts.{has-take-position}
use Rattle.mt_verify.proofs.verifier.Verifier.is_above.Goals as goal

pub returns-in-Some : goal.returns-in-Some
returns-in-Some c =
    sym (has-take-position (program_of c.args.self.now.roster.now.market c.args.program).ranking c.args.applicant c.in-Some.own c.args.rank (sym c.rank.ensures.position ∙ c.in-Some.is))

pub returns-in-None : goal.returns-in-None
returns-in-None c =
    sym (not_on_front (program_of c.args.self.now.roster.now.market c.args.program).ranking c.args.applicant c.args.rank (sym c.rank.ensures.position ∙ c.in-None.is))
