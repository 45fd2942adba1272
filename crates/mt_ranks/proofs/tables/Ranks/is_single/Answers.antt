use Rattle.std.proofs.Common.{◌∙◌, ap, arith}
use Rattle.std.proofs.lemmas.Bool.Decides.{nat_tests}
use Rattle.mt_ranks.specs.Ranked.{is_single_agent}
use Rattle.mt_ranks.proofs.TablesSeen.{single_within, single_past}
use Rattle.mt_ranks.proofs.tables.Ranks.is_single.Goals as goal

pub returns-then-applicant-applicants : goal.returns-then-applicant-applicants
returns-then-applicant-applicants c =
    c.is_single.ensures ∙ ap is_single_agent c.agent_of.ensures
    ∙ single_within c.self.inside c.args.self.now c.args.applicant c.self.view_is (omega (arith, c.applicants.ensures.count, c.applicant.view_is, c.if-applicant-applicants.true))

pub returns-else-applicant-applicants : goal.returns-else-applicant-applicants
returns-else-applicant-applicants c =
    grind (
      arith,
      nat_tests,
      c.if-applicant-applicants.false,
      single_past c.self.inside c.args.self.now c.args.applicant c.self.view_is (omega (arith, c.applicants.ensures.count, c.applicant.view_is, c.if-applicant-applicants.false)),
    )
