use Rattle.std.proofs.Common.{sym}
use Rattle.mt_terms.specs.Market.{program_of}
use Rattle.mt_assignment.proofs.RankFacts.{front_of_none}
use Rattle.mt_terms.proofs.ListFacts.{has-take-position}
use Rattle.mt_assignment.proofs.assignment.Assignment.is_ahead.Goals as goal

pub returns-in-Some : goal.returns-in-Some
returns-in-Some c =
    sym (has-take-position (program_of c.args.self.now.market c.args.program).ranking c.args.applicant c.in-Some.other c.args.rank (sym c.in-Some.ensures.position))

pub returns-in-None : goal.returns-in-None
returns-in-None c =
    sym (front_of_none (program_of c.args.self.now.market c.args.program).ranking c.args.applicant c.args.rank (sym c.in-None.ensures.position))
