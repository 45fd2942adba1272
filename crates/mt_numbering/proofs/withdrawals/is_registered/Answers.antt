use Rattle.std.proofs.Common.{refl, arith}
use Rattle.std.proofs.lemmas.Grind.{common_steps}
use Rattle.mt_ids.proofs.IdFacts.{found_id}
use Rattle.mt_numbering.proofs.withdrawals.is_registered.Goals as goal

pub returns-in-Some : goal.returns-in-Some
returns-in-Some c = let at = found_id c.args.ids.now.applicants c.args.id.now c.in-Some.number c.in-Some.ensures in rw (c.in-Applicant.is, at.0, at.1) refl

pub returns-in-None : goal.returns-in-None
returns-in-None c = grind (arith, common_steps)
