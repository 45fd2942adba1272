use Rattle.mt_stability_laws.proofs.TakenLemmas.{same_program_taken_lem}
use Rattle.mt_stability_laws.proofs.taken.same_program_taken.Goals as goal

pub returns : goal.returns
returns c = same_program_taken_lem
