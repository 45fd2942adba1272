use Rattle.mt_run_laws.proofs.ExampleLemmas.{program_optimal_is_no_answer_lem}
use Rattle.mt_run_laws.proofs.laws.program_optimal_is_no_answer.Goals as goal

pub returns : goal.returns
returns c = program_optimal_is_no_answer_lem
