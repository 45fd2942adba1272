use Rattle.mt_answer_laws.proofs.FileLawFacts.{one_less_in_file_hurts_no_other_lem}
use Rattle.mt_answer_laws.proofs.laws.one_less_in_file_hurts_no_other.Goals as goal

pub returns : goal.returns
returns c = one_less_in_file_hurts_no_other_lem
