use Rattle.mt_answer_laws.proofs.FileLawFacts.{higher_quota_in_file_hurts_none_lem}
use Rattle.mt_answer_laws.proofs.laws.higher_quota_in_file_hurts_none.Goals as goal

pub returns : goal.returns
returns c = higher_quota_in_file_hurts_none_lem
