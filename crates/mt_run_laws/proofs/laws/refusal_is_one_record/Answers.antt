use Rattle.mt_run_laws.proofs.HeadlineLemmas.{refusal_is_one_record}
use Rattle.mt_run_laws.proofs.laws.refusal_is_one_record.Goals as goal

pub returns : goal.returns
returns c = refusal_is_one_record
