use Rattle.mt_file_laws.proofs.RefusalLine.{refusal_is_one_record_lem}
use Rattle.mt_file_laws.proofs.text.refusal_is_one_record.Goals as goal

pub returns : goal.returns
returns c = refusal_is_one_record_lem
