use Rattle.mt_answer_laws.proofs.FileLawFacts.{no_called_match_gives_more_lem, none_gains_by_another_record_lem}
use Rattle.mt_answer_laws.proofs.laws.none_gains_by_another_record.Goals as goal

pub returns-clause-law : goal.returns-clause-law
returns-clause-law c = none_gains_by_another_record_lem

pub returns-clause-any_stable : goal.returns-clause-any_stable
returns-clause-any_stable c = no_called_match_gives_more_lem
