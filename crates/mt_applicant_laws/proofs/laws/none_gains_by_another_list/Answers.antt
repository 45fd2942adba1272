use Rattle.mt_applicant_laws.proofs.ListChanges.{none_gains_by_another_list_lem, no_stable_match_gives_more_lem}
use Rattle.mt_applicant_laws.proofs.laws.none_gains_by_another_list.Goals as goal

pub returns-clause-law : goal.returns-clause-law
returns-clause-law c = none_gains_by_another_list_lem

pub returns-clause-any_stable : goal.returns-clause-any_stable
returns-clause-any_stable c = no_stable_match_gives_more_lem
