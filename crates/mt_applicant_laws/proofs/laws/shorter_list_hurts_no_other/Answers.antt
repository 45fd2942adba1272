use Rattle.mt_applicant_laws.proofs.EasierMarkets.{shorter_list_hurts_no_other_lem, one_less_hurts_no_other_lem}
use Rattle.mt_applicant_laws.proofs.laws.shorter_list_hurts_no_other.Goals as goal

pub returns-clause-law : goal.returns-clause-law
returns-clause-law c = shorter_list_hurts_no_other_lem

pub returns-clause-one_less : goal.returns-clause-one_less
returns-clause-one_less c = one_less_hurts_no_other_lem
