use Rattle.mt_floor_laws.proofs.RuralLemmas.{singles_fill_alike, fill_alike_without_couples}
use Rattle.mt_floor_laws.proofs.rural_law.rural.Goals as goal

pub returns-clause-singles : goal.returns-clause-singles
returns-clause-singles c = singles_fill_alike

pub returns-clause-without_couples : goal.returns-clause-without_couples
returns-clause-without_couples c = fill_alike_without_couples
