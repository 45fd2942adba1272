use Rattle.std.proofs.Common.{refl}
use Rattle.mt_terms.proofs.examples.stability.one_sided.Goals as goal

pub returns : goal.returns
returns c = record { stable_one = refl; not_listed_by_program = refl; not_listed_by_applicant = refl; to_first = refl; to_second = refl }
