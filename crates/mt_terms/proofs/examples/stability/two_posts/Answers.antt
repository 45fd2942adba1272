use Rattle.std.proofs.Common.{refl}
use Rattle.mt_terms.proofs.examples.stability.two_posts.Goals as goal

pub returns : goal.returns
returns c = record { stable_one = refl; first_comers = refl; all_three = refl; to_it = refl }
