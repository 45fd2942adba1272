use Rattle.std.proofs.Common.{refl}
use Rattle.mt_stability_laws.proofs.singles.chosen_for_two_posts.Goals as goal

pub returns : goal.returns
returns c = record { room_for_both = refl; newcomer = refl; kept = refl; driven_out = refl }
