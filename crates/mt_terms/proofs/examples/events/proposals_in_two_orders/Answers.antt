use Rattle.std.proofs.Common.{refl}
use Rattle.mt_terms.proofs.examples.events.proposals_in_two_orders.Goals as goal

pub returns : goal.returns
returns c = record { wishes = refl; wishes_due = refl; wishes_made = refl; wishes_quiet = refl; last = refl; last_due = refl; last_made = refl; last_quiet = refl; not_at_first = refl; member = refl; standing = refl; still_held = refl; dropped = refl }
