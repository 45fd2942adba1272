use Rattle.std.proofs.Common.{refl}
use Rattle.mt_explain.proofs.examples.two_posts.Goals as goal

pub returns : goal.returns
returns c = record { last = refl; first = refl; has_first = refl; has_none = refl }
