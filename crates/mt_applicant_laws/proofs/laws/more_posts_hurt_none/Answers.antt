use Rattle.mt_applicant_laws.proofs.EasierMarkets.{more_posts_hurt_none_lem}
use Rattle.mt_applicant_laws.proofs.laws.more_posts_hurt_none.Goals as goal

pub returns : goal.returns
returns c = more_posts_hurt_none_lem
