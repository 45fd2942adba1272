use Rattle.mt_statistics_page.proofs.IdFacts.{ids_are_no_markup_lem}
use Rattle.mt_statistics_page.proofs.laws.ids_are_no_markup.Goals as goal

pub returns : goal.returns
returns c = ids_are_no_markup_lem
