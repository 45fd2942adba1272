use Rattle.std.proofs.Common.{◌≡◌, Some, slice_get, subst}
use Rattle.mt_terms.specs.Market.{live}
use Rattle.mt_ranks.specs.Ranked.{Ranked}
use Rattle.mt_floor_laws.proofs.FloorLists.{has-get}
use Rattle.mt_desks.proofs.Keeping.{first_comes}
use Rattle.mt_hall.proofs.hall.Hall.unknown.Goals as goal

pub returns-clause-tells : goal.returns-clause-tells
returns-clause-tells g c =
    let m = g.K.HallName.ranked.market in
    let a = c.args.applicant in
    let p = c.entry_at-first.result.program in
    let at : slice_get (live m a) 0 ≡ Some p = subst (λ (r : Ranked). slice_get (live r.market a) 0 ≡ Some p) c.args.self.now.its_ranks c.entry_at-first.ensures.program in
    (has-get (live m a) 0 p at, first_comes m a p at)
