use Rattle.std.proofs.Common.{IsTrue, sym, subst}
use Rattle.mt_terms.specs.Floor.{Floor, opening, after_all, is_quiet, EndAlike}
use Rattle.mt_floor_laws.proofs.FloorQuiet.{order_free_lem}
use Rattle.mt_core.specs.Floors.{floor_of}
use Rattle.mt_core.proofs.ChainEnd.{chain_ends}
use Rattle.mt_core.proofs.laws.order_free.Goals as goal

pub returns-clause-law : goal.returns-clause-law
returns-clause-law c r is es fs s t end_s end_t =
    let m = r.market in
    let quiet_s = subst (λ (x : Floor). IsTrue (is_quiet m x)) end_s.floor end_s.quiet in
    let quiet_t = subst (λ (x : Floor). IsTrue (is_quiet m x)) end_t.floor end_t.quiet in
    let alike = order_free_lem m is.well_formed es fs quiet_s quiet_t in
    subst (λ (x : Floor). EndAlike m (floor_of m s) x) (sym end_t.floor) (subst (λ (x : Floor). EndAlike m x (after_all m opening fs)) (sym end_s.floor) alike)

pub returns-clause-example : goal.returns-clause-example
returns-clause-example c = chain_ends
