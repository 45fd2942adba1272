use Rattle.std.proofs.Common.{◌≡◌, ap, sym, subst, ◌∙◌, Option}
use Rattle.std.specs.Prelude.{IfOk}
use Rattle.std.specs.Result.{result_ok}
use Rattle.mt_lists.specs.Rows.{rows_left}
use Rattle.mt_terms.specs.Market.{Registered}
use Rattle.mt_terms.specs.Registration.Passes.{numbered_from}
use Rattle.mt_roster.proofs.ReadFacts.{accepted_by_body, accepted_is, bounded_by_body, market_by_body, no_version}
use Rattle.mt_roster.proofs.reading.faultless_roster.Goals as goal

pub faultless_market-requires-clause-limits : goal.faultless_market-requires-clause-limits
faultless_market-requires-clause-limits g c κs within = bounded_by_body c.args.rows.now c.in-Ok.body c.in-Ok.ensures

pub faultless_market-requires-clause-accepted : goal.faultless_market-requires-clause-accepted
faultless_market-requires-clause-accepted g c κs within = accepted_by_body c.args.rows.now c.in-Ok.body c.in-Ok.ensures

pub returns-in-Ok : goal.returns-in-Ok
returns-in-Ok g c =
    let is = ap result_ok (market_by_body c.args.rows.now c.in-Ok.body c.in-Ok.ensures) ∙ accepted_is c.in-Ok.body.rules c.in-Ok.body.first (rows_left c.in-Ok.body.rows) in
    subst (λ (market : Option Registered). IfOk c.faultless_market.result (λ found. found ≡ market)) (sym is) c.faultless_market.ensures

pub returns-in-Err : goal.returns-in-Err
returns-in-Err g c = sym (ap result_ok (no_version (numbered_from 1 c.args.rows.now) c.in-Err.field-0 c.in-Err.ensures))
