use Rattle.std.proofs.Common.{sym, subst, Err}
use Rattle.mt_terms.specs.Market.{Registered}
use Rattle.mt_terms.specs.Registration.Faults.{Fault}
use Rattle.mt_terms.specs.Registration.Passes.{numbered_from}
use Rattle.std.specs.Prelude.{Result}
use Rattle.mt_records.specs.Refusals.{Gives}
use Rattle.mt_roster.specs.Read.{same}
use Rattle.mt_roster.proofs.ReadFacts.{accepted_by_body, bounded_by_body, market_by_body, no_version}
use Rattle.mt_roster.proofs.reading.read.Goals as goal

pub read_body-requires-clause-limits : goal.read_body-requires-clause-limits
read_body-requires-clause-limits g c κs within = bounded_by_body c.args.rows.now c.in-Ok.body c.in-Ok.ensures

pub read_body-requires-clause-accepted : goal.read_body-requires-clause-accepted
read_body-requires-clause-accepted g c κs within = accepted_by_body c.args.rows.now c.in-Ok.body c.in-Ok.ensures

pub returns-in-Ok : goal.returns-in-Ok
returns-in-Ok g c =
    subst (λ (market : Result Registered Fault). Gives same c.read_body.result market) (sym (market_by_body c.args.rows.now c.in-Ok.body c.in-Ok.ensures)) c.read_body.ensures

pub returns-in-Err : goal.returns-in-Err
returns-in-Err g c =
    subst (λ (market : Result Registered Fault). Gives same (Err c.no_version.result) market) (sym (no_version (numbered_from 1 c.args.rows.now) c.in-Err.number c.in-Err.ensures)) c.no_version.ensures
