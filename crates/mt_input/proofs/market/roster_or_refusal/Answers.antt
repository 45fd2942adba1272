use Rattle.std.proofs.Common.{subst}
use Rattle.mt_terms.specs.Registration.{market_of}
use Rattle.mt_roster.specs.Faults.{Tells}
use Rattle.mt_roster.specs.declared.fault.RosterError.{RosterError}
use Rattle.mt_input.proofs.MarketFacts.{refusal_of_rows}
use Rattle.mt_input.proofs.market.roster_or_refusal.Goals as goal

pub returns-in-Err-Fault-clause-refused : goal.returns-in-Err-Fault-clause-refused
returns-in-Err-Fault-clause-refused g c =
    refusal_of_rows c.args.rows.now c.in-Err-Fault.fault (subst (λ (e : RosterError). Tells e (market_of c.args.rows.now)) c.in-Err-Fault.field-0-is c.in-Err-Fault.ensures.fault)
