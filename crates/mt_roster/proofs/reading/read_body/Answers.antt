use Rattle.std.proofs.Common.{sym, ◌∙◌}
use Rattle.mt_lists.specs.Rows.{rows_left}
use Rattle.mt_roster.proofs.ReadFacts.{market_is, no_market}
use Rattle.mt_roster.proofs.reading.read_body.Goals as goal

pub returns-in-Some : goal.returns-in-Some
returns-in-Some g c =
    market_is c.args.body.now.rules c.args.body.now.first (rows_left c.args.body.now.rows) c.in-Some.roster (sym c.in_ok-roster.ensures ∙ c.in-Some.is)

pub first_fault-requires-clause-fault : goal.first_fault-requires-clause-fault
first_fault-requires-clause-fault g c =
    no_market c.args.body.now.rules c.args.body.now.first (rows_left c.args.body.now.rows) (sym c.in_ok-roster.ensures ∙ c.in-None.is)
