-- How what the code holds is seen in the terms of the definitions.
use Rattle.std.specs.Prelude.{Result, Ok, Err}
use Rattle.mt_terms.specs.Market.{Registered}
use Rattle.mt_terms.specs.Registration.Faults as faults
use Rattle.mt_match_file.specs.Submitted as model
use Rattle.mt_match_file.specs.declared.fault.RecordFault.{RecordFault}
use Rattle.mt_match_file.specs.declared.ids.Ids.{Ids}
use Rattle.mt_match_file.specs.declared.line.Line.{Line}
use Rattle.mt_match_file.specs.declared.so_far.SoFar.{SoFar}

-- the market whose ids these are
abbrev pub market_of : Ids → Registered
market_of ids = ids.roster.now

-- a fault without its record's number, as the definition's record_fault
abbrev pub record_fault_seen : RecordFault → faults.RecordFault
record_fault_seen c = (c.code, c.id.now)

abbrev pub line_seen : Result Line RecordFault → Result Line faults.RecordFault
line_seen (Ok l) = Ok l
line_seen (Err c) = Err (record_fault_seen c)

abbrev pub read_so_far : SoFar → model.SoFar
read_so_far s = record { places = s.places.items; counts = s.counts.items; aside = s.aside.couples.items }
