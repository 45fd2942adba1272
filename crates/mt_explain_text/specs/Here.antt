-- What a line names is there.
use Rattle.std.specs.Prelude.{◌<◌, length}
use Rattle.mt_terms.specs.Market.{Market, applicants}
use Rattle.mt_explain.specs.declared.line.Line.{Line}

-- a line's program and its member are of the market
pub record IsHere (m : Market) (line : Line) : Type 0 where
  pub program : line.program < length m.programs
  pub member : line.member < applicants m
