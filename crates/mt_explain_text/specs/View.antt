-- What the lines of a match are made of.
use Rattle.std.specs.Prelude.{Bool}
use Rattle.mt_terms.specs.Market.{Registered}
use Rattle.mt_terms.specs.Matching.{Places}
use Rattle.mt_explain_text.specs.declared.lines.AgentLines.{AgentLines}

-- the market with its ids
abbrev pub registered_of : AgentLines → Registered
registered_of t = t.tables.registered

-- the places of the match
abbrev pub places_of : AgentLines → Places
places_of t = t.tables.places

-- whether the lines are public ones
abbrev pub is_public_of : AgentLines → Bool
is_public_of t = t.is_public
