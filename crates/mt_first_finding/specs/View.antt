-- How what the code holds is seen in the terms of the definitions.
use Rattle.mt_terms.specs.Market.{Market}
use Rattle.mt_terms.specs.Matching.{Places}
use Rattle.mt_first_finding.specs.declared.counts.Tally.{Tally}

-- the market whose counts these are
abbrev pub market_of : Tally → Market
market_of tally = tally.roster.now.market

-- the places whose counts these are
abbrev pub places_of : Tally → Places
places_of tally = tally.matched.now.places
