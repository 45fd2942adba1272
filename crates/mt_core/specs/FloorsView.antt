-- What a floor means.
use Rattle.mt_core.specs.Floors.{Tables}
use Rattle.mt_core.specs.declared.floor.Floor.TheInside.{Inside}

abbrev pub tables_in : Inside → Tables
tables_in a = record { made = a.made.items; standing = a.standing.items; holds = a.holds.items }
