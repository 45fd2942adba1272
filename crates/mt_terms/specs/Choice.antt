-- A program's choice from a set of applicants (Gale and Shapley 1962; Gusfield and Irving 1989).
use Rattle.std.specs.Prelude.{◌&&◌, nat_lt}
use Rattle.mt_terms.specs.Lists.{Set, has, above}
use Rattle.mt_terms.specs.Market.{Program}

-- the members of a set that are on the program's list and have fewer than quota members of the set above
-- them on that list
abbrev pub choice : Program → Set → Set
choice p set a = has p.ranking a && set a && nat_lt (above set p.ranking a) p.quota
