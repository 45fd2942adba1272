-- What all stable matches of the singles have in common (the rural hospitals theorem: Gale and Sotomayor 1985, Roth
-- 1986; Gusfield and Irving 1989). A legal floor ends in the best of them.
use Rattle.std.specs.Prelude.{◌≡◌, [], IsTrue}
use Rattle.mt_terms.specs.Market.{Market, singles_market}
use Rattle.mt_terms.specs.Matching.{Places, FillsAlike}
use Rattle.mt_terms.specs.Stability.{stable}
use Rattle.mt_terms.specs.Best.{IsBest}
use Rattle.mt_terms.specs.Floor.{Floor, IsResult, IsLegal, is_quiet}
use Rattle.mt_terms.specs.WellFormed.{IsWellFormed}

-- any two stable matches of the singles fill the market alike
abbrev pub SinglesFillAlike : Type 0
SinglesFillAlike =
    (m : Market) → IsWellFormed m → (s t : Places) →
    IsTrue (stable (singles_market m) s) → IsTrue (stable (singles_market m) t) → FillsAlike m s t

-- in a market without couples any two stable matches fill it alike
abbrev pub FillAlikeWithoutCouples : Type 0
FillAlikeWithoutCouples =
    (m : Market) → IsWellFormed m → m.couples ≡ [] → (s t : Places) →
    IsTrue (stable m s) → IsTrue (stable m t) → FillsAlike m s t

-- a legal floor on which no event is due has the best match as its result
abbrev pub LegalBest : Type 0
LegalBest =
    (m : Market) → IsWellFormed m → (f : Floor) → IsLegal m f → IsTrue (is_quiet m f)
    → (places : Places) → IsResult m f places → IsBest m places
