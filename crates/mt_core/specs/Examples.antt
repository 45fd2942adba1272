-- The end of the rejection chain, as rank tables and a floor's tables keep it: what the laws and the calls ask for,
-- met by one example.
use Rattle.std.specs.Prelude.{◌≡◌, true, false, [], ◌∷◌, Some, None}
use Rattle.mt_terms.specs.Floor.{IsLegal}
use Rattle.mt_terms.specs.Examples.Markets.{chain}
use Rattle.mt_terms.specs.Examples.Events.{by_wishes, from_the_last}
use Rattle.mt_ranks.specs.Ranked.{Ranked, IsRanked, ranked_of}
use Rattle.mt_hold.specs.Holding.{Holding}
use Rattle.mt_core.specs.Calls.{result_on}
use Rattle.mt_core.specs.Floors.{Tables, floor_of, IsOpenedWith}
use Rattle.mt_core.specs.Order.{IsEndOf}

-- the rank tables of the chain: all three applicants are singles
abbrev pub chain_ranked : Ranked
chain_ranked = record { market = chain; singles = true ∷ true ∷ true ∷ [] }

-- The first two applicants have made two proposals and stand, and the last one has made one and stands nowhere. The
-- first program has received its whole list, and so has the second.
abbrev pub chain_end : Tables
chain_end = record {
  made = 2 ∷ 2 ∷ 1 ∷ [];
  standing = true ∷ true ∷ false ∷ [];
  holds = first ∷ second ∷ [];
}
  where
    first : Holding
    first = record { quota = 1; received = true ∷ true ∷ true ∷ [] }

    second : Holding
    second = record { quota = 1; received = true ∷ true ∷ [] }

-- Both lists of events end there, and the floor is legal.
pub record ChainEnds : Type 0 where
  pub tables : ranked_of chain ≡ chain_ranked
  pub ranked : IsRanked chain_ranked
  pub opened : IsOpenedWith chain_ranked.market chain_end
  pub wishes : IsEndOf chain_ranked.market by_wishes chain_end
  pub last : IsEndOf chain_ranked.market from_the_last chain_end
  pub legal : IsLegal chain_ranked.market (floor_of chain_ranked.market chain_end)
  pub places : result_on chain_ranked.market chain_end ≡ Some 1 ∷ Some 0 ∷ None ∷ []
