-- Which couples are set aside, one after another, until the rounds of the others end. (This project's own rule.)
use Rattle.std.specs.Prelude.{ℕ, zero, suc, List, [], ◌∷◌, ◌++◌, Option, Some, None, length, slice_index}
use Rattle.std.specs.Option.{option_map_or}
use Rattle.mt_terms.specs.Lists.{below}
use Rattle.mt_terms.specs.Market.{Market}
use Rattle.mt_terms.specs.Matching.{Places}
use Rattle.mt_terms.specs.Rounds.{after_rounds}
use Rattle.mt_terms.specs.declared.numbers.Agent.TheVariants.{Couple}
use Rattle.mt_order_laws.specs.Reordered.{reordered, others}

-- which of these couples, that enter in turn, is entering when the budget is spent, if it is
abbrev pub entering_of : Market → List ℕ → ℕ → Places → Option ℕ
entering_of m [] left places = None
entering_of m (k ∷ ks) left places = option_map_or (λ r. entering_of m ks r.1 r.0) (after_rounds m k left places (Couple k ∷ [])) (Some k)

-- the couple of a market that is entering when the budget is spent, if it is
abbrev pub entering_at_end : Market → Places → ℕ → Option ℕ
entering_at_end m places budget = entering_of m (below (length m.couples)) budget places

-- the market in which only the couples that are not set aside enter, in the order of registration
abbrev pub market_of_others : List ℕ → Market → Market
market_of_others aside m = reordered (others aside m) m

-- The couples set aside, after some already are and at most n more. While the others' rounds don't end within
-- the budget, the couple that is entering is set aside too, and the others begin anew.
abbrev pub aside_after : Market → Places → ℕ → ℕ → List ℕ → List ℕ
aside_after m places budget zero aside = aside
aside_after m places budget (suc n) aside =
    option_map_or (λ k. aside_after m places budget n (aside ++ slice_index (others aside m) k ∷ []))
    (entering_at_end (market_of_others aside m) places budget) aside

-- the couples set aside in turn until the rounds of the others end
abbrev pub aside_in_turn : Market → Places → ℕ → List ℕ
aside_in_turn m places budget = aside_after m places budget (length m.couples) []
