-- Orders of couples, and couples set aside, on small markets.
use Rattle.std.specs.Prelude.{◌≡◌, true, false, [], ◌∷◌, Some, None}
use Rattle.mt_terms.specs.Examples.Markets
use Rattle.mt_terms.specs.Rounds.{stage}
use Rattle.mt_terms.specs.Stability.{stable}
use Rattle.mt_order_laws.specs.Reordered.{reordered, set_aside}
use Rattle.mt_order_laws.specs.Orders.{order_of, first_order}
use Rattle.mt_order_laws.specs.Aside.{entering_at_end, market_of_others, aside_in_turn}

-- The first orders of five couples. In the market of three couples the third one's entry makes the others begin again.
-- If it enters first, three rounds are enough, and the order of registration needs five.
pub record OrdersInExamples : Type 0 where
  pub first : order_of 1 5 ≡ 0 ∷ 1 ∷ 2 ∷ 3 ∷ 4 ∷ []
  pub second : order_of 2 5 ≡ 3 ∷ 1 ∷ 4 ∷ 0 ∷ 2 ∷ []
  pub third : order_of 3 5 ≡ 1 ∷ 2 ∷ 3 ∷ 0 ∷ 4 ∷ []
  pub of_three : order_of 3 3 ≡ 2 ∷ 0 ∷ 1 ∷ []
  pub third_first : stage (reordered (2 ∷ 0 ∷ 1 ∷ []) Markets.three_couples) (Markets.nobody 6) 3
      ≡ Some (None ∷ None ∷ Some 0 ∷ Some 1 ∷ Some 2 ∷ Some 3 ∷ [], 3)
  pub ends : first_order Markets.three_couples (Markets.nobody 6) 3 10 ≡ Some 3
  pub none_ends : first_order Markets.three_couples (Markets.nobody 6) 3 2 ≡ None

-- The couple of the unstable market is set aside, and then the single has its first wish. In the market of three
-- couples the third one is set aside if four rounds may be made. If one round may be made, the second one is too.
pub record AsideInExamples : Type 0 where
  pub entering : entering_at_end Markets.unstable (Some 0 ∷ None ∷ None ∷ []) 1000 ≡ Some 0
  pub aside : aside_in_turn Markets.unstable (Some 0 ∷ None ∷ None ∷ []) 1000 ≡ 0 ∷ []
  pub ends : stage (market_of_others (0 ∷ []) Markets.unstable) (Some 0 ∷ None ∷ None ∷ []) 1000 ≡ Some (Some 0 ∷ None ∷ None ∷ [], 0)
  pub stable_aside : stable (set_aside (0 ∷ []) Markets.unstable) (Some 0 ∷ None ∷ None ∷ []) ≡ true
  pub not_before : stable Markets.unstable (Some 0 ∷ None ∷ None ∷ []) ≡ false
  pub four_rounds : aside_in_turn Markets.three_couples (Markets.nobody 6) 4 ≡ 2 ∷ []
  pub one_round : aside_in_turn Markets.three_couples (Markets.nobody 6) 1 ≡ 1 ∷ 2 ∷ []
