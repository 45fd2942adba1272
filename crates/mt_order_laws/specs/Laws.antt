-- What does not depend on the order of couples, and what holds once some are set aside.
use Rattle.std.specs.Prelude.{◌≡◌, ◌≢◌, ◌↔◌, ℕ, ◌<◌, List, [], ◌∷◌, ◌++◌, length, slice_index, Some, None}
use Rattle.std.specs.List.{range_with_len}
use Rattle.mt_terms.specs.Best.{IsBest}
use Rattle.mt_terms.specs.Lists.{below}
use Rattle.mt_terms.specs.Market.{Market, Registered}
use Rattle.mt_terms.specs.Matching.{Places}
use Rattle.mt_terms.specs.Registration.Accepted.{IsRegistration}
use Rattle.mt_terms.specs.Rounds.{after_entries, after_rounds, stage}
use Rattle.mt_terms.specs.Stability.{fits, blocks, stable}
use Rattle.mt_terms.specs.WellFormed.{IsWellFormed}
use Rattle.mt_terms.specs.declared.numbers.Agent.TheVariants.{Single, Couple}
use Rattle.mt_order_laws.specs.Reordered.{reordered, reordered_registered, set_aside, set_aside_registered, others, IsOrderOfSome, IsOrderWithout}
use Rattle.mt_order_laws.specs.Orders.{order_of}
use Rattle.mt_order_laws.specs.Aside.{entering_at_end, market_of_others, aside_in_turn}

-- a market stays well formed with its couples in another order
abbrev pub WellFormedInAnyOrder : Type 0
WellFormedInAnyOrder =
    (m : Market) (order : List ℕ) → IsWellFormed m → IsOrderOfSome m order → IsWellFormed (reordered order m)

-- a market stays well formed if couples are set aside
abbrev pub WellFormedAside : Type 0
WellFormedAside = (m : Market) (aside : List ℕ) → IsWellFormed m → IsWellFormed (set_aside aside m)

-- a market of a file stays one with its couples in another order
abbrev pub RegistrationInAnyOrder : Type 0
RegistrationInAnyOrder =
    (r : Registered) (order : List ℕ) → IsRegistration r → IsOrderOfSome r.market order → IsRegistration (reordered_registered order r)

-- a market of a file stays one if couples are set aside
abbrev pub RegistrationAside : Type 0
RegistrationAside = (r : Registered) (aside : List ℕ) → IsRegistration r → IsRegistration (set_aside_registered aside r)

-- The best match of the singles doesn't depend on the couples.
abbrev pub BestInAnyOrder : Type 0
BestInAnyOrder = (m : Market) (order : List ℕ) (places : Places) → IsBest m places → IsBest (reordered order m) places

-- whether a match fits is the same in any order of the couples that are not set aside
abbrev pub FitsInAnyOrder : Type 0
FitsInAnyOrder =
    (m : Market) (aside order : List ℕ) → IsWellFormed m → IsOrderWithout m aside order
    → (places : Places) → fits (reordered order m) places ≡ fits (set_aside aside m) places

-- whether a match is stable is the same in any order of the couples that are not set aside
abbrev pub StableInAnyOrder : Type 0
StableInAnyOrder =
    (m : Market) (aside order : List ℕ) → IsWellFormed m → IsOrderWithout m aside order
    → (places : Places) → stable (reordered order m) places ≡ stable (set_aside aside m) places

-- if no couple is set aside, the market is as it was
abbrev pub NoneAside : Type 0
NoneAside = (m : Market) → set_aside [] m ≡ m

-- a couple blocks under its number in an order if it blocks under its own number, and a single if it did
abbrev pub CoupleBlocksInAnyOrder : Type 0
CoupleBlocksInAnyOrder =
    (m : Market) (order : List ℕ) (places : Places) (i : ℕ) → i < length order
    → blocks (reordered order m) places (Couple i) ≡ blocks m places (Couple (slice_index order i))

abbrev pub SingleBlocksInAnyOrder : Type 0
SingleBlocksInAnyOrder =
    (m : Market) (order : List ℕ) (places : Places) (a : ℕ) → blocks (reordered order m) places (Single a) ≡ blocks m places (Single a)

-- each numbered order has each couple once
abbrev pub OrdersAreOrders : Type 0
OrdersAreOrders = (m : Market) (number : ℕ) → IsOrderWithout m [] (order_of number (length m.couples))

-- those that are not set aside are an order without those that are
abbrev pub OthersAreOrder : Type 0
OthersAreOrder = (m : Market) (aside : List ℕ) → IsOrderWithout m aside (others aside m)

-- The couples up to a place in an order enter alike whatever couples come after them.
abbrev pub EntriesBeforeAlike : Type 0
EntriesBeforeAlike =
    (m : Market) (before after : List ℕ) → IsWellFormed m → IsOrderOfSome m (before ++ after)
    → (best : Places) → IsBest m best → (budget : ℕ)
    → after_entries (reordered (before ++ after) m) (below (length before)) budget best
    ≡ after_entries (reordered before m) (below (length before)) budget best

-- To begin anew without a couple gives what going on from the match before its entry gives.
abbrev pub AnewIsGoingOn : Type 0
AnewIsGoingOn =
    (m : Market) (before : List ℕ) (c : ℕ) (after : List ℕ) → IsWellFormed m → IsOrderOfSome m (before ++ c ∷ after)
    → (best : Places) → IsBest m best → (budget : ℕ) (r : Places × ℕ)
    → after_entries (reordered (before ++ c ∷ after) m) (below (length before)) budget best ≡ Some r
    → after_entries (reordered (before ++ after) m) (below (length (before ++ after))) budget best
    ≡ after_entries (reordered (before ++ after) m) (range_with_len (length before) (length after)) r.1 r.0

-- The couple that is entering at the end is one whose rounds don't end within what the couples before it leave of the
-- budget.
abbrev pub EnteringInWords : Type 0
EnteringInWords =
    (m : Market) (places : Places) (budget k : ℕ)
    → (entering_at_end m places budget ≡ Some k)
    ↔ ((k < length m.couples)
    × ((r : Places × ℕ) × (after_entries m (below k) budget places ≡ Some r) × (after_rounds m k r.1 r.0 (Couple k ∷ []) ≡ None)))

-- Once these couples are set aside in turn, the rounds of the others end.
abbrev pub OthersEnd : Type 0
OthersEnd = (m : Market) (best : Places) (budget : ℕ) → stage (market_of_others (aside_in_turn m best budget) m) best budget ≢ None
