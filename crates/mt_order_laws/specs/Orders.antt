-- The orders of couples that are tried, one after another. (This project's own rule.) Each but the first is the shuffle
-- of Fisher and Yates 1938, in Durstenfeld's form of 1964, by the generator PCG32 of O'Neill 2014.
use Rattle.std.specs.Prelude.{ℕ, zero, suc, ◌+◌, ◌-◌, ◌%◌, Bool, ◌==◌, List, Option, is_some, length, if◌then◌else◌}
use Rattle.std.specs.List.{find, range_with_len, swap}
use Rattle.rand_pcg.specs.Lcg.{Lcg, started, increment_of}
use Rattle.rand_pcg.specs.Pcg.{multiplier_64, pcg32}
use Rattle.mt_terms.specs.Lists.{below}
use Rattle.mt_terms.specs.Market.{Market}
use Rattle.mt_terms.specs.Matching.{Places}
use Rattle.mt_terms.specs.Rounds.{stage}
use Rattle.mt_order_laws.specs.Reordered.{reordered}

-- The generator of the order with a number: PCG32, started with the number as its state and with stream 0.
abbrev pub generator_of : ℕ → Lcg
generator_of number = started 64 multiplier_64 number (increment_of 64 0)

-- A list whose first places, up to the place `last`, are shuffled. From that place down to place 1, each element changes
-- places with the one at the generator's next word, modulo how many places there are up to it.
abbrev pub shuffled : ℕ → Lcg → List ℕ → List ℕ
shuffled zero g xs = xs
shuffled (suc i) g xs = shuffled i (pcg32 g).1 (swap xs (suc i) ((pcg32 g).0 % (suc i + 1)))

-- The order of n couples with a number, from 1. Order 1 is that of registration.
abbrev pub order_of : ℕ → ℕ → List ℕ
order_of number n = if number == 1 then below n else shuffled (n - 1) (generator_of number) (below n)

-- the market with its couples in the order with a number
abbrev pub in_order : ℕ → Market → Market
in_order number m = reordered (order_of number (length m.couples)) m

-- whether the couples' rounds end within the budget if they enter in the order with a number
abbrev pub ends_in_order : Market → Places → ℕ → ℕ → Bool
ends_in_order m places budget number = is_some (stage (in_order number m) places budget)

-- of the orders from 1 to `orders`, the first in which the rounds end within the budget, if there is one
abbrev pub first_order : Market → Places → ℕ → ℕ → Option ℕ
first_order m places budget orders = find (ends_in_order m places budget) (range_with_len 1 orders)
