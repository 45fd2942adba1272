-- Where the held ranks end.
use Rattle.std.specs.Prelude.{◌≡◌, ℕ, ◌<◌, ◌≤◌, min, IsTrue, IsFalse}
use Rattle.mt_terms.specs.Lists.{Set, count_below}

-- The first `quota` members of a set below n are those below the end, which is n as long as there are no more.
pub record IsEnd (quota n : ℕ) (set : Set) (end : ℕ) : Type 0 where
  pub within : end ≤ n
  pub counted : count_below set end ≡ min quota (count_below set n)
  pub all : count_below set n ≤ quota → end ≡ n

-- the last member of a set below an end
pub record IsLastBelow (set : Set) (end last : ℕ) : Type 0 where
  pub below : last < end
  pub member : IsTrue (set last)
  pub none_after : (k : ℕ) → last < k → k < end → IsFalse (set k)
