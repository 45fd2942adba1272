-- What becomes of the end of what is held, once a rank was received, and what the reply is.
use Rattle.std.specs.Prelude.{◌≡◌, ◌≢◌, ◌⊎◌, ℕ, ◌<◌, ◌≤◌}
use Rattle.mt_terms.specs.Lists.{Set}
use Rattle.mt_hold.specs.Ends.{IsLastBelow}
use Rattle.mt_hold.specs.declared.holding.Taken.{Taken}
use Rattle.mt_hold.specs.declared.holding.Taken.TheVariants.{Kept, KeptInstead, Refused}

-- no more than the quota are received, and the end stays
pub record HasRoom (quota count old new : ℕ) : Type 0 where
  pub room : count ≤ quota
  pub stays : new ≡ old

-- more are received, and the holding displaces the last rank below the end, which isn't the rank received
pub record LetsLastGo (set : Set) (quota count rank old last new : ℕ) : Type 0 where
  pub over : quota < count
  pub in_time : rank < old
  pub falls : IsLastBelow set old last
  pub other : last ≢ rank
  pub moves : new ≡ last

-- more are received, and the rank received is past the end, or is itself the last below it
pub record IsTooLate (set : Set) (quota count rank old new : ℕ) : Type 0 where
  pub over : quota < count
  pub late : ((old ≤ rank) × (new ≡ old)) ⊎ (IsLastBelow set old rank × (new ≡ rank))

abbrev pub IsSettled : Set → ℕ → ℕ → ℕ → ℕ → Taken → ℕ → Type 0
IsSettled set quota count rank old Kept new = HasRoom quota count old new
IsSettled set quota count rank old (KeptInstead last) new = LetsLastGo set quota count rank old last new
IsSettled set quota count rank old Refused new = IsTooLate set quota count rank old new
