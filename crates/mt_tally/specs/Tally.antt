-- What a roll shows.
use Rattle.std.specs.Prelude.{ℕ}

-- how many credits were dealt, how many shares were taken in, and with how many credits of desks and of passes
pub record Tally : Type 0 where
  pub total : ℕ
  pub shares : ℕ
  pub desk_credits : ℕ
  pub pass_credits : ℕ

-- a roll with n credits dealt, and nothing taken in yet
abbrev pub all_dealt : ℕ → Tally
all_dealt n = record { total = n; shares = 0; desk_credits = 0; pass_credits = 0 }
