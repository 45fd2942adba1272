-- What an audit writes into a floor: one applicant's desk.
use Rattle.std.specs.Prelude.{ℕ, ◌==◌, ◌<◌, ◌≤◌, Bool, take, length, IsTrue, if◌then◌else◌}
use Rattle.mt_terms.specs.Lists.{has}
use Rattle.mt_terms.specs.Market.{Market, live}
use Rattle.mt_terms.specs.Floor.{Floor}

-- The floor with one applicant's desk written into it: how many proposals it has made, and whether it stands.
-- The programs that have received it are that many from the front of its live list. The rest is as before.
abbrev pub with_desk : Market → Floor → ℕ → ℕ → Bool → Floor
with_desk m f a made standing = record {
  made = λ b. if b == a then made else f.made b;
  standing = λ b. if b == a then standing else f.standing b;
  received = λ p b. if b == a then has (take made (live m a)) p else f.received p b;
}

-- what a recorded floor may have of an applicant: no more proposals than live entries, and at least one if it
-- stands
pub record MayHave (m : Market) (a made : ℕ) (standing : Bool) : Type 0 where
  pub within : made ≤ length (live m a)
  pub proposed : IsTrue standing → 0 < made
