-- Why a page writes ids as they are: none of their bytes means something in markup.
use Rattle.std.specs.Prelude.{ℕ, ◌<◌, codes, length, IsFalse}
use Rattle.std.specs.List.{list_any}
use Rattle.mt_terms.specs.Lists.{has}
use Rattle.mt_terms.specs.Market.{Registered}
use Rattle.mt_terms.specs.Registration.Accepted.{IsRegistration}
use Rattle.mt_terms.specs.Text.{name_of}

-- No id of a program of a file has one of the five bytes that XML and HTML write otherwise.
abbrev pub IdsAreNoMarkup : Type 0
IdsAreNoMarkup =
    (r : Registered) → IsRegistration r → (p : ℕ) → p < length r.market.programs
    → IsFalse (list_any (has (codes "<>&'\"")) (name_of r.names.programs p))
