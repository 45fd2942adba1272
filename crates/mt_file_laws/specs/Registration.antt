-- What holds of every file that is accepted. Those are the files without a fault.
use Rattle.std.specs.Prelude.{◌≡◌, ℕ, List, [], ◌∷◌, ◌++◌, replicate, Ok, codes}
use Rattle.std.specs.Result.{result_ok}
use Rattle.mt_terms.specs.Market.{Registered}
use Rattle.mt_terms.specs.Registration.{market_of, market_under}
use Rattle.mt_terms.specs.Registration.Ids.{Bytes}
use Rattle.mt_terms.specs.Registration.Records.{Rules}
use Rattle.mt_terms.specs.Registration.Passes.{Numbered, contents}
use Rattle.mt_terms.specs.Registration.Accepted.{IsRegistration}
use Rattle.mt_draft_laws.specs.Faultless.{faultless_market}

-- the market of an accepted file, with its names, is well formed and within the limits
abbrev pub AcceptedIsRegistration : Type 0
AcceptedIsRegistration = (rows : List (List Bytes)) (r : Registered) → market_of rows ≡ Ok r → IsRegistration r

-- a file of this version: some records without a field, the one that names the version, and then others
abbrev pub file_of : Bytes → ℕ → List (List Bytes) → List (List Bytes)
file_of version blanks rows = replicate blanks [] ++ (codes "match" ∷ version ∷ []) ∷ rows

-- what is accepted as version 1 is accepted as version 2, and as the same market
abbrev pub VersionsAgree : Type 0
VersionsAgree =
    (blanks : ℕ) (rows : List (List Bytes)) (r : Registered)
    → market_of (file_of (codes "1") blanks rows) ≡ Ok r → market_of (file_of (codes "2") blanks rows) ≡ Ok r

-- the market of rows without a fault is the market of the two passes
abbrev pub PassesAgree : Type 0
PassesAgree = (rules : Rules) (rows : List (Numbered (List Bytes))) → result_ok (market_under rules rows) ≡ faultless_market rules (contents rows)
