-- What a change of one record does to the market of a file: this project's own laws.
use Rattle.std.specs.Prelude.{◌≡◌, ◌⊎◌, ℕ, List, ◌∷◌, ◌++◌, Ok, Some, codes}
use Rattle.mt_terms.specs.Market.{Registered}
use Rattle.mt_terms.specs.Registration.{market_of}
use Rattle.mt_terms.specs.Registration.Ids.{Bytes, quota_of}
use Rattle.mt_change_laws.specs.Changes.{ListChanged, QuotaChanged}

-- Two files that differ in the list of one applicant's record have the same names. Their markets are the same, or
-- differ in that list alone.
abbrev pub OneListChanges : Type 0
OneListChanges =
    (before after : List (List Bytes)) (r s : Registered) (id : Bytes) (list other : List Bytes)
    → market_of (before ++ (codes "applicant" ∷ id ∷ list) ∷ after) ≡ Ok r
    → market_of (before ++ (codes "applicant" ∷ id ∷ other) ∷ after) ≡ Ok s
    → (s.names ≡ r.names) × ((s.market ≡ r.market) ⊎ ListChanged r s id other)

-- Two files that differ in the quota of one program's record have the same names. Their markets are the same, or differ
-- in that quota alone.
abbrev pub OneQuotaChanges : Type 0
OneQuotaChanges =
    (before after : List (List Bytes)) (r s : Registered) (id field other_field : Bytes) (quota other : ℕ) (list : List Bytes)
    → quota_of field ≡ Some quota → quota_of other_field ≡ Some other
    → market_of (before ++ (codes "program" ∷ id ∷ field ∷ list) ∷ after) ≡ Ok r
    → market_of (before ++ (codes "program" ∷ id ∷ other_field ∷ list) ∷ after) ≡ Ok s
    → (s.names ≡ r.names) × ((s.market ≡ r.market) ⊎ QuotaChanged r s quota other)
