-- The first record with a field names a version, or none.
use Rattle.std.proofs.Common.{◌≡◌, ℕ, ◌+◌, List, [], ◌∷◌, length, Some, None, Ok, Err, refl}
use Rattle.mt_terms.specs.Registration.Ids.{Bytes}
use Rattle.mt_terms.specs.Registration.Passes.{numbered_from}
use Rattle.mt_terms.specs.Registration.Records.{Rules, rules_of}
use Rattle.mt_records.specs.Bodies.{body_in}

pub version_at : (n : ℕ) (row : List Bytes) (rows : List (List Bytes)) (rules : Rules) → (length row ≡ 0 → ⊥) → rules_of row ≡ Some rules
    → body_in (numbered_from n (row ∷ rows)) ≡ Ok (rules, numbered_from (n + 1) rows)
version_at n [] rows rules some is = absurd (some refl)
version_at n (word ∷ fields) rows rules some is = rw is refl

pub version_missing : (n : ℕ) (row : List Bytes) (rows : List (List Bytes)) → (length row ≡ 0 → ⊥) → rules_of row ≡ None
    → body_in (numbered_from n (row ∷ rows)) ≡ Err n
version_missing n [] rows some is = absurd (some refl)
version_missing n (word ∷ fields) rows some is = rw is refl
