-- The fields of a row by their places, and those that stay without the empty ones at its end.
use Rattle.std.proofs.Common.{◌≡◌, ◌≤◌, ◌<◌, ◌-◌, ℕ, zero, suc, List, [], ◌∷◌, ◌++◌, ◌+◌, length, get_or, slice_get, take, true, false, Option, Some, None, Bor, refl, sym, arith, rules}
use Rattle.std.specs.Option.{IsSome, option_copied}
use Rattle.std.proofs.lemmas.Option.{slice_get-get_or}
use Rattle.std.specs.List.{suffix_len}
use Rattle.std.proofs.lemmas.List.{take_more}
use Rattle.std.proofs.lemmas.List.Sums.{suffix_len_is}
use Rattle.csv.specs.Records.{field_at}
use Rattle.mt_lists.specs.Records.{is_empty_field, without_trailing_empty}

-- csv's word for the field at a place is std's for the element at a place
pub field_at-slice_get : (fields : List (List ℕ)) (i : ℕ) → field_at fields i ≡ slice_get fields i
unfolding field_at
field_at-slice_get [] i = refl
field_at-slice_get (f ∷ fs) zero = refl
field_at-slice_get (f ∷ fs) (suc i) = field_at-slice_get fs i

-- from n on each field is empty, and the one before n isn't: so n fields stay
pub kept_are : (fields : List (List ℕ)) (n : ℕ) → n ≤ length fields
    → ((k : ℕ) → n ≤ k → k < length fields → is_empty_field (get_or fields k []) ≡ true)
    → (0 < n → is_empty_field (get_or fields (n - 1) []) ≡ false)
    → take n fields ≡ without_trailing_empty fields
kept_are fields n le empty last =
    let s : suffix_len is_empty_field fields ≡ length fields - n = suffix_len_is is_empty_field fields n [] le empty last in
    let e : length fields - (length fields - n) ≡ n = omega arith in
    rw (s, e) refl

-- below the number of fields there is a field
pub field_there : (fields : List (List ℕ)) (i : ℕ) (found : Option (Bor (List ℕ))) → option_copied found ≡ slice_get fields i → i < length fields → IsSome found
field_there fields i None e lt = absurd (cc (slice_get-get_or fields i [] lt))
field_there fields i (Some field) e lt = search rules

-- one field more
pub row_more : (fields row new : List (List ℕ)) (field : List ℕ) (i : ℕ) → i < length fields → row ≡ take i fields
    → field ≡ get_or fields i [] → new ≡ row ++ field ∷ []
    → new ≡ take (i + 1) fields
row_more fields row new field i within so_far is more = rw (more, so_far, is) (sym (take_more fields i [] within))
