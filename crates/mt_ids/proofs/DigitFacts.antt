-- The value of a few digits.
use Rattle.std.proofs.Common.{◌≡◌, ℕ, ◌+◌, ◌*◌, ◌^◌, ◌<◌, ◌≤◌, ◌-◌, true, ◌&&◌, nat_lt, nat_le, List, [], ◌∷◌, length, get_or, take, arith}
use Rattle.std.proofs.Math.Nat.{pow-le-pow_right}
use Rattle.std.specs.List.{list_all}
use Rattle.std.specs.Char.{is_ascii_digit, digit_value}
use Rattle.std.specs.Str.Parse.{digits_value, AllDigits}
use Rattle.std.proofs.lemmas.Bool.{and_parts}
use Rattle.std.proofs.lemmas.Bool.Decides.{nat_tests}
use Rattle.std.proofs.lemmas.Int.Digits.{digits_value-lt, digits_value_more}
use Rattle.std.proofs.lemmas.Str.Parse.{digits_value-take-le}
use Rattle.mt_terms.proofs.ListFacts.{passes_at}

is_digit_small : (c : ℕ) → is_ascii_digit c ≡ true → (48 ≤ c) × (c ≤ 57) × (digit_value c + 48 ≡ c)
is_digit_small c h = (grind (arith, nat_tests), grind (arith, nat_tests), grind (arith, nat_tests))

are_digits : (ds : List ℕ) → list_all is_ascii_digit ds ≡ true → AllDigits 10 ds
are_digits [] h = tt
are_digits (c ∷ cs) h =
    let p : (is_ascii_digit c ≡ true) × (list_all is_ascii_digit cs ≡ true) = and_parts (is_ascii_digit c) _ h in
    (omega (arith, is_digit_small c p.0), are_digits cs p.1)

-- at most this number of digits
pub value_small : (ds : List ℕ) (most : ℕ) → list_all is_ascii_digit ds ≡ true → length ds ≤ most → digits_value 10 ds < 10 ^ most
value_small ds most h k =
    let bound : 10 ^ length ds ≤ 10 ^ most = pow-le-pow_right (let some : 0 < 10 = omega arith in some) k in
    omega (arith, digits_value-lt 10 ds (are_digits ds h), bound)

-- one to four digits write a number below 2 ^ 32
pub quota_small : (ds : List ℕ) → (nat_lt 0 (length ds) && nat_le (length ds) 4 && list_all is_ascii_digit ds) ≡ true → digits_value 10 ds < 2 ^ 32
quota_small ds h =
    let parts = and_parts (nat_lt 0 (length ds) && nat_le (length ds) 4) _ h in
    let short = and_parts (nat_lt 0 (length ds)) _ parts.0 in
    let few : length ds ≤ 4 = let fact = short.1 in grind (arith, nat_tests) in
    omega (arith, value_small ds 4 parts.1 few)

-- one digit more of at most ten
pub value_more : (ds : List ℕ) (i : ℕ) → list_all is_ascii_digit ds ≡ true → length ds ≤ 10 → i < length ds
    → (48 ≤ get_or ds i 0) × (digits_value 10 (take (i + 1) ds) ≡ digits_value 10 (take i ds) * 10 + (get_or ds i 0 - 48)) × (digits_value 10 (take (i + 1) ds) < 10 ^ 10)
value_more ds i h k l =
    let d : is_ascii_digit (get_or ds i 0) ≡ true = passes_at is_ascii_digit ds i 0 h l in
    let digit = is_digit_small (get_or ds i 0) d in (
      omega (arith, digit),
      omega (arith, digits_value_more 10 ds i l, digit),
      omega (arith, value_small ds 10 h k, digits_value-take-le 10 ds (i + 1) (omega arith)),
    )
