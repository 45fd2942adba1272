-- Fields two by two.
use Rattle.std.proofs.Common.{◌≡◌, ◌/◌, ◌%◌, Bool, true, false, ◌&&◌, List, [], ◌∷◌, length, map, Some, None, Ok, Err, refl, ap, ◌∙◌, arith}
use Rattle.std.specs.List.{list_all}
use Rattle.std.proofs.lemmas.List.{length-map}
use Rattle.mt_terms.specs.Registration.Ids.{Bytes}
use Rattle.mt_terms.specs.Registration.Faults.{record_fault_alone}
use Rattle.mt_terms.specs.declared.codes.TheConstants.{FIELD_COUNT, BAD_ID}
use Rattle.mt_terms.specs.Registration.Records.{Rules, CoupleRecord, are_ids, is_pair, pair_of, two_by_two, couple_by_pairs}
use Rattle.mt_terms.specs.Lists.{by_twos}

length-by_twos : (xs : List Bytes) → length (by_twos xs) ≡ length xs / 2
length-by_twos [] = refl
length-by_twos (x ∷ []) = refl
length-by_twos (x ∷ y ∷ xs) = omega (arith, length-by_twos xs)

-- how many pairs there are
pub places_long : (xs : List Bytes) → length (map pair_of (by_twos xs)) ≡ length xs / 2
places_long xs = length-map (by_twos xs) pair_of ∙ length-by_twos xs

-- two by two if their number is even, and else not
abbrev ByParity : List Bytes → Type 0
ByParity xs = (length xs % 2 ≡ 0 → two_by_two xs ≡ Some (by_twos xs)) × (length xs % 2 ≡ 1 → two_by_two xs ≡ None)

pub two_by_two-by_twos : (xs : List Bytes) → ByParity xs
two_by_two-by_twos [] = (λ h. refl, λ h. absurd (omega arith))
two_by_two-by_twos (x ∷ []) = (λ h. absurd (omega arith), λ h. refl)
two_by_two-by_twos (x ∷ y ∷ xs) =
    let ih : ByParity xs = two_by_two-by_twos xs in
    (λ h. rw (ih.0 (omega arith)) refl, λ h. rw (ih.1 (omega arith)) refl)

-- a couple by its names and the fields of its list, whose number is odd, or even
module _ (rules : Rules) (id a b : Bytes) (fields : List Bytes) where
  pub odd_couple : length fields % 2 ≡ 1 → couple_by_pairs rules id a b (two_by_two fields) ≡ Err (record_fault_alone FIELD_COUNT)
  odd_couple h = ap (couple_by_pairs rules id a b) ((two_by_two-by_twos fields).1 h)

  module _ (h : length fields % 2 ≡ 0) where
    pub couple_is_read : are_ids rules (id ∷ a ∷ b ∷ []) ≡ true → list_all (is_pair rules) (by_twos fields) ≡ true
        → couple_by_pairs rules id a b (two_by_two fields) ≡ Ok (CoupleRecord id a b (map pair_of (by_twos fields)))
    couple_is_read names pairs = ap (couple_by_pairs rules id a b) ((two_by_two-by_twos fields).0 h) ∙ rw (names, pairs) refl

    pub couple_is_refused : are_ids rules (id ∷ a ∷ b ∷ []) && list_all (is_pair rules) (by_twos fields) ≡ false
        → couple_by_pairs rules id a b (two_by_two fields) ≡ Err (record_fault_alone BAD_ID)
    couple_is_refused bad = ap (couple_by_pairs rules id a b) ((two_by_two-by_twos fields).0 h) ∙ rw bad refl

-- both of two tests don't pass if one of them fails
pub left_fails : (b c : Bool) → b ≡ false → (b && c) ≡ false
left_fails true c h = cc
left_fails false c h = refl

pub right_fails : (b c : Bool) → c ≡ false → (b && c) ≡ false
right_fails true c h = h
right_fails false c h = refl
