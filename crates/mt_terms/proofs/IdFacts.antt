-- Ids, and their numbers on lists.
use Rattle.std.proofs.Common.{◌≡◌, ℕ, suc, ◌+◌, ◌<◌, ◌≤◌, nat_lt, nat_le, leb-true, Bool, true, false, not, ◌||◌, List, [], ◌∷◌, length, refl, arith, cond, ◌&&◌, ◌++◌, sym}
use Rattle.std.specs.Prelude.{bytes_eq}
use Rattle.std.specs.List.{list_all}
use Rattle.std.proofs.lemmas.Slice.Eq.{bytes_eq-Decides}
use Rattle.mt_terms.specs.Registration.Ids.{Bytes, has_id, number_of, all_differ, is_id, is_id_byte, is_dash}
use Rattle.std.specs.Cmp.{both_ways as same_tests}
use Rattle.std.proofs.lemmas.Bool.{false_from_ne_true, or_parts, and_parts}
use Rattle.std.proofs.lemmas.List.Folds.{list_any-append}

pub same_id : (x y : Bytes) → bytes_eq x y ≡ true → x ≡ y
same_id x y h = (bytes_eq-Decides x y).0 h

pub is_same : (x y : Bytes) → x ≡ y → bytes_eq x y ≡ true
is_same x y e = (bytes_eq-Decides x y).1 e

-- the comparison of two ids, with the two exchanged
pub bytes_eq_sym : (x y : Bytes) → bytes_eq x y ≡ bytes_eq y x
bytes_eq_sym x y = same_tests (bytes_eq x y) (bytes_eq y x) (λ h. is_same y x (sym (same_id x y h))) (λ h. is_same x y (sym (same_id y x h)))

-- an id of at most n bytes
pub id_short : (n : ℕ) (id : Bytes) → is_id n id ≡ true → length id ≤ n
id_short n id h =
    let all = and_parts (nat_lt 0 (length id) && nat_le (length id) n && list_all is_id_byte id) (not (is_dash id)) h in
    let front = and_parts (nat_lt 0 (length id) && nat_le (length id) n) (list_all is_id_byte id) all.0 in
    leb-true (length id) n (and_parts (nat_lt 0 (length id)) (nat_le (length id) n) front.0).1

-- an id that differs from another one, the other way round
pub differs : (x y : Bytes) → bytes_eq x y ≡ false → bytes_eq y x ≡ false
differs x y h = false_from_ne_true _ (λ same. let e : bytes_eq x y ≡ true = (bytes_eq-Decides x y).1 (sym ((bytes_eq-Decides y x).0 same)) in cc)

-- the first id of a list is not among the others, and those differ too
pub differ_parts : (x : Bytes) (xs : List Bytes) → all_differ bytes_eq (x ∷ xs) ≡ true → (has_id xs x ≡ false) × (all_differ bytes_eq xs ≡ true)
differ_parts x xs h = by (has_id xs x) h
  where
    by : (b : Bool) → (not b && all_differ bytes_eq xs) ≡ true → (b ≡ false) × (all_differ bytes_eq xs ≡ true)
    by true k = cc
    by false k = (refl, k)

-- an id that is new at the end
pub differ_push : (xs : List Bytes) (x : Bytes) → has_id xs x ≡ false → all_differ bytes_eq xs ≡ true → all_differ bytes_eq (xs ++ x ∷ []) ≡ true
differ_push [] x h k = refl
differ_push (y ∷ ys) x h k =
    let p : (has_id ys y ≡ false) × (all_differ bytes_eq ys ≡ true) = differ_parts y ys k in
    let q : (bytes_eq x y ≡ false) × (has_id ys x ≡ false) = or_parts (bytes_eq x y) (has_id ys x) h in
    let n : bytes_eq y x ≡ false = differs x y q.0 in
    let e : has_id (ys ++ x ∷ []) y ≡ false = rw (list_any-append, p.0, n) refl in
    rw (e, differ_push ys x q.1 p.1) refl

-- the number of a listed id is below the length
pub number_below : (ids : List Bytes) (x : Bytes) → has_id ids x ≡ true → number_of ids x < length ids
number_below [] x h = cc
number_below (y ∷ ys) x h = by (bytes_eq x y) (number_below ys x) h
  where
    by : (b : Bool) → (has_id ys x ≡ true → number_of ys x < length ys) → (b || has_id ys x) ≡ true → cond (not b) (1 + number_of ys x) 0 < suc (length ys)
    by true ih k = omega arith
    by false ih k = let l : number_of ys x < length ys = ih k in omega arith

-- two listed ids have two numbers
pub same_number : (ids : List Bytes) (x y : Bytes) → has_id ids x ≡ true → has_id ids y ≡ true → number_of ids x ≡ number_of ids y → x ≡ y
same_number [] x y h k e = cc
same_number (z ∷ zs) x y h k e = by (bytes_eq x z) (bytes_eq y z) (same_id x z) (same_id y z) (same_number zs x y) h k e
  where
    by : (b c : Bool) → (b ≡ true → x ≡ z) → (c ≡ true → y ≡ z) → (has_id zs x ≡ true → has_id zs y ≡ true → number_of zs x ≡ number_of zs y → x ≡ y)
        → (b || has_id zs x) ≡ true → (c || has_id zs y) ≡ true → cond (not b) (1 + number_of zs x) 0 ≡ cond (not c) (1 + number_of zs y) 0 → x ≡ y
    by true true f g ih h k e = cc (f refl, g refl)
    by true false f g ih h k e = absurd (omega arith)
    by false true f g ih h k e = absurd (omega arith)
    by false false f g ih h k e = ih h k (omega arith)
