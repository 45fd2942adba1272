-- Lists of ids, and the numbers of ids on them.
use Rattle.std.proofs.Common.{◌≡◌, suc, ◌<◌, ◌≤◌, Bool, true, false, ◌||◌, List, [], ◌∷◌, map, length, refl, arith, sym, cond, nat_lt, ℕ, ◌+◌, get_or}
use Rattle.std.specs.Prelude.{filter, bytes_eq, ◌==◌}
use Rattle.std.specs.List.{list_all}
use Rattle.std.proofs.lemmas.Bool.Decides.{nat_tests}
use Rattle.std.proofs.lemmas.Slice.Eq.{bytes_eq-Decides}
use Rattle.mt_terms.specs.Lists.{has, is_distinct}
use Rattle.mt_terms.specs.Registration.Ids.{Bytes, has_id, number_of, numbers_of, all_differ}
use Rattle.mt_terms.proofs.IdFacts.{number_below, same_number}
use Rattle.std.proofs.lemmas.Bool.{false_from_ne_true}
-- Crates above cite these lemmas by these names.
pub use Rattle.mt_terms.proofs.IdFacts.{differ_parts, differ_push}
pub use Rattle.std.proofs.lemmas.Bool.{or_left, or_right, false_from_ne_true as not_true, or_parts as neither}

pub itself : (x : Bytes) → bytes_eq x x ≡ true
itself x = (bytes_eq-Decides x x).1 refl

-- a number on a list by numbers is one of an id of the list
pub number_listed : (ids list : List Bytes) (x : Bytes) → has_id ids x ≡ true → has (numbers_of ids list) (number_of ids x) ≡ true → has_id list x ≡ true
number_listed ids [] x h k = cc
number_listed ids (y ∷ ys) x h k = by (has_id ids y) refl (number_listed ids ys x h) k
  where
    here : (c : Bool) → (number_of ids y == number_of ids x) ≡ c → has_id ids y ≡ true → (has (numbers_of ids ys) (number_of ids x) ≡ true → has_id ys x ≡ true) → (c || has (numbers_of ids ys) (number_of ids x)) ≡ true → has_id (y ∷ ys) x ≡ true
    here true e i ih k = or_left _ _ ((bytes_eq-Decides x y).1 (sym (same_number ids y x i h (grind (arith, nat_tests)))))
    here false e i ih k = or_right _ _ (ih k)

    by : (b : Bool) → has_id ids y ≡ b → (has (numbers_of ids ys) (number_of ids x) ≡ true → has_id ys x ≡ true) → has (map (number_of ids) (cond b (y ∷ filter (has_id ids) ys) (filter (has_id ids) ys))) (number_of ids x) ≡ true → has_id (y ∷ ys) x ≡ true
    by true i ih k = here (number_of ids y == number_of ids x) refl i ih k
    by false i ih k = or_right _ _ (ih k)

-- the place after the first
pub next_place : {X : Type 0} → (x : X) (xs : List X) (k : ℕ) (d : X) → get_or (x ∷ xs) (1 + k) d ≡ get_or xs k d
next_place x xs k d = let e : 1 + k ≡ suc k = omega arith in rw e refl

pub differ_join : (x : Bytes) (xs : List Bytes) → has_id xs x ≡ false → all_differ bytes_eq xs ≡ true → all_differ bytes_eq (x ∷ xs) ≡ true
differ_join x xs h k = rw (h, k) refl

-- a list without repeats has none by numbers
pub numbers_distinct : (ids list : List Bytes) → all_differ bytes_eq list ≡ true → is_distinct (numbers_of ids list) ≡ true
numbers_distinct ids [] h = refl
numbers_distinct ids (x ∷ xs) h = let p : (has_id xs x ≡ false) × (all_differ bytes_eq xs ≡ true) = differ_parts x xs h in by (has_id ids x) refl p.0 (numbers_distinct ids xs p.1)
  where
    by : (b : Bool) → has_id ids x ≡ b → has_id xs x ≡ false → is_distinct (numbers_of ids xs) ≡ true → is_distinct (map (number_of ids) (cond b (x ∷ filter (has_id ids) xs) (filter (has_id ids) xs))) ≡ true
    by true i n ih = let f : has (numbers_of ids xs) (number_of ids x) ≡ false = false_from_ne_true _ (λ k. cc (n, number_listed ids xs x i k)) in rw (f, ih) refl
    by false i n ih = ih

-- the numbers on a list are below the length
pub numbers_below : (ids list : List Bytes) → list_all (λ n. nat_lt n (length ids)) (numbers_of ids list) ≡ true
numbers_below ids [] = refl
numbers_below ids (x ∷ xs) = by (has_id ids x) (number_below ids x) (numbers_below ids xs)
  where
    by : (b : Bool) → (b ≡ true → number_of ids x < length ids) → list_all (λ n. nat_lt n (length ids)) (numbers_of ids xs) ≡ true → list_all (λ n. nat_lt n (length ids)) (map (number_of ids) (cond b (x ∷ filter (has_id ids) xs) (filter (has_id ids) xs))) ≡ true
    by true l ih = let b : number_of ids x < length ids = l refl in let t : nat_lt (number_of ids x) (length ids) ≡ true = grind (arith, nat_tests) in rw (t, ih) refl
    by false l ih = ih

-- what is listed by numbers is no longer than the list
pub numbers_short : (ids list : List Bytes) → length (numbers_of ids list) ≤ length list
numbers_short ids [] = omega arith
numbers_short ids (x ∷ xs) = by (has_id ids x) (numbers_short ids xs)
  where
    by : (b : Bool) → length (numbers_of ids xs) ≤ length xs → length (map (number_of ids) (cond b (x ∷ filter (has_id ids) xs) (filter (has_id ids) xs))) ≤ suc (length xs)
    by true ih = omega arith
    by false ih = omega arith

-- xs is ys, or ys with some ids left out
pub record Within (xs ys : List Bytes) : Type 0 where
  pub listed : (x : Bytes) → has_id xs x ≡ true → has_id ys x ≡ true
  pub differ : all_differ bytes_eq ys ≡ true → all_differ bytes_eq xs ≡ true
  pub short : length xs ≤ length ys

pub within_nil : Within [] []
within_nil = record { listed = λ x h. h; differ = λ h. h; short = omega arith }

pub within_cons : (z : Bytes) (xs ys : List Bytes) → Within xs ys → Within (z ∷ xs) (z ∷ ys)
within_cons z xs ys w = record {
  listed = λ x h. either (bytes_eq x z) (has_id xs x) (has_id ys x) (w.listed x) h;
  differ = λ h. let p : (has_id ys z ≡ false) × (all_differ bytes_eq ys ≡ true) = differ_parts z ys h in differ_join z xs (false_from_ne_true _ (λ k. cc (p.0, w.listed z k))) (w.differ p.1);
  short = let s : length xs ≤ length ys = w.short in omega arith;
}
  where
    either : (a b c : Bool) → (b ≡ true → c ≡ true) → (a || b) ≡ true → (a || c) ≡ true
    either true b c f h = refl
    either false b c f h = f h

pub within_more : (z : Bytes) (xs ys : List Bytes) → Within xs ys → Within xs (z ∷ ys)
within_more z xs ys w = record {
  listed = λ x h. or_right (bytes_eq x z) _ (w.listed x h);
  differ = λ h. w.differ (differ_parts z ys h).1;
  short = let s : length xs ≤ length ys = w.short in omega arith;
}
