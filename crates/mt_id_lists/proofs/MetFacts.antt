-- A list stands if each id is one of these and is met for the first time.
use Rattle.std.proofs.Common.{◌≡◌, ℕ, ◌<◌, Bool, true, false, not, ◌&&◌, ◌||◌, ◌==◌, List, [], ◌∷◌, length, get_or, set, refl, ap, ◌∙◌, arith, if◌then◌else◌}
use Rattle.std.specs.Prelude.{bytes_eq}
use Rattle.std.specs.List.{list_all}
use Rattle.std.proofs.lemmas.Bool.Decides.{nat_tests}
use Rattle.std.proofs.lemmas.List.{length-set}
use Rattle.mt_terms.specs.Registration.Ids.{stands_once}
use Rattle.mt_terms.proofs.IdFacts.{number_below, same_number, same_id, is_same}
use Rattle.mt_terms.specs.Registration.Ids.{Bytes, has_id, number_of, all_differ}
use Rattle.mt_id_lists.specs.Met.{IsNoneMet}
use Rattle.mt_id_lists.proofs.ListFacts.{get_or-set}

module _ (ids : List Bytes) where
  -- whether an id wasn't met
  abbrev pub is_new : List Bool → Bytes → Bool
  is_new met id = not (get_or met (number_of ids id) false)

  -- whether each id of a list is one of these and wasn't met before
  abbrev pub stands_from : List Bool → List Bytes → Bool
  stands_from met [] = true
  stands_from met (id ∷ rest) = has_id ids id && (is_new met id && stands_from (set met (number_of ids id) true) rest)

  -- an id after another one was met
  new_set : (met : List Bool) (x y : Bytes) → length met ≡ length ids → has_id ids x ≡ true → has_id ids y ≡ true
      → is_new (set met (number_of ids x) true) y ≡ (not (bytes_eq x y) && is_new met y)
  new_set met x y long h k =
      let within : number_of ids x < length met = omega (arith, number_below ids x h) in
      rw (get_or-set met (number_of ids x) (number_of ids y) true false within) (by (number_of ids x == number_of ids y) (bytes_eq x y) refl refl)
    where
      by : (b c : Bool) → (number_of ids x == number_of ids y) ≡ b → bytes_eq x y ≡ c
          → not (if b then true else get_or met (number_of ids y) false) ≡ (not c && is_new met y)
      by true true e f = refl
      by true false e f =
          let s : number_of ids x ≡ number_of ids y = grind (arith, nat_tests) in
          cc (f, is_same x y (same_number ids x y h k s))
      by false true e f =
          let s : number_of ids x ≡ number_of ids y = ap (number_of ids) (same_id x y f) in
          absurd (differ s e)
        where
          differ : number_of ids x ≡ number_of ids y → (number_of ids x == number_of ids y) ≡ false → ⊥
          differ s f = grind (arith, nat_tests)
      by false false e f = refl

  -- the ids of a list after one was met
  all_new_set : (met : List Bool) (x : Bytes) (xs : List Bytes) → length met ≡ length ids → has_id ids x ≡ true → list_all (has_id ids) xs ≡ true
      → list_all (is_new (set met (number_of ids x) true)) xs ≡ (not (has_id xs x) && list_all (is_new met) xs)
  all_new_set met x [] long h k = refl
  all_new_set met x (y ∷ ys) long h k = by (has_id ids y) refl (all_new_set met x ys long h) k
    where
      join : (b c d e : Bool) → ((not b && d) && (not c && e)) ≡ (not (b || c) && (d && e))
      join true c d e = refl
      join false true true e = refl
      join false true false e = refl
      join false false d e = refl

      by : (b : Bool) → has_id ids y ≡ b
          → (list_all (has_id ids) ys ≡ true → list_all (is_new (set met (number_of ids x) true)) ys ≡ (not (has_id ys x) && list_all (is_new met) ys))
          → (b && list_all (has_id ids) ys) ≡ true
          → (is_new (set met (number_of ids x) true) y && list_all (is_new (set met (number_of ids x) true)) ys) ≡ (not (bytes_eq x y || has_id ys x) && (is_new met y && list_all (is_new met) ys))
      by true i ih r = rw (new_set met x y long h i, ih r) (join (bytes_eq x y) (has_id ys x) (is_new met y) (list_all (is_new met) ys))
      by false i ih r = cc

  -- a list stands if it does by its ids, and none was met before
  stands_from-is : (met : List Bool) (list : List Bytes) → length met ≡ length ids → stands_from met list ≡ (stands_once ids list && list_all (is_new met) list)
  stands_from-is met [] long = refl
  stands_from-is met (x ∷ xs) long =
      let long' : length (set met (number_of ids x) true) ≡ length ids = length-set met (number_of ids x) true ∙ long in
      by (has_id ids x) (list_all (has_id ids) xs) refl refl (stands_from-is (set met (number_of ids x) true) xs long')
    where
      join : (a b c d : Bool) → (a && (b && (not c && d))) ≡ ((not c && b) && (a && d))
      join true true true d = refl
      join true true false d = refl
      join true false true d = refl
      join true false false d = refl
      join false true true d = refl
      join false true false d = refl
      join false false true d = refl
      join false false false d = refl

      none : (a : Bool) → (a && false) ≡ false
      none true = refl
      none false = refl

      by : (b c : Bool) → has_id ids x ≡ b → list_all (has_id ids) xs ≡ c
          → stands_from (set met (number_of ids x) true) xs ≡ ((c && all_differ bytes_eq xs) && list_all (is_new (set met (number_of ids x) true)) xs)
          → (b && (is_new met x && stands_from (set met (number_of ids x) true) xs)) ≡ (((b && c) && (not (has_id xs x) && all_differ bytes_eq xs)) && (is_new met x && list_all (is_new met) xs))
      by true true h k ih = rw (ih, all_new_set met x xs long h k) (join (is_new met x) (all_differ bytes_eq xs) (has_id xs x) (list_all (is_new met) xs))
      by true false h k ih = rw ih (none (is_new met x))
      by false c h k ih = refl

  -- if none was met, each is new
  all_new : (met : List Bool) (list : List Bytes) → length met ≡ length ids → IsNoneMet met → list_all (has_id ids) list ≡ true → list_all (is_new met) list ≡ true
  all_new met [] long none h = refl
  all_new met (x ∷ xs) long none h = by (has_id ids x) refl (all_new met xs long none) h
    where
      by : (b : Bool) → has_id ids x ≡ b → (list_all (has_id ids) xs ≡ true → list_all (is_new met) xs ≡ true) → (b && list_all (has_id ids) xs) ≡ true
          → (is_new met x && list_all (is_new met) xs) ≡ true
      by true i ih r =
          let within : number_of ids x < length met = omega (arith, number_below ids x i) in
          let unmet : get_or met (number_of ids x) false ≡ false = none (number_of ids x) within in
          rw (unmet, ih r) refl
      by false i ih r = cc

  pub stands_from-once : (met : List Bool) (list : List Bytes) → length met ≡ length ids → IsNoneMet met → stands_from met list ≡ stands_once ids list
  stands_from-once met list long none = stands_from-is met list long ∙ by (list_all (has_id ids) list) refl
    where
      all : (a : Bool) → (a && true) ≡ a
      all true = refl
      all false = refl

      by : (b : Bool) → list_all (has_id ids) list ≡ b → ((b && all_differ bytes_eq list) && list_all (is_new met) list) ≡ (b && all_differ bytes_eq list)
      by true h = rw (all_new met list long none h) (all (all_differ bytes_eq list))
      by false h = refl

  -- a list one id on, by what is met: an id that is none of these, one that was met, and another
  module _ (met : List Bool) (left : List Bytes) (id : Bytes) (rest : List Bytes) (is : left ≡ id ∷ rest) where
    pub stands_from-missing : has_id ids id ≡ false → stands_from met left ≡ false
    stands_from-missing h = rw (is, h) refl

    module _ (k : ℕ) (at : number_of ids id ≡ k) where
      pub stands_from-again : not (get_or met k false) ≡ false → stands_from met left ≡ false
      stands_from-again h = rw (is, at, h) (by (has_id ids id))
        where
          by : (b : Bool) → (b && false) ≡ false
          by true = refl
          by false = refl

      pub stands_from-new : has_id ids id ≡ true → not (get_or met k false) ≡ true → stands_from met left ≡ stands_from (set met k true) rest
      stands_from-new h n = rw (is, h, at, n) refl
