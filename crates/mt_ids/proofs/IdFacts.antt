-- Ids that differ, and the numbers by which they are found.
use Rattle.std.proofs.Common.{◌≡◌, ℕ, zero, suc, ◌+◌, ◌<◌, Bool, true, false, not, ◌||◌, List, [], ◌∷◌, ◌++◌, length, take, get_or, position, Some, None, refl, sym, ap₂, ◌∙◌, arith, cond, nat_lt, subst, if◌then◌else◌}
use Rattle.std.specs.Prelude.{bytes_eq}
use Rattle.std.proofs.lemmas.Bool.Decides.{nat_tests}
use Rattle.std.proofs.lemmas.List.{take_more}
use Rattle.mt_terms.specs.Registration.Ids.{Bytes, all_differ, has_id, number_of}
use Rattle.std.proofs.lemmas.Bool.{false_from_ne_true, or_parts}
use Rattle.mt_terms.proofs.IdFacts.{differs, differ_parts, differ_push}

-- an id that is none of these is at none of their places
none_at : (x : Bytes) (xs : List Bytes) (i : ℕ) → has_id xs x ≡ false → i < length xs → bytes_eq x (get_or xs i []) ≡ false
none_at x [] i h k = absurd (omega arith)
none_at x (y ∷ ys) zero h k = (or_parts (bytes_eq x y) (has_id ys x) h).0
none_at x (y ∷ ys) (suc i) h k = none_at x ys i (or_parts (bytes_eq x y) (has_id ys x) h).1 (omega arith)

-- if ids differ, each is none of those before it
pub new_at : (xs : List Bytes) (i : ℕ) → all_differ bytes_eq xs ≡ true → i < length xs → has_id (take i xs) (get_or xs i []) ≡ false
new_at [] i h k = absurd (omega arith)
new_at (x ∷ xs) zero h k = refl
new_at (x ∷ xs) (suc i) h k =
    let parts = differ_parts x xs h in
    let other : bytes_eq (get_or xs i []) x ≡ false = differs x (get_or xs i []) (none_at x xs i parts.0 (omega arith)) in
    rw (other, new_at xs i parts.1 (omega arith)) refl

-- A table has this number of the first of some ids, which differ.
abbrev pub HasFirst : List Bytes → List Bytes → ℕ → Type 0
HasFirst ids table i = (table ≡ take i ids) × (all_differ bytes_eq table ≡ true)

-- the next id is one of them, or it is new and added
module _ (ids table : List Bytes) (i : ℕ) (id : Bytes) (first : HasFirst ids table i) (within : i < length ids) (at : id ≡ get_or ids i [])
    (added : Bool) (said : added ≡ not (has_id table id)) where
  pub stands_twice : added ≡ false → all_differ bytes_eq ids ≡ false
  stands_twice h = false_from_ne_true _ (λ differ. new (new_at ids i differ within))
    where
      new : has_id (take i ids) (get_or ids i []) ≡ false → ⊥
      new n = let none : has_id table id ≡ false = ap₂ has_id first.0 at ∙ n in by (has_id table id) none (sym h ∙ said)
        where
          by : (b : Bool) → b ≡ false → false ≡ not b → ⊥
          by true n k = cc
          by false n k = cc

  pub has_next : (new : List Bytes) → new ≡ (if has_id table id then table else table ++ id ∷ []) → added ≡ true → HasFirst ids new (i + 1)
  has_next new is h = by (has_id table id) refl (sym h ∙ said) is
    where
      by : (b : Bool) → has_id table id ≡ b → true ≡ not b → new ≡ (if b then table else table ++ id ∷ []) → HasFirst ids new (i + 1)
      by true e k is = cc
      by false e k is =
          let all = ap₂ (λ (xs : List Bytes) (x : Bytes). xs ++ x ∷ []) first.0 at ∙ sym (take_more ids i [] within) in
          subst (λ (xs : List Bytes). HasFirst ids xs (i + 1)) (sym is) (all, differ_push table id e first.1)

-- an id has a number if it is one of these
number_there : (ids : List Bytes) (id : Bytes) → nat_lt (number_of ids id) (length ids) ≡ has_id ids id
number_there [] id = refl
number_there (y ∷ ys) id = by (bytes_eq id y) (number_there ys id)
  where
    by : (b : Bool) → nat_lt (number_of ys id) (length ys) ≡ has_id ys id → nat_lt (cond (not b) (1 + number_of ys id) 0) (suc (length ys)) ≡ (b || has_id ys id)
    by true ih = grind (arith, nat_tests)
    by false ih = grind (arith, nat_tests)

position-is : (ids : List Bytes) (id : Bytes) → position (bytes_eq id) ids ≡ (if has_id ids id then Some (number_of ids id) else None)
position-is ids id = rw (number_there ids id) refl

-- an id that was looked up
pub found_id : (ids : List Bytes) (id : Bytes) (n : ℕ) → Some n ≡ position (bytes_eq id) ids → (has_id ids id ≡ true) × (number_of ids id ≡ n)
found_id ids id n h = by (has_id ids id) (h ∙ position-is ids id)
  where
    by : (b : Bool) → Some n ≡ (if b then Some (number_of ids id) else None) → (b ≡ true) × (number_of ids id ≡ n)
    by true e = (refl, cc)
    by false e = cc

pub missing : (ids : List Bytes) (id : Bytes) → has_id ids id ≡ false → position (bytes_eq id) ids ≡ None
missing ids id h = position-is ids id ∙ rw h refl

pub missing_id : (ids : List Bytes) (id : Bytes) → None ≡ position (bytes_eq id) ids → has_id ids id ≡ false
missing_id ids id h = by (has_id ids id) (h ∙ position-is ids id)
  where
    by : (b : Bool) → None ≡ (if b then Some (number_of ids id) else None) → b ≡ false
    by true e = cc
    by false e = refl

-- the number of an id is below how many there are
pub found_below : (ids : List Bytes) (id : Bytes) (n : ℕ) → Some n ≡ position (bytes_eq id) ids → n < length ids
found_below ids id n h =
    let found = found_id ids id n h in
    let there : nat_lt (number_of ids id) (length ids) ≡ true = number_there ids id ∙ found.0 in
    let below : number_of ids id < length ids = grind (arith, nat_tests) in
    omega (arith, below, found.1)
