-- Tables with more ids, each once in the order in which they come.
-- A table begins with what it had before, and has an id exactly if that was there or is one of those added.
use Rattle.std.proofs.Common.{◌≡◌, ℕ, ◌+◌, Bool, true, false, ◌||◌, ◌&&◌, not, cond, zero, suc, nat_le, nat_lt, position, Some, None, List, [], ◌∷◌, ◌++◌, length, take, min, refl, ap, sym, ◌∙◌, subst, length-append, arith, if◌then◌else◌}
use Rattle.std.specs.Prelude.{bytes_eq}
use Rattle.std.proofs.lemmas.Bool.Decides.{nat_tests}
use Rattle.std.proofs.lemmas.List.{append_assoc, append-nil, take_all, take-append-le}
use Rattle.std.proofs.lemmas.List.Folds.{list_any-append}
use Rattle.mt_terms.proofs.IdFacts.{same_id}
use Rattle.mt_terms.specs.Registration.Ids.{Bytes, has_id, number_of}
use Rattle.mt_ids.proofs.IdFacts.{found_id, missing_id}
use Rattle.mt_faults.specs.declared.before.Passed.{Passed}
use Rattle.mt_faults.specs.Registered.{added, most, seen_with, IsPassed, PassesIds}

pub added-append : (table ids more : List Bytes) → added table (ids ++ more) ≡ added (added table ids) more
added-append table [] more = refl
added-append table (id ∷ ids) more = added-append (if has_id table id then table else table ++ id ∷ []) ids more

-- one list begins with another
abbrev pub Grows : List Bytes → List Bytes → Type 0
Grows old new = (more : List Bytes) × (new ≡ old ++ more)

pub grows : (table ids : List Bytes) → Grows table (added table ids)
grows table [] = ([], sym (append-nil table))
grows table (id ∷ ids) = by (has_id table id) (grows table ids) (grows (table ++ id ∷ []) ids)
  where
    by : (b : Bool) → Grows table (added table ids) → Grows (table ++ id ∷ []) (added (table ++ id ∷ []) ids) → Grows table (added (if b then table else table ++ id ∷ []) ids)
    by true g h = g
    by false g h = (id ∷ h.0, h.1 ∙ append_assoc table (id ∷ []) h.0)

or-false : (b : Bool) → (b || false) ≡ b
or-false true = refl
or-false false = refl

regroup : (b c d : Bool) → ((b || (c || false)) || d) ≡ (b || (c || d))
regroup true c d = refl
regroup false true d = refl
regroup false false d = refl

-- an id that is there already adds nothing
there : (table : List Bytes) (x id : Bytes) (d : Bool) → has_id table x ≡ true → (has_id table id || d) ≡ (has_id table id || (bytes_eq id x || d))
there table x id d h = by (bytes_eq id x) refl
  where
    by : (b : Bool) → bytes_eq id x ≡ b → (has_id table id || d) ≡ (has_id table id || (b || d))
    by true e = let k : has_id table id ≡ true = ap (has_id table) (same_id id x e) ∙ h in rw k refl
    by false e = refl

pub has_id-added : (table ids : List Bytes) (id : Bytes) → has_id (added table ids) id ≡ (has_id table id || has_id ids id)
has_id-added table [] id = sym (or-false (has_id table id))
has_id-added table (x ∷ xs) id = by (has_id table x) refl (has_id-added table xs id) (has_id-added (table ++ x ∷ []) xs id)
  where
    by : (b : Bool) → has_id table x ≡ b → has_id (added table xs) id ≡ (has_id table id || has_id xs id) → has_id (added (table ++ x ∷ []) xs) id ≡ (has_id (table ++ x ∷ []) id || has_id xs id)
        → has_id (added (if b then table else table ++ x ∷ []) xs) id ≡ (has_id table id || (bytes_eq id x || has_id xs id))
    by true h k l = k ∙ there table x id (has_id xs id) h
    by false h k l = l ∙ ap (λ b. b || has_id xs id) (list_any-append (bytes_eq id) table (x ∷ [])) ∙ regroup (has_id table id) (bytes_eq id x) (has_id xs id)

-- a table has the ids that were added to none
pub has_added : (ids : List Bytes) (id : Bytes) → has_id (added [] ids) id ≡ has_id ids id
has_added ids id = has_id-added [] ids id

-- the first ids of a table are those that were added first
pub first_added : (ids more : List Bytes) → take (length (added [] ids)) (added [] (ids ++ more)) ≡ added [] ids
first_added ids more =
    let t : List Bytes = added [] ids in
    let g : Grows t (added t more) = grows t more in
    ap (take (length t)) (added-append [] ids more ∙ g.1) ∙ take-append-le (length t) t g.0 (omega arith) ∙ take_all (length t) t (omega arith)

-- what stands before, by the first ids of a table
pub has_before : (table ids more : List Bytes) (p : Passed) (id : Bytes) → table ≡ added [] (ids ++ more) → IsPassed ids p → has_id (take p.seen table) id ≡ has_id ids id
has_before table ids more p id t h =
    let first : take p.seen table ≡ added [] ids = ap (λ n. take n table) h.seen ∙ ap (take (length (added [] ids))) t ∙ first_added ids more in
    ap (λ xs. has_id xs id) first ∙ has_added ids id

-- the next id of a table is seen
module _ (before more : List Bytes) (id : Bytes) (table : List Bytes) (seen : ℕ) (t : table ≡ added [] (before ++ id ∷ more)) (s : seen ≡ length (added [] before)) where
  pub next_seen : seen_with table seen id ≡ length (added [] (before ++ id ∷ []))
  next_seen = by (has_id (added [] before) id) refl (t ∙ added-append [] before (id ∷ more)) ∙ sym (ap length (added-append [] before (id ∷ [])))
    where
      first : take seen table ≡ added [] before
      first = ap (λ n. take n table) s ∙ ap (take (length (added [] before))) t ∙ first_added before (id ∷ more)

      by : (b : Bool) → has_id (added [] before) id ≡ b → table ≡ added (if b then added [] before else added [] before ++ id ∷ []) more
          → seen_with table seen id ≡ length (if b then added [] before else added [] before ++ id ∷ [])
      by true e k = let f : has_id (take seen table) id ≡ true = ap (λ xs. has_id xs id) first ∙ e in rw f s
      by false e k =
          let f : has_id (take seen table) id ≡ false = ap (λ xs. has_id xs id) first ∙ e in
          let g : Grows (added [] before ++ id ∷ []) (added (added [] before ++ id ∷ []) more) = grows (added [] before ++ id ∷ []) more in
          let len : length table ≡ length (added [] before) + 1 + length g.0 = omega (arith, ap length (k ∙ g.1), length-append (added [] before ++ id ∷ []) g.0, length-append (added [] before) (id ∷ [])) in
          let long : nat_le (length table) seen ≡ false = grind (arith, nat_tests) in
          rw (f, long) (omega (arith, s, length-append (added [] before) (id ∷ [])))

-- no more registrations, or one more
pub pass_none : (table : List Bytes) (p : Passed) → PassesIds table p p []
pass_none table p = λ before rest t h. subst (λ (ids : List Bytes). IsPassed ids p) (sym (append-nil before)) h

-- one more
pub pass_id : (table : List Bytes) (old new : Passed) (id : Bytes) → new.seen ≡ seen_with table old.seen id → new.count ≡ min (old.count + 1) most → PassesIds table old new (id ∷ [])
pass_id table old new id seen count = λ before rest t h.
    let whole : table ≡ added [] (before ++ id ∷ rest) = t ∙ ap (added []) (append_assoc before (id ∷ []) rest) in
    let long : length (before ++ id ∷ []) ≡ length before + 1 = omega (arith, length-append before (id ∷ [])) in
    record {
      seen = seen ∙ ap (λ n. seen_with table n id) h.seen ∙ next_seen before rest id table (length (added [] before)) whole refl;
      count = count ∙ omega (arith, h.count, long);
    }

-- some, and then others
pub pass_both : (table : List Bytes) (old next new : Passed) (some more : List Bytes) → PassesIds table old next some → PassesIds table next new more → PassesIds table old new (some ++ more)
pass_both table old next new some more one two = λ before rest t h.
    let first : table ≡ added [] ((before ++ some) ++ (more ++ rest)) =
    t ∙ ap (added []) (append_assoc before (some ++ more) rest ∙ ap (λ xs. before ++ xs) (append_assoc some more rest) ∙ sym (append_assoc before some (more ++ rest))) in
    let second : table ≡ added [] (((before ++ some) ++ more) ++ rest) = first ∙ ap (added []) (sym (append_assoc (before ++ some) more rest)) in
    subst (λ (ids : List Bytes). IsPassed ids new) (append_assoc before some more) (two (before ++ some) rest second (one before (more ++ rest) first h))

-- the place of an id, and whether it is one of the first
first_has : (ids : List Bytes) (id : Bytes) (seen : ℕ) → has_id (take seen ids) id ≡ (nat_lt (number_of ids id) seen && has_id ids id)
first_has ids id zero = by (has_id ids id)
  where
    none : nat_lt (number_of ids id) zero ≡ false
    none = grind (arith, nat_tests)

    by : (b : Bool) → false ≡ (nat_lt (number_of ids id) zero && b)
    by b = rw none refl
first_has [] id (suc k) = by (nat_lt (number_of [] id) (suc k))
  where
    by : (b : Bool) → false ≡ (b && false)
    by true = refl
    by false = refl
first_has (x ∷ xs) id (suc k) = by (bytes_eq id x) (first_has xs id k)
  where
    by : (b : Bool) → has_id (take k xs) id ≡ (nat_lt (number_of xs id) k && has_id xs id)
        → (b || has_id (take k xs) id) ≡ (nat_lt (cond (not b) (1 + number_of xs id) 0) (suc k) && (b || has_id xs id))
    by true ih = let z : nat_lt 0 (suc k) ≡ true = grind (arith, nat_tests) in ap (λ b. b && true) (sym z)
    by false ih = ih ∙ ap (λ b. b && has_id xs id) (same (nat_lt (number_of xs id) k) refl)
      where
        same : (b : Bool) → nat_lt (number_of xs id) k ≡ b → b ≡ nat_lt (1 + number_of xs id) (suc k)
        same true h = grind (arith, nat_tests)
        same false h = grind (arith, nat_tests)

pub in_first : (ids : List Bytes) (id : Bytes) (n seen : ℕ) → Some n ≡ position (bytes_eq id) ids → nat_lt n seen ≡ has_id (take seen ids) id
in_first ids id n seen h =
    let f : (has_id ids id ≡ true) × (number_of ids id ≡ n) = found_id ids id n h in
    sym (first_has ids id seen ∙ rw (f.0, f.1) (by (nat_lt n seen)))
  where
    by : (b : Bool) → (b && true) ≡ b
    by true = refl
    by false = refl

pub not_in_first : (ids : List Bytes) (id : Bytes) (seen : ℕ) → None ≡ position (bytes_eq id) ids → false ≡ has_id (take seen ids) id
not_in_first ids id seen h =
    let f : has_id ids id ≡ false = missing_id ids id h in
    sym (first_has ids id seen ∙ rw f (by (nat_lt (number_of ids id) seen)))
  where
    by : (b : Bool) → (b && false) ≡ false
    by true = refl
    by false = refl
