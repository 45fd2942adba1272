-- How many of a list are at a program once some applicants are sent elsewhere.
use Rattle.std.proofs.Common.{◌≡◌, ◌≢◌, ℕ, zero, suc, ◌+◌, ◌<◌, Bool, true, false, not, ◌&&◌, ◌==◌, List, [], ◌∷◌, length, Option, refl, ap, sym, ◌∙◌, inl, inr, arith, subst, slice_set, length-set, eq-eqb, eqb-true, if◌then◌else◌, ap₂, get_or, Contains}
use Rattle.std.proofs.lemmas.Bool.{cases_Bool, and_parts, or_parts, or_left, or_right, and_right, not-true, both_ways}
use Rattle.mt_terms.specs.Lists.{Set, has, count, is_distinct}
use Rattle.mt_terms.specs.Matching.{Places, Placement, is_program, at, send}
use Rattle.mt_stability_laws.proofs.ListLemmas.{count_agree}
use Rattle.mt_stability_laws.proofs.TakenLemmas.{at-slice_set_same, at-slice_set_other}
use Rattle.mt_round_laws.proofs.RoundsLists.{In}
use Rattle.mt_round_laws.proofs.RoundsPlaces.{movers}

-- one for a test that passes
abbrev pub one : Bool → ℕ
one b = if b then 1 else 0

-- a set that differs from another one at one number alone
record DiffersAt (s t : Set) (a : ℕ) : Type 0 where
  others : (b : ℕ) → b ≢ a → t b ≡ s b

not_on : (xs : List ℕ) (a b : ℕ) → has xs a ≡ false → has xs b ≡ true → b ≢ a
not_on xs a b off on same = both_ways (has xs b) (subst (λ x. has xs x ≡ false) (sym same) off) on

-- such a set counts as many of a list but for that number
count_differs : (s t : Set) (a : ℕ) (xs : List ℕ) → DiffersAt s t a → is_distinct xs ≡ true
    → count t xs + one (s a && has xs a) ≡ count s xs + one (t a && has xs a)
count_differs s t a [] h distinct = rw (and_right (s a) false refl, and_right (t a) false refl) refl
count_differs s t a (x ∷ xs) h distinct =
    let parts = and_parts (not (has xs x)) (is_distinct xs) distinct in
    elim (cases_Bool (x == a)) [
      | inl same ↦
          let is : x ≡ a = eqb-true x a same in
          let off : has xs a ≡ false = subst (λ y. has xs y ≡ false) is (not-true _ parts.0) in
          let rest : count t xs ≡ count s xs = count_agree t s xs (λ b on. h.others b (not_on xs a b off on)) in
          rw (is, eq-eqb a a refl) (here (s a) (t a) (count s xs) (count t xs) rest)
      | inr other ↦
          let head : t x ≡ s x = h.others x (λ is. both_ways (x == a) other (eq-eqb x a is)) in
          let rest = count_differs s t a xs h parts.1 in
          rw (other, head) (omega arith)
    ]
  where
    here : (u v : Bool) (m n : ℕ) → n ≡ m → (one v + n) + one (u && true) ≡ (one u + m) + one (v && true)
    here true true m n e = omega arith
    here true false m n e = omega arith
    here false true m n e = omega arith
    here false false m n e = omega arith

-- Below, L is a list of applicants. Of those that are sent somewhere: who leaves a program's part of the list,
-- and who comes to it.
abbrev pub leaves : Places → ℕ → List ℕ → ℕ × Option ℕ → Bool
leaves places p L s = at places p s.0 && has L s.0

abbrev pub comes : ℕ → List ℕ → ℕ × Option ℕ → Bool
comes p L s = is_program p s.1 && has L s.0

-- sending one leaves the others' places
leaves_same : (places : Places) (p : ℕ) (L : List ℕ) (a : ℕ) (v : Option ℕ) (sent : Placement) → has (movers sent) a ≡ false
    → count (leaves (slice_set places a v) p L) sent ≡ count (leaves places p L) sent
leaves_same places p L a v [] off = refl
leaves_same places p L a v (s ∷ sent) off =
    let parts = or_parts (s.0 == a) (has (movers sent) a) off in
    let there : at (slice_set places a v) p s.0 ≡ at places p s.0 =
    at-slice_set_other places a s.0 p v (λ is. both_ways (s.0 == a) parts.0 (eq-eqb s.0 a is)) in
    ap₂ (λ (b : Bool) n. one (b && has L s.0) + n) there (leaves_same places p L a v sent parts.1)

-- how many of the list are at a program once everybody is sent
pub count_sent : (places : Places) (p : ℕ) (L : List ℕ) (sent : Placement) → is_distinct L ≡ true → is_distinct (movers sent) ≡ true
    → ((a : ℕ) → has (movers sent) a ≡ true → a < length places)
    → count (at (send sent places) p) L + count (leaves places p L) sent ≡ count (at places p) L + count (comes p L) sent
count_sent places p L [] once distinct within = refl
count_sent places p L (s ∷ sent) once distinct within =
    let parts = and_parts (not (has (movers sent) s.0)) (is_distinct (movers sent)) distinct in
    let moved = slice_set places s.0 s.1 in
    let s_in = within s.0 (or_left (s.0 == s.0) (has (movers sent) s.0) (eq-eqb s.0 s.0 refl)) in
    let rest = count_sent moved p L sent once parts.1 (λ a on. rw (length-set places s.0 s.1) (within a (or_right (s.0 == a) (has (movers sent) a) on))) in
    let same = leaves_same places p L s.0 s.1 sent (not-true _ parts.0) in
    let step = count_differs (at places p) (at moved p) s.0 L (record { others = λ b other. at-slice_set_other places s.0 b p s.1 other }) once in
    let here : at moved p s.0 ≡ is_program p s.1 = at-slice_set_same places s.0 p s.1 s_in in
    let step' : count (at moved p) L + one (at places p s.0 && has L s.0) ≡ count (at places p) L + one (is_program p s.1 && has L s.0) =
    step ∙ ap (λ (b : Bool). count (at places p) L + one (b && has L s.0)) here in
    omega arith

-- what stands at a place of a list is on it
pub in_read : {X : Type 0} (xs : List X) (i : ℕ) (x : X) → i < length xs → x ≡ get_or xs i x → In x xs
in_read [] i x within read = absurd (omega arith)
in_read (y ∷ ys) zero x within read = inl (sym read)
in_read (y ∷ ys) (suc i) x within read = inr (in_read ys i x (omega arith) read)

-- an element of a list is on it
pub in_list : {X : Type 0} (xs : List X) (x : X) → Contains xs x → In x xs
in_list xs x h = in_read xs h.0 x h.1 (sym h.2)
