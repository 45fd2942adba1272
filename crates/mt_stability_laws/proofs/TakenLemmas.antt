-- Which options would be taken, in the terms of the programs' choices.
use Rattle.std.proofs.Common.{◌≡◌, ◌≢◌, ◌↔◌, ℕ, ◌<◌, ◌≤◌, Bool, true, false, ◌&&◌, ◌||◌, ◌==◌, length, Option, Some, None, slice_set, IsTrue, IsFalse, refl, ap, sym, ◌∙◌, inl, inr, arith, eq-eqb, ne_eqb, get_or-set_same, get_or-set_other, length-set, if◌then◌else◌}
use mathlib.Core.Path.{fun_ext}
use Rattle.std.proofs.lemmas.Bool.{cases_eq, and_parts, and_from, false_from_ne_true}
use Rattle.std.proofs.lemmas.Bool.Decides.{nat_tests}
use Rattle.mt_terms.specs.Lists.{Set, with_one, until, above}
use Rattle.mt_terms.specs.Market.{Program, program_of}
use Rattle.mt_terms.specs.Matching.{Places, is_program, at, couple_placement, send}
use Rattle.mt_terms.specs.Choice.{choice}
use Rattle.mt_stability_laws.specs.Taken.{taken_out, SingleTaken, PairTaken, SameProgramTaken, FirstAloneTaken, SecondAloneTaken, NeverTwiceAtOne}
use Rattle.mt_stability_laws.proofs.ListLemmas.{count_has, one_higher}
use Rattle.mt_stability_laws.proofs.ChoiceLemmas.{choice_facts}

-- where an applicant is that was moved
pub at-slice_set_same : (places : Places) (a p : ℕ) (place : Option ℕ) → a < length places → at (slice_set places a place) p a ≡ is_program p place
at-slice_set_same places a p place a_in = ap (is_program p) (get_or-set_same places a place None a_in)

-- where the others are when one applicant is moved
pub at-slice_set_other : (places : Places) (a b p : ℕ) (place : Option ℕ) → b ≢ a → at (slice_set places a place) p b ≡ at places p b
at-slice_set_other places a b p place other = ap (is_program p) (get_or-set_other places a b place None other)

-- who is at a program where an applicant was moved, as one test
at_moved : (places : Places) (a p b : ℕ) (place : Option ℕ) → a < length places
    → at (slice_set places a place) p b ≡ (if b == a then is_program p place else at places p b)
at_moved places a p b place a_in = elim (cases_eq b a) [
  | inl same ↦ rw (eq-eqb b a same) (ap (at (slice_set places a place) p) same ∙ at-slice_set_same places a p place a_in)
  | inr other ↦ rw (ne_eqb b a other) (at-slice_set_other places a b p place other)
]

-- the same if two applicants were moved
at_moved_both : (places : Places) (a b p c : ℕ) (s t : Option ℕ) → a < length places → b < length places
    → at (slice_set (slice_set places a s) b t) p c ≡ (if c == b then is_program p t else (if c == a then is_program p s else at places p c))
at_moved_both places a b p c s t a_in b_in =
    at_moved (slice_set places a s) b p c t (rw length-set b_in)
    ∙ ap (λ (r : Bool). if c == b then is_program p t else r) (at_moved places a p c s a_in)

-- an applicant that is sent to a program is there besides who is there already
pub at-slice_set : (places : Places) (a p : ℕ) → a < length places → at (slice_set places a (Some p)) p ≡ with_one (at places p) a
at-slice_set places a p a_in = fun_ext λ b. at_moved places a p b (Some p) a_in ∙ at_sent (b == a) p (at places p b)
  where
    at_sent : (is_a : Bool) (p : ℕ) (was : Bool) → (if is_a then (p == p) else was) ≡ (is_a || was)
    at_sent true p was = eq-eqb p p refl
    at_sent false p was = refl

-- a test beside one that passes
and-true : (b : Bool) → (b && true) ≡ b
and-true true = refl
and-true false = refl

-- a single would be taken if the program chooses it from those there and itself
pub single_taken_lem : SingleTaken
single_taken_lem m places a p a_in = and-true _ ∙ ap (λ (set : Set). choice (program_of m p) set a) (at-slice_set places a p a_in)

-- who is at a program where both members of a couple were taken out
at-taken_out : (places : Places) (a b p c : ℕ) → a < length places → b < length places
    → at (taken_out places a b) p c ≡ (if c == b then false else (if c == a then false else at places p c))
at-taken_out places a b p c a_in b_in = at_moved_both places a b p c None None a_in b_in

-- who is at the first member's program, the couple taken out first, if the second is sent elsewhere
at_first : (places : Places) (a b p : ℕ) (t : Option ℕ) → a < length places → b < length places → a ≢ b → IsFalse (is_program p t)
    → at (send (couple_placement a b (Some p, t)) places) p ≡ with_one (at (taken_out places a b) p) a
at_first places a b p t a_in b_in apart elsewhere = fun_ext λ c.
    at_moved_both places a b p c (Some p) t a_in b_in
    ∙ tests c (at places p c)
    ∙ sym (ap (λ (r : Bool). (c == a) || r) (at-taken_out places a b p c a_in b_in))
  where
    tests : (c : ℕ) (was : Bool)
        → (if c == b then is_program p t else (if c == a then p == p else was)) ≡ ((c == a) || (if c == b then false else (if c == a then false else was)))
    tests c was = rw elsewhere (grind (arith, nat_tests))

-- who is at the second member's program, the couple taken out first, if the first is sent elsewhere
at_second : (places : Places) (a b p : ℕ) (s : Option ℕ) → a < length places → b < length places → IsFalse (is_program p s)
    → at (send (couple_placement a b (s, Some p)) places) p ≡ with_one (at (taken_out places a b) p) b
at_second places a b p s a_in b_in elsewhere = fun_ext λ c.
    at_moved_both places a b p c s (Some p) a_in b_in
    ∙ tests c (at places p c)
    ∙ sym (ap (λ (r : Bool). (c == b) || r) (at-taken_out places a b p c a_in b_in))
  where
    tests : (c : ℕ) (was : Bool)
        → (if c == b then p == p else (if c == a then is_program p s else was)) ≡ ((c == b) || (if c == b then false else (if c == a then false else was)))
    tests c was = rw elsewhere (grind (arith, nat_tests))

-- who is at the program to which both members are sent
at_both : (places : Places) (a b p : ℕ) → a < length places → b < length places
    → at (send (couple_placement a b (Some p, Some p)) places) p ≡ with_one (with_one (at (taken_out places a b) p) a) b
at_both places a b p a_in b_in = fun_ext λ c.
    at_moved_both places a b p c (Some p) (Some p) a_in b_in
    ∙ tests c (at places p c)
    ∙ sym (ap (λ (r : Bool). (c == b) || ((c == a) || r)) (at-taken_out places a b p c a_in b_in))
  where
    tests : (c : ℕ) (was : Bool)
        → (if c == b then p == p else (if c == a then p == p else was)) ≡ ((c == b) || ((c == a) || (if c == b then false else (if c == a then false else was))))
    tests c was = grind (arith, nat_tests)

-- two tests pass together if each does
both_tests : (x y u v : Bool) → x ≡ u → y ≡ v → IsTrue (x && (y && true)) ↔ (IsTrue u × IsTrue v)
both_tests x y u v x_is_u y_is_v =
    rw (x_is_u, y_is_v) ((λ h. let parts = and_parts u (v && true) h in (parts.0, sym (and-true v) ∙ parts.1)), (λ h. and_from u (v && true) h.0 (and-true v ∙ h.1)))

-- a couple would be taken at two programs if each chooses its member, the couple taken out first
pub pair_taken_lem : PairTaken
pair_taken_lem m places a b x y a_in b_in apart other =
    both_tests _ _ _ _
    (ap (λ (set : Set). choice (program_of m x) set a) (at_first places a b x (Some y) a_in b_in apart (ne_eqb y x (λ same. other (sym same)))))
    (ap (λ (set : Set). choice (program_of m y) set b) (at_second places a b y (Some x) a_in b_in (ne_eqb x y other)))

-- a couple would be taken at one program if it chooses both members, the couple taken out first
pub same_program_taken_lem : SameProgramTaken
same_program_taken_lem m places a b x a_in b_in =
    both_tests _ _ _ _
    (ap (λ (set : Set). choice (program_of m x) set a) (at_both places a b x a_in b_in))
    (ap (λ (set : Set). choice (program_of m x) set b) (at_both places a b x a_in b_in))

-- a couple of which one member stays unplaced would be taken if the other one's program chooses it
pub first_alone_taken_lem : FirstAloneTaken
first_alone_taken_lem m places a b x a_in b_in apart =
    and-true _ ∙ ap (λ (set : Set). choice (program_of m x) set a) (at_first places a b x None a_in b_in apart refl)

-- and the same for the other member
pub second_alone_taken_lem : SecondAloneTaken
second_alone_taken_lem m places a b y a_in b_in =
    and-true _ ∙ ap (λ (set : Set). choice (program_of m y) set b) (at_second places a b y None a_in b_in refl)

-- no program with a quota of one or less chooses two
chosen_once : (p : Program) (set : Set) (a b : ℕ) → a ≢ b → p.quota ≤ 1 → IsTrue (choice p set a) → IsTrue (choice p set b) → ⊥
chosen_once p set a b apart small chosen_a chosen_b =
    let first = choice_facts p set a chosen_a in
    let second = choice_facts p set b chosen_b in
    elim (one_higher p.ranking a b apart first.is_listed second.is_listed) [
      | inl b_higher ↦
          let some : 0 < above set p.ranking a = count_has set (until (λ x. x == a) p.ranking) b b_higher second.is_member in
          let few = first.has_few_above in omega arith
      | inr a_higher ↦
          let some : 0 < above set p.ranking b = count_has set (until (λ x. x == b) p.ranking) a a_higher first.is_member in
          let few = second.has_few_above in omega arith
    ]

-- a couple is never taken twice by a program with a quota of one or less
pub never_twice_at_one_lem : NeverTwiceAtOne
never_twice_at_one_lem m places a b x apart small = false_from_ne_true _ (λ taken.
    let set : Set = at (send (couple_placement a b (Some x, Some x)) places) x in
    let parts = and_parts (choice (program_of m x) set a) (choice (program_of m x) set b && true) taken in
    chosen_once (program_of m x) set a b apart small parts.0 (sym (and-true (choice (program_of m x) set b)) ∙ parts.1))
