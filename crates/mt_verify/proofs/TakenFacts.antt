-- A program's choice by ranks, and how many stand above a rank if somebody was moved.
use Rattle.std.proofs.Common.{◌≡◌, ◌≢◌, ℕ, ◌+◌, ◌<◌, ◌≤◌, Bool, true, false, not, ◌==◌, nat_lt, List, [], ◌∷◌, length, take, Option, Some, None, is_some, IsTrue, IsFalse, refl, ap, sym, ◌∙◌, subst, inl, inr, arith, eq-eqb, ne_eqb, if◌then◌else◌, slice_set, get_or-set_same, get_or-set_other, length-set}
use mir.Val.{bool_byte}
use Rattle.std.specs.List.{position}
use Rattle.std.proofs.lemmas.Bool.{cases_Bool, cases_eq, and_parts, or_left, both_ways, false_from_ne_true, not-true}
use Rattle.std.proofs.lemmas.List.{set_comm}
use Rattle.mt_terms.specs.Lists.{Set, has, until, count, is_distinct, with_one}
use Rattle.mt_terms.specs.Market.{Market, Program, program_of}
use Rattle.mt_terms.specs.Matching.{Places, at, is_program, send, couple_placement, single_placement}
use Rattle.mt_terms.specs.Choice.{choice}
use Rattle.mt_terms.specs.Stability.{would_be_taken, is_chosen}
use Rattle.mt_stability_laws.proofs.ListLemmas.{count_agree, count_has, until-itself, above-with_one}
use Rattle.mt_stability_laws.proofs.TakenLemmas.{single_taken_lem}
use Rattle.mt_ranks.proofs.Positions.{has-position}
use Rattle.mt_verify.specs.Moved.{at_moved}
use Rattle.mt_terms.proofs.ListFacts.{until_position, has-from_take}

-- who is of the set, and has this rank, is chosen if fewer than quota of the set stand above that rank
pub choice_ranked : (q : Program) (set : Set) (a k : ℕ) → position (λ x. x == a) q.ranking ≡ Some k → IsTrue (set a)
    → choice q set a ≡ nat_lt (count set (take k q.ranking)) q.quota
choice_ranked q set a k at here =
    let on : IsTrue (has q.ranking a) = has-position q.ranking a ∙ ap is_some at in
    rw (on, here, until_position q.ranking a k at) refl

pub choice_unranked : (q : Program) (set : Set) (a : ℕ) → position (λ x. x == a) q.ranking ≡ None → choice q set a ≡ false
choice_unranked q set a none =
    let off : IsFalse (has q.ranking a) = has-position q.ranking a ∙ ap is_some none in
    rw off refl

pub not_on_front : (xs : List ℕ) (b r : ℕ) → position (λ x. x == b) xs ≡ None → IsFalse (has (take r xs) b)
not_on_front xs b r none =
    false_from_ne_true _ (λ on. both_ways _ (has-position xs b ∙ ap is_some none) (has-from_take xs r b on))

-- one or none, by a test
abbrev pub one_if : Bool → ℕ
one_if b = if b then 1 else 0

pub one_if-from_byte : (b : Bool) → bool_byte b ≡ one_if b
one_if-from_byte true = refl
one_if-from_byte false = refl

pub one_if_le : (b : Bool) → one_if b ≤ 1
one_if_le true = omega arith
one_if_le false = omega arith

-- Two sets that agree but for one number.
module _ (s t : Set) (b : ℕ) (agree : (c : ℕ) → c ≢ b → s c ≡ t c) where
  -- count the same if it isn't
  count_without : (xs : List ℕ) → IsFalse (has xs b) → count s xs ≡ count t xs
  count_without xs off =
      count_agree s t xs (λ c on. agree c (λ same. both_ways _ off (subst (λ (x : ℕ). IsTrue (has xs x)) same on)))

  -- and differ by it if it is, once
  count_with : (xs : List ℕ) → IsTrue (is_distinct xs) → IsTrue (has xs b) → count s xs + one_if (t b) ≡ count t xs + one_if (s b)
  count_with [] distinct on = absurd (both_ways false refl on)
  count_with (x ∷ xs) distinct on =
      let parts = and_parts (not (has xs x)) (is_distinct xs) distinct in
      elim (cases_eq x b) [
        | inl same ↦
            let off : IsFalse (has xs b) = subst (λ (y : ℕ). IsFalse (has xs y)) same (not-true _ parts.0) in
            let rest = count_without xs off in
            rw same (omega arith)
        | inr other ↦
            let later : IsTrue (has xs b) = rw (ne_eqb x b other) at on in
            let rest = count_with xs parts.1 later in
            rw (agree x other) (omega arith)
      ]

-- those at a program if somebody was moved, and those there now, agree but for that one
moved_others : (places : Places) (a p : ℕ) (place : Option ℕ) → (c : ℕ) → c ≢ a → at_moved places a place p c ≡ at places p c
moved_others places a p place c other = rw (ne_eqb c a other) refl

moved_itself : (places : Places) (a p : ℕ) (place : Option ℕ) → at_moved places a place p a ≡ is_program p place
moved_itself places a p place = rw (eq-eqb a a refl) refl

-- so if it stands on a front of the program's list, it counts there where it was moved to, and no more
-- where it was
pub count_moved : (places : Places) (a p : ℕ) (place : Option ℕ) (front : List ℕ) → IsTrue (is_distinct front) → IsTrue (has front a)
    → count (at_moved places a place p) front + one_if (at places p a) ≡ count (at places p) front + one_if (is_program p place)
count_moved places a p place front distinct on =
    count_with (at_moved places a place p) (at places p) a (moved_others places a p place) front distinct on
    ∙ ap (λ (b : Bool). count (at places p) front + one_if b) (moved_itself places a p place)

pub count_unmoved : (places : Places) (a p : ℕ) (place : Option ℕ) (front : List ℕ) → IsFalse (has front a)
    → count (at_moved places a place p) front ≡ count (at places p) front
count_unmoved places a p place front off = count_without (at_moved places a place p) (at places p) a (moved_others places a p place) front off

pub one_counts : (set : Set) (front : List ℕ) (a : ℕ) → IsTrue (has front a) → one_if (set a) ≤ count set front
one_counts set front a on = elim (cases_Bool (set a)) [
  | inl here ↦ rw here (count_has set front a on here)
  | inr other ↦ rw other (omega arith)
]

-- a single would be taken if fewer than quota of those there stand above it
pub single_taken_ranked : (m : Market) (places : Places) (a p k : ℕ) → a < length places → position (λ x. x == a) (program_of m p).ranking ≡ Some k
    → would_be_taken m places (single_placement a p) ≡ nat_lt (count (at places p) (take k (program_of m p).ranking)) (program_of m p).quota
single_taken_ranked m places a p k a_in is_at =
    let q = program_of m p in
    single_taken_lem m places a p a_in
    ∙ choice_ranked q (with_one (at places p) a) a k is_at (or_left (a == a) (at places p a) (eq-eqb a a refl))
    ∙ ap (λ (n : ℕ). nat_lt n q.quota)
    (ap (count (with_one (at places p) a)) (sym (until_position q.ranking a k is_at)) ∙ above-with_one (at places p) q.ranking a ∙ ap (count (at places p)) (until_position q.ranking a k is_at))

pub single_not_taken : (m : Market) (places : Places) (a p : ℕ) → a < length places → position (λ x. x == a) (program_of m p).ranking ≡ None
    → would_be_taken m places (single_placement a p) ≡ false
single_not_taken m places a p a_in none = single_taken_lem m places a p a_in ∙ choice_unranked (program_of m p) (with_one (at places p) a) a none

-- Below, a member goes to a program, and its partner to a place.
module _ (places : Places) (a b p : ℕ) (t : Option ℕ) (a_in : a < length places) (b_in : b < length places) (apart : a ≢ b) where
  -- the member is there
  member_there : IsTrue (at (send (couple_placement a b (Some p, t)) places) p a)
  member_there =
      ap (is_program p) (get_or-set_other (slice_set places a (Some p)) b a t None apart ∙ get_or-set_same places a (Some p) None a_in) ∙ eq-eqb p p refl

  -- and of the others just those who would be there with the partner moved
  pub others_there : (c : ℕ) → c ≢ a → at (send (couple_placement a b (Some p, t)) places) p c ≡ at_moved places b t p c
  others_there c other = elim (cases_eq c b) [
    | inl same ↦
        let room : b < length (slice_set places a (Some p)) = rw length-set b_in in
        rw (eq-eqb c b same) (ap (λ (k : ℕ). at (send (couple_placement a b (Some p, t)) places) p k) same ∙ ap (is_program p) (get_or-set_same (slice_set places a (Some p)) b t None room))
    | inr apart_too ↦
        rw (ne_eqb c b apart_too)
        (ap (is_program p) (get_or-set_other (slice_set places a (Some p)) b c t None apart_too ∙ get_or-set_other places a c (Some p) None other))
  ]

  -- so it is chosen if fewer than quota of those stand above it
  pub member_ranked : (m : Market) (k : ℕ) → position (λ x. x == a) (program_of m p).ranking ≡ Some k
      → is_chosen m (send (couple_placement a b (Some p, t)) places) a (Some p) ≡ nat_lt (count (at_moved places b t p) (take k (program_of m p).ranking)) (program_of m p).quota
  member_ranked m k is_at =
      let q = program_of m p in
      let set : Set = at (send (couple_placement a b (Some p, t)) places) p in
      let same : count set (until (λ x. x == a) q.ranking) ≡ count (at_moved places b t p) (until (λ x. x == a) q.ranking) =
      count_agree set (at_moved places b t p) (until (λ x. x == a) q.ranking)
      (λ c higher. others_there c (λ is_a. both_ways _ (until-itself q.ranking a) (subst (λ (x : ℕ). IsTrue (has (until (λ y. y == a) q.ranking) x)) is_a higher))) in
      choice_ranked q set a k is_at member_there
      ∙ ap (λ (n : ℕ). nat_lt n q.quota)
      (ap (count set) (sym (until_position q.ranking a k is_at)) ∙ same ∙ ap (count (at_moved places b t p)) (until_position q.ranking a k is_at))

-- both members are sent at once
pub send_both : (places : Places) (a b : ℕ) (s t : Option ℕ) → a ≢ b → send (couple_placement b a (t, s)) places ≡ send (couple_placement a b (s, t)) places
send_both places a b s t apart = set_comm places b a t s (λ same. apart (sym same))
