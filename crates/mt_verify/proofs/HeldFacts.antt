-- A search along an agent's list finds the option that it has, and the options before it are the better ones. If it
-- finds none, all options are better.
use Rattle.std.proofs.Common.{◌≡◌, ℕ, ◌<◌, ◌≤◌, Bool, ◌&&◌, ◌==◌, List, [], ◌∷◌, length, Option, Some, None, refl, ap, sym, ◌∙◌, inl, inr, arith}
use Rattle.std.specs.List.{position, position_or_len}
use Rattle.std.specs.Option.{option_eq}
use mathlib.Core.Path.{fun_ext}
use Rattle.std.proofs.lemmas.Bool.{cases_Bool, cases_lt, le-ltb, lt-ltb}
use Rattle.mt_terms.specs.Lists.{until}
use Rattle.mt_terms.specs.Market.{Market, Pair, couple_of, list_of}
use Rattle.mt_terms.specs.Matching.{Places, better, couple_placement, holds, options, place_of, single_placement}
use Rattle.mt_terms.specs.declared.numbers.Agent.{Agent}
use Rattle.mt_terms.specs.declared.numbers.Agent.TheVariants.{Couple, Single}
use Rattle.mt_terms.proofs.ListFacts.{until-le}
use Rattle.mt_verify.specs.Held.{held_option}
use Rattle.mt_verify.proofs.BlockingFacts.{holds_pair, holds_program}
use Rattle.mt_verify.proofs.FindFacts.{position-map}

-- a list is as long before the first element that passes as its place says
length-until : {X : Type 0} (test : X → Bool) (xs : List X) → length (until test xs) ≡ position_or_len test xs
length-until test [] = refl
length-until test (x ∷ xs) = elim (cases_Bool (test x)) [
  | inl here ↦ rw here refl
  | inr other ↦ rw other (let rest = length-until test xs in omega arith)
]

pub until_found : {X : Type 0} (test : X → Bool) (xs : List X) (k : ℕ) → position test xs ≡ Some k → length (until test xs) ≡ k
until_found test xs k found = elim (cases_lt (position_or_len test xs) (length xs)) [
  | inl low ↦
      let is : Some (position_or_len test xs) ≡ Some k = rw (lt-ltb (position_or_len test xs) (length xs) low) at found in
      let same : position_or_len test xs ≡ k = cc in
      length-until test xs ∙ same
  | inr high ↦
      let is : None ≡ Some k = rw (le-ltb (position_or_len test xs) (length xs) high) at found in
      absurd (cc)
]

pub until_not_found : {X : Type 0} (test : X → Bool) (xs : List X) → position test xs ≡ None → length (until test xs) ≡ length xs
until_not_found test xs none = elim (cases_lt (position_or_len test xs) (length xs)) [
  | inl low ↦
      let is : Some (position_or_len test xs) ≡ None = rw (lt-ltb (position_or_len test xs) (length xs) low) at none in
      absurd (cc)
  | inr high ↦
      let all = length-until test xs in
      let room : length (until test xs) ≤ length xs = until-le test xs in
      omega arith
]

-- as many options are better as are before the one that the agent has, or all of them
pub better_before : (m : Market) (places : Places) (g : Agent) (k : ℕ) → held_option m places g ≡ Some k → length (better m places g) ≡ k
better_before m places g k held = until_found (holds places) (options m g) k held

pub better_all : (m : Market) (places : Places) (g : Agent) → held_option m places g ≡ None → length (better m places g) ≡ length (options m g)
better_all m places g none = until_not_found (holds places) (options m g) none

-- what a search finds is on the list
pub found_within : {X : Type 0} (test : X → Bool) (xs : List X) (k : ℕ) → position test xs ≡ Some k → k < length xs
found_within test xs k found = elim (cases_lt (position_or_len test xs) (length xs)) [
  | inl low ↦
      let is : Some (position_or_len test xs) ≡ Some k = rw (lt-ltb (position_or_len test xs) (length xs) low) at found in
      let same : position_or_len test xs ≡ k = cc in
      omega arith
  | inr high ↦
      let is : None ≡ Some k = rw (le-ltb (position_or_len test xs) (length xs) high) at found in
      absurd (cc)
]

-- Below, the places of a single, or of a couple's members, were read.
-- a search for the single's place along its list finds the option that it has
pub held_single : (m : Market) (places : Places) (a : ℕ) (place : Option ℕ) → place ≡ place_of places a
    → position (λ p. option_eq ◌==◌ place (Some p)) (list_of m a) ≡ held_option m places (Single a)
held_single m places a place read =
    ap (λ (test : ℕ → Bool). position test (list_of m a)) (fun_ext λ p. sym (holds_program places a p place read))
    ∙ sym (position-map (holds places) (single_placement a) (list_of m a))

-- and for a couple's two places
pub held_couple : (m : Market) (places : Places) (c : ℕ) (first second : Option ℕ)
    → first ≡ place_of places (couple_of m c).first → second ≡ place_of places (couple_of m c).second
    → position (λ (pair : Pair). option_eq ◌==◌ first pair.0 && option_eq ◌==◌ second pair.1) (couple_of m c).pairs ≡ held_option m places (Couple c)
held_couple m places c first second first_read second_read =
    let couple = couple_of m c in
    ap (λ (test : Pair → Bool). position test couple.pairs)
    (fun_ext λ pair. sym (holds_pair places couple.first couple.second pair first second first_read second_read))
    ∙ sym (position-map (holds places) (couple_placement couple.first couple.second) couple.pairs)
