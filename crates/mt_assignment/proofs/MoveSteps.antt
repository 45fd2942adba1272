-- One step of what a move does to a match, and to the programs that are left.
use Rattle.std.proofs.Common.{◌≡◌, ℕ, zero, suc, ◌+◌, ◌<◌, arith, Bool, true, false, not, ◌&&◌, ◌||◌, ◌==◌, List, [], ◌∷◌, drop, length, get_or, Option, Some, None, refl, ap, sym, ◌∙◌, subst, inl, inr}
use Rattle.std.specs.List.{list_any}
use Rattle.std.proofs.lemmas.List.{drop_more, set-set}
use Rattle.mt_terms.specs.Lists.{has}
use Rattle.mt_terms.specs.Market.{Market, program_of}
use Rattle.mt_terms.specs.Matching.{Places, Placement, place_of, at, is_program, send}
use Rattle.mt_terms.specs.Choice.{choice}
use Rattle.std.specs.Option.{option_eq}
use Rattle.mt_terms.proofs.AgentFacts.{is_program_read}
use Rattle.mt_terms.specs.Rounds.{programs_sent_to}
use Rattle.std.proofs.lemmas.Bool.{or_left, or_right, eq-eqb, eqb-true, cases_Bool, and_from, and_left, and_right, not_from_false, not_from_true}
use Rattle.mt_assignment.specs.Assigned.{Assigned, with_place, with_places}
use Rattle.std.proofs.Math.Bool.{or_assoc, or-false}
use Rattle.mt_assignment.specs.Moves.{is_kept_at}

-- An assignment on the way from one match to another: the market is the same, and what is left of the way
-- leads there.
pub record IsOnTheWay (start now : Assigned) (rest : Places → Places) (goal : Places) : Type 0 where
  pub market : now.market ≡ start.market
  pub leads : rest now.places ≡ goal

-- one that is sent to its place, out of those that are still to come
pub sent_one : (start now new : Assigned) (sent : Placement) (i : ℕ) (s : ℕ × Option ℕ) (goal : Places) → i < length sent → s ≡ get_or sent i s → new ≡ with_place now s.0 s.1
    → IsOnTheWay start now (send (drop i sent)) goal → IsOnTheWay start new (send (drop (i + 1) sent)) goal
sent_one start now new sent i s goal within read is so_far =
    let split : drop i sent ≡ s ∷ drop (i + 1) sent = drop_more sent i s within ∙ ap (λ x. x ∷ drop (i + 1) sent) (sym read) in
    record {
      market = ap (λ (x : Assigned). x.market) is ∙ so_far.market;
      leads = ap (λ (x : Assigned). send (drop (i + 1) sent) x.places) is ∙ ap (λ xs. send xs now.places) (sym split) ∙ so_far.leads;
    }

-- one that is unplaced first
pub placed_twice : (now out new : Assigned) (a : ℕ) (place : Option ℕ) → out ≡ with_place now a None → new ≡ with_place out a place → new ≡ with_place now a place
placed_twice now out new a place first then = then ∙ ap (λ x. with_place x a place) first ∙ ap (with_places now) (set-set now.places a None place)

-- Programs on the way to a set: with those that are still to come they are the set.
abbrev pub AreOnTheWay : List ℕ → (ℕ → Bool) → (ℕ → Bool) → Type 0
AreOnTheWay now rest goal = (p : ℕ) → (has now p || rest p) ≡ goal p

-- a program that somebody is sent to
pub program_sent_to : (sent : Placement) (i : ℕ) (s : ℕ × Option ℕ) (p : ℕ) → i < length sent → s ≡ get_or sent i s → s.1 ≡ Some p → has (programs_sent_to sent) p ≡ true
program_sent_to [] i s p within read is = absurd (omega arith)
program_sent_to (t ∷ sent) zero s p within read is =
    let there : t.1 ≡ Some p = ap (λ x. x.1) (sym read) ∙ is in rw there (or_left (p == p) _ (eq-eqb p p refl))
program_sent_to (t ∷ sent) (suc i) s p within read is = later t.1 (program_sent_to sent i s p (omega arith) read is)
  where
    later : (place : Option ℕ) → has (programs_sent_to sent) p ≡ true → has (programs_sent_to ((t.0, place) ∷ sent)) p ≡ true
    later None h = h
    later (Some q) h = or_right (q == p) _ h

-- if an applicant is at a program that chooses it, that is the one program where it is kept
pub kept_there : (m : Market) (places : Places) (a q p : ℕ) → Some q ≡ place_of places a → choice (program_of m q) (at places q) a ≡ true → (q == p) ≡ is_kept_at m places p a
kept_there m places a q p there chosen =
    let here : at places p a ≡ (q == p) = ap (is_program p) (sym there) in
    elim (cases_Bool (q == p)) [
      | inl same ↦
          let is : q ≡ p = eqb-true q p same in
          let at_p : choice (program_of m p) (at places p) a ≡ true = subst (λ x. choice (program_of m x) (at places x) a ≡ true) is chosen in
          same ∙ sym (and_from _ _ (here ∙ same) at_p)
      | inr other ↦ other ∙ sym (and_left _ _ (here ∙ other))
    ]

-- where an applicant is that is sent elsewhere, and where it is not
pub left_there : (places : Places) (s : ℕ × Option ℕ) (q p : ℕ) → Some q ≡ place_of places s.0 → option_eq ◌==◌ s.1 (Some q) ≡ false
    → (q == p) ≡ (at places p s.0 && not (is_program p s.1))
left_there places s q p there elsewhere =
    let here : at places p s.0 ≡ (q == p) = ap (is_program p) (sym there) in
    elim (cases_Bool (q == p)) [
      | inl same ↦
          let is : q ≡ p = eqb-true q p same in
          let off : is_program p s.1 ≡ false = sym (is_program_read p s.1) ∙ ap (λ x. option_eq ◌==◌ s.1 (Some x)) (sym is) ∙ elsewhere in
          same ∙ sym (and_from _ _ (here ∙ same) (not_from_false _ off))
      | inr other ↦ other ∙ sym (and_left _ _ (here ∙ other))
    ]

pub stays_there : (places : Places) (s : ℕ × Option ℕ) (q p : ℕ) → Some q ≡ place_of places s.0 → option_eq ◌==◌ s.1 (Some q) ≡ true
    → (at places p s.0 && not (is_program p s.1)) ≡ false
stays_there places s q p there same_place =
    let here : at places p s.0 ≡ (q == p) = ap (is_program p) (sym there) in
    elim (cases_Bool (q == p)) [
      | inl same ↦
          let is : q ≡ p = eqb-true q p same in
          let on : is_program p s.1 ≡ true = sym (is_program_read p s.1) ∙ ap (λ x. option_eq ◌==◌ s.1 (Some x)) (sym is) ∙ same_place in
          and_right _ _ (not_from_true _ on)
      | inr other ↦ and_left _ _ (here ∙ other)
    ]

pub unplaced_there : (places : Places) (s : ℕ × Option ℕ) (p : ℕ) → None ≡ place_of places s.0 → (at places p s.0 && not (is_program p s.1)) ≡ false
unplaced_there places s p there = and_left _ _ (ap (is_program p) (sym there))

pub no_more : (a b : Bool) → b ≡ false → a ≡ (a || b)
no_more a b none = sym (ap (λ (x : Bool). a || x) none ∙ or-false a)

-- one of those that are sent, out of those that are still to come
pub next_seat : (test : ℕ × Option ℕ → Bool) (sent : Placement) (i : ℕ) (s : ℕ × Option ℕ) (now new goal : Bool) → i < length sent → s ≡ get_or sent i s
    → (now || list_any test (drop i sent)) ≡ goal → new ≡ (now || test s) → (new || list_any test (drop (i + 1) sent)) ≡ goal
next_seat test sent i s now new goal within read so_far is =
    let split : list_any test (drop i sent) ≡ (test s || list_any test (drop (i + 1) sent)) =
    ap (list_any test) (drop_more sent i s within) ∙ ap (λ x. test x || list_any test (drop (i + 1) sent)) (sym read) in
    ap (λ b. b || list_any test (drop (i + 1) sent)) is ∙ or_assoc now (test s) (list_any test (drop (i + 1) sent)) ∙ ap (λ b. now || b) (sym split) ∙ so_far
