-- What a better option is that an agent has at a program.
use Rattle.std.proofs.Common.{◌≡◌, ◌∙◌, ℕ, true, false, ◌&&◌, ◌||◌, ◌==◌, List, [], ◌∷◌, Option, Some, None, refl, ap, sym, subst, inl, inr}
use Rattle.std.proofs.lemmas.Bool.{and_parts, and_from, or_cases, or_left, or_right, eq-eqb, eqb-true, false≢true}
use Rattle.std.proofs.Math.Bool.{or-false}
use Rattle.mt_terms.specs.Lists.{has}
use Rattle.mt_terms.specs.Market.{Pair, couple_of, program_of}
use Rattle.mt_terms.specs.Matching.{Placement, is_program, at, better, send, single_placement, couple_placement}
use Rattle.mt_terms.specs.Stability.{is_chosen, would_be_taken}
use Rattle.mt_terms.specs.declared.numbers.Agent.{Agent}
use Rattle.mt_terms.specs.declared.numbers.Agent.TheVariants.{Single, Couple}
use Rattle.mt_stability_laws.proofs.ChoiceLemmas.{choice_facts}
use Rattle.mt_round_laws.proofs.RoundsLists.{In, found, each, in_has, of_image}
use Rattle.mt_assignment.specs.Assigned.{pair_of, Assigned}
use Rattle.mt_assignment.specs.Moves.{names_one_of, opens, some_has}
use Rattle.mt_assignment.specs.Watched.{better_pairs, wanted}
use Rattle.mt_stage_tables.specs.Named.{names}
use Rattle.mt_assignment.proofs.LiveFacts.{better_single, better_couple}

-- one of a single program is that program
of_one : (p : ℕ) (v : Option ℕ) → some_has (p ∷ []) v ≡ true → v ≡ Some p
of_one p None h = absurd (false≢true h)
of_one p (Some q) h = ap Some (sym (eqb-true p q (sym (or-false (p == q)) ∙ h)))

-- A better option of an agent, at a program, that would be taken.
pub record IsOpen (s : Assigned) (p : ℕ) (g : Agent) : Type 0 where
  option : Placement
  is_better : In option (better s.market s.places g)
  at_program : names_one_of (p ∷ []) option ≡ true
  taken : would_be_taken s.market s.places option ≡ true

pub open_at : (s : Assigned) (p : ℕ) (g : Agent) → opens s (p ∷ []) g ≡ true → IsOpen s p g
open_at s p g h =
    let o = found (λ o. names_one_of (p ∷ []) o && would_be_taken s.market s.places o) (better s.market s.places g) h in
    let parts = and_parts (names_one_of (p ∷ []) o.0) (would_be_taken s.market s.places o.0) o.2 in
    record { option = o.0; is_better = o.1; at_program = parts.0; taken = parts.1 }

-- a single's is a program that it wants more than what it has, and that lists it
pub open_single : (s : Assigned) (p a : ℕ) → IsOpen s p (Single a) → (has (wanted s a) p ≡ true) × (has (program_of s.market p).ranking a ≡ true)
open_single s p a o =
    let m = s.market in
    let w = of_image (single_placement a) o.option (wanted s a) (subst (λ (xs : List Placement). In o.option xs) (better_single s a) o.is_better) in
    let q = w.0 in
    let here : some_has (p ∷ []) (Some q) ≡ true = sym (or-false (some_has (p ∷ []) (Some q))) ∙ subst (λ x. names_one_of (p ∷ []) x ≡ true) (sym w.2) o.at_program in
    let same : p ≡ q = eqb-true p q (sym (or-false (p == q)) ∙ here) in
    let taken : would_be_taken m s.places (single_placement a q) ≡ true = subst (λ x. would_be_taken m s.places x ≡ true) (sym w.2) o.taken in
    let chosen = each (λ (x : ℕ × Option ℕ). is_chosen m (send (single_placement a q) s.places) x.0 x.1) (a, Some q) (single_placement a q) taken (inl refl) in
    let listed = (choice_facts (program_of m q) (at (send (single_placement a q) s.places) q) a chosen).is_listed in
    (subst (λ x. has (wanted s a) x ≡ true) (sym same) (in_has q (wanted s a) w.1), subst (λ x. has (program_of m x).ranking a ≡ true) (sym same) listed)

-- a couple's is a pair that names the program
pub open_couple : (s : Assigned) (p c : ℕ) → IsOpen s p (Couple c)
    → (pair : Pair) × In pair (better_pairs s c) × ((names p pair && would_be_taken s.market s.places (pair_of s c pair)) ≡ true)
open_couple s p c o =
    let couple = couple_of s.market c in
    let w = of_image (couple_placement couple.first couple.second) o.option (better_pairs s c) (subst (In o.option) (better_couple s c) o.is_better) in
    let named : (some_has (p ∷ []) w.0.0 || (some_has (p ∷ []) w.0.1 || false)) ≡ true = subst (λ x. names_one_of (p ∷ []) x ≡ true) (sym w.2) o.at_program in
    let at_p : names p w.0 ≡ true = elim (or_cases (some_has (p ∷ []) w.0.0) (some_has (p ∷ []) w.0.1 || false) named) [
      | inl first ↦ or_left (is_program p w.0.0) (is_program p w.0.1) (ap (is_program p) (of_one p w.0.0 first) ∙ eq-eqb p p refl)
      | inr second ↦ or_right (is_program p w.0.0) (is_program p w.0.1)
          (ap (is_program p) (of_one p w.0.1 (sym (or-false (some_has (p ∷ []) w.0.1)) ∙ second)) ∙ eq-eqb p p refl)
    ] in
    (w.0, w.1, and_from _ _ at_p (subst (λ x. would_be_taken s.market s.places x ≡ true) (sym w.2) o.taken))
