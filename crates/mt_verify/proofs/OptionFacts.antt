-- Options of singles and of couples, in the terms of their lists.
use Rattle.std.proofs.Common.{◌≡◌, ℕ, Bool, true, false, not, ◌&&◌, ◌||◌, is_some, ◌<◌, min, length, refl, ap, sym, ◌∙◌, eq-eqb, inl, inr, arith}
use Rattle.std.specs.List.{list_any}
use mathlib.Core.Path.{fun_ext}
use Rattle.mt_terms.specs.Market.{Market, Pair, list_of, couple_of, agent_of}
use Rattle.mt_terms.specs.Matching.{Places, place_of, is_program, is_same_place, holds, single_placement, couple_placement}
use Rattle.mt_terms.specs.Stability.{has_own_option}
use Rattle.mt_terms.specs.declared.numbers.Agent.TheVariants.{Single, Couple}
use Rattle.mt_terms.proofs.ListFacts.{list_any-map}
use Rattle.mt_verify.specs.Listed.{is_off_own_list}
use Rattle.mt_verdict_laws.proofs.VerdictLemmas.{agent_cases}
use Rattle.mt_terms.proofs.AgentFacts.{holds_single, single_is_itself}

pub and-true : (b : Bool) → (b && true) ≡ b
and-true true = refl
and-true false = refl

pub holds-single_placement : (places : Places) (a : ℕ) → ◌≡◌ {A = ℕ → Bool} (λ p. holds places (single_placement a p)) (λ p. is_program p (place_of places a))
holds-single_placement places a = fun_ext λ p. holds_single p (place_of places a)

pub holds-couple_placement : (places : Places) (a b : ℕ)
    → ◌≡◌ {A = Pair → Bool} (λ pair. holds places (couple_placement a b pair)) (λ pair. is_same_place (place_of places a) pair.0 && is_same_place (place_of places b) pair.1)
holds-couple_placement places a b = fun_ext λ pair. ap (λ (t : Bool). is_same_place (place_of places a) pair.0 && t) (and-true (is_same_place (place_of places b) pair.1))

-- an agent has an option of its own, by its list
pub own_option-Single : (m : Market) (places : Places) (a : ℕ)
    → has_own_option m places (Single a) ≡ (list_any (λ p. is_program p (place_of places a)) (list_of m a) || not (is_some (place_of places a)))
own_option-Single m places a =
    ap (λ (t : Bool). t || (not (is_some (place_of places a)) && true))
    (list_any-map (holds places) (single_placement a) (list_of m a) ∙ ap (λ test. list_any test (list_of m a)) (holds-single_placement places a))
    ∙ ap (λ (t : Bool). list_any (λ p. is_program p (place_of places a)) (list_of m a) || t) (and-true (not (is_some (place_of places a))))

pub own_option-Couple : (m : Market) (places : Places) (c : ℕ)
    → let a = (couple_of m c).first in let b = (couple_of m c).second in
    has_own_option m places (Couple c)
    ≡ (list_any (λ pair. is_same_place (place_of places a) pair.0 && is_same_place (place_of places b) pair.1) (couple_of m c).pairs
    || (not (is_some (place_of places a)) && not (is_some (place_of places b))))
own_option-Couple m places c =
    let a = (couple_of m c).first in
    let b = (couple_of m c).second in
    let pairs = (couple_of m c).pairs in
    ap (λ (t : Bool). t || (not (is_some (place_of places a)) && (not (is_some (place_of places b)) && true)))
    (list_any-map (holds places) (couple_placement a b) pairs ∙ ap (λ test. list_any test pairs) (holds-couple_placement places a b))
    ∙ ap (λ (t : Bool). list_any (λ pair. is_same_place (place_of places a) pair.0 && is_same_place (place_of places b) pair.1) pairs || (not (is_some (place_of places a)) && t)) (and-true (not (is_some (place_of places b))))

pub couple_is_there : (m : Market) (a c : ℕ) → agent_of m a ≡ Couple c → c < length m.couples
couple_is_there m a c is = elim (agent_cases m a) [
  | inl alone ↦ (let e : Single a ≡ Couple c = sym alone ∙ is in absurd (cc))
  | inr w ↦ (let e : Couple w.0 ≡ Couple c = sym w.1 ∙ is in let same : w.0 ≡ c = cc in omega (arith, w.2))
]

pub is_off-Single : (m : Market) (places : Places) (a b : ℕ) → agent_of m a ≡ Single b
    → is_off_own_list m places a ≡ not (list_any (λ p. is_program p (place_of places a)) (list_of m a) || not (is_some (place_of places a)))
is_off-Single m places a b is = rw (single_is_itself m a b is, eq-eqb a a refl) (ap not (own_option-Single m places a))

pub is_off-Couple : (m : Market) (places : Places) (a c : ℕ) → agent_of m a ≡ Couple c → a ≡ min (couple_of m c).first (couple_of m c).second
    → let first = (couple_of m c).first in let second = (couple_of m c).second in
    is_off_own_list m places a
    ≡ not (list_any (λ pair. is_same_place (place_of places first) pair.0 && is_same_place (place_of places second) pair.1) (couple_of m c).pairs
    || (not (is_some (place_of places first)) && not (is_some (place_of places second))))
is_off-Couple m places a c is low = rw (is, eq-eqb (min (couple_of m c).first (couple_of m c).second) a (sym low)) (ap not (own_option-Couple m places c))
