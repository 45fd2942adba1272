-- The test for one agent, and the test for one program at a place, are equality. An agent that is a single is that single.
use Rattle.std.proofs.Common.{◌≡◌, ℕ, ◌+◌, ◌==◌, ◌&&◌, true, List, [], ◌∷◌, Option, Some, None, IsTrue, inl, inr, refl, ap, ◌∙◌, eq-eqb, eqb-true, arith}
use Rattle.std.specs.Option.{option_eq}
use Rattle.std.proofs.Math.Bool.{and-true}
use Rattle.std.proofs.lemmas.Bool.{cases_Bool, false≢true}
use Rattle.std.proofs.lemmas.Bool.Decides.{nat_tests}
use Rattle.mt_terms.specs.Market.{Market, Partners, is_member, agent_from, agent_of}
use Rattle.mt_terms.specs.Matching.{is_program, is_same_place}
use Rattle.mt_terms.specs.Rounds.{is_same_agent}
use Rattle.mt_terms.specs.declared.numbers.Agent.{Agent}
use Rattle.mt_terms.specs.declared.numbers.Agent.TheVariants.{Single, Couple}

-- a test of two numbers, with the two exchanged
pub eqb_sym : (a b : ℕ) → (a == b) ≡ (b == a)
eqb_sym a b = grind (arith, nat_tests)

pub is_same_agent_refl : (g : Agent) → is_same_agent g g ≡ true
is_same_agent_refl (Single a) = eq-eqb a a refl
is_same_agent_refl (Couple c) = eq-eqb c c refl

pub same_agent : (g h : Agent) → is_same_agent g h ≡ true → g ≡ h
same_agent (Single a) (Single b) e = ap Single (eqb-true a b e)
same_agent (Single a) (Couple d) e = absurd (false≢true e)
same_agent (Couple c) (Single b) e = absurd (false≢true e)
same_agent (Couple c) (Couple d) e = ap Couple (eqb-true c d e)

-- an applicant that is a single among couples is that single
pub agent_from_single : (xs : List Partners) (c a b : ℕ) → agent_from xs c a ≡ Single b → b ≡ a
agent_from_single [] c a b e = cc
agent_from_single (x ∷ xs) c a b e = elim (cases_Bool (is_member x a)) [
  | inl t ↦ absurd (let at : Couple c ≡ Single b = rw t at e in cc)
  | inr t ↦ agent_from_single xs (c + 1) a b (rw t at e)
]

pub single_is_itself : (m : Market) (a b : ℕ) → agent_of m a ≡ Single b → agent_of m a ≡ Single a
single_is_itself m a b is = is ∙ ap Single (agent_from_single m.couples 0 a b is)

-- a place that is this program
pub place_is : (p : ℕ) (place : Option ℕ) → IsTrue (is_program p place) → place ≡ Some p
place_is p None h = absurd (false≢true h)
place_is p (Some q) h = ap Some (eqb-true q p h)

-- whether a place that was read is this program
pub is_program_read : (p : ℕ) (place : Option ℕ) → option_eq ◌==◌ place (Some p) ≡ is_program p place
is_program_read p None = refl
is_program_read p (Some q) = refl

-- a match places a single where a placement sends it
pub holds_single : (p : ℕ) (place : Option ℕ) → (is_same_place place (Some p) && true) ≡ is_program p place
holds_single p None = refl
holds_single p (Some q) = and-true (q == p)
