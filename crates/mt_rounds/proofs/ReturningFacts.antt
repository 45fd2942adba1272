-- The state that was kept is on the way from the first state of an entry. If it is there again after a round, rounds lead
-- from it to itself.
use Rattle.std.proofs.Common.{◌≡◌, ◌↔◌, ◌⊎◌, ℕ, ◌+◌, Bool, true, false, ◌&&◌, ◌==◌, List, [], ◌∷◌, ◌++◌, Option, Some, None, IfSome, IsTrue, Decides, refl, ap, ap₂, sym, ◌∙◌, inl, inr, arith, subst, eq-eqb, eqb-true}
use Rattle.std.specs.Option.{option_eq}
use Rattle.std.proofs.lemmas.Bool.{and_from, and_parts, both_ways, false≢true}
use Rattle.std.proofs.lemmas.List.{append_cancel_left}
use Rattle.mt_terms.specs.Market.{Market}
use Rattle.mt_terms.specs.Matching.{Places}
use Rattle.mt_terms.specs.Rounds.{Work, after_rounds, is_same_agent, round, state}
use Rattle.mt_terms.specs.contracts.numbers.AgentPartialEq.TheImpl.{eq-value}
use Rattle.mt_terms.specs.declared.numbers.Agent.{Agent}
use Rattle.mt_terms.proofs.AgentFacts.{is_same_agent_refl, same_agent}
use Rattle.mt_stage_tables.proofs.WaitingFacts.{same_eq}
use Rattle.mt_budget_laws.specs.Returning.{state_after, ComesBack}
use Rattle.mt_budget_laws.proofs.ReturningFacts.{further, stays_empty, returning_never_ends_lem}

-- a state on the way from the first one to the present one
pub record IsOnWay (m : Market) (k : ℕ) (first now w : Work) : Type 0 where
  pub before : ℕ
  pub after : ℕ
  pub reached : state_after m k before first ≡ w
  pub leads : state_after m k after w ≡ now

-- the state that was kept is, if one was
abbrev pub IsKeptOnWay : Market → ℕ → Work → Work → Option Work → Type 0
IsKeptOnWay m k first now kept = IfSome kept (IsOnWay m k first now)

-- some rounds lead from the first state to the present one
abbrev pub IsReached : Market → ℕ → Work → Work → Type 0
IsReached m k first now = (n : ℕ) × (state_after m k n first ≡ now)

-- Below, a round leads from the present state to the next one.
module _ (m : Market) (k : ℕ) (first now next : Work) (round_is : next ≡ round m k now) where
  one_more : (n : ℕ) (w : Work) → state_after m k n w ≡ now → state_after m k (n + 1) w ≡ next
  one_more n w e = further m k n 1 w ∙ ap (round m k) e ∙ sym round_is

  pub reached_more : IsReached m k first now → IsReached m k first next
  reached_more made = (made.0 + 1, one_more made.0 first made.1)

  still_kept : (kept : Option Work) → IsKeptOnWay m k first now kept → IsKeptOnWay m k first next kept
  still_kept None h = h
  still_kept (Some w) h = record { before = h.before; after = h.after + 1; reached = h.reached; leads = one_more h.after w h.leads }

  pub kept_more : (old new : Option Work) → IsReached m k first now → IsKeptOnWay m k first now old → (new ≡ old) ⊎ (new ≡ Some next)
      → IsKeptOnWay m k first next new
  kept_more old new made h (inl same) = subst (IsKeptOnWay m k first next) (sym same) (still_kept old h)
  kept_more old new made h (inr taken) =
      let more = reached_more made in
      subst (IsKeptOnWay m k first next) (sym taken) (record { before = more.0; after = 0; reached = more.1; leads = refl })

  -- if the next state is the kept one, the rounds end within no budget
  pub never_settles : (g : Agent) (rest : List Agent) → now.waiting ≡ g ∷ rest → (kept : Option Work) → IsKeptOnWay m k first now kept → kept ≡ Some next
      → (b : ℕ) → after_rounds m k b first.places first.waiting ≡ None
  never_settles g rest waits kept h is =
      let way : IsOnWay m k first now next = subst (IsKeptOnWay m k first now) is h in
      returning_never_ends_lem m k first way.before
      (subst (ComesBack m k) (sym way.reached) (record {
        waits = λ none. (let both : ◌≡◌ {A = List Agent} (g ∷ rest) [] = sym waits ∙ ap (λ (w : Work). w.waiting) (sym way.leads) ∙ stays_empty m k way.after next none in cc);
        rounds = way.after + 1;
        some = omega arith;
        back = one_more way.after next way.leads;
      }))

pub agents_decide : (g h : Agent) → Decides (eq-value.it g h) (g ≡ h)
agents_decide g h = (
  (λ e. same_agent g h (sym (same_eq g h) ∙ e)),
  (λ e. same_eq g h ∙ subst (λ x. is_same_agent g x ≡ true) e (is_same_agent_refl g)),
)

pub places_decide : (p q : Option ℕ) → Decides (option_eq ◌==◌ p q) (p ≡ q)
places_decide None None = ((λ e. refl), (λ e. refl))
places_decide None (Some q) = ((λ e. absurd (false≢true e)), (λ e. absurd (let some : ◌≡◌ {A = Option ℕ} None (Some q) = e in cc)))
places_decide (Some p) None = ((λ e. absurd (false≢true e)), (λ e. absurd (let some : ◌≡◌ {A = Option ℕ} (Some p) None = e in cc)))
places_decide (Some p) (Some q) = ((λ e. ap Some (eqb-true p q e)), (λ e. (let both : ◌≡◌ {A = Option ℕ} (Some p) (Some q) = e in let is : p ≡ q = cc in eq-eqb p q is)))

-- the kept state is this one if the rest of its work list, and its match, are
pub same_state : (read read' places places' : Places) (list front back rest agents : List Agent) (same_list same_places : Bool) → read ≡ places → read' ≡ places'
    → agents ≡ front ++ back → list ≡ front ++ rest → Decides same_list (rest ≡ back) → Decides same_places (read ≡ read')
    → IsTrue (same_list && same_places) ↔ (state places list ≡ state places' agents)
same_state read read' places places' list front back rest agents same_list same_places is is' parts starts lists matches = (
  (λ both.
      let each = and_parts same_list same_places both in
      ap₂ state (sym is ∙ matches.0 each.1 ∙ is') (starts ∙ ap (λ xs. front ++ xs) (lists.0 each.0) ∙ sym parts)),
  (λ e.
      and_from same_list same_places
      (lists.1 (append_cancel_left front rest back (sym starts ∙ ap (λ (w : Work). w.waiting) e ∙ parts)))
      (matches.1 (is ∙ ap (λ (w : Work). w.places) e ∙ sym is'))),
)

-- it isn't if the rest is another one
pub other_rest : (places places' : Places) (list front back rest agents : List Agent) (same_list : Bool) → agents ≡ front ++ back → list ≡ front ++ rest
    → Decides same_list (rest ≡ back) → same_list ≡ false → IsTrue same_list ↔ (state places list ≡ state places' agents)
other_rest places places' list front back rest agents same_list parts starts lists other = (
  (λ same. absurd (both_ways same_list other same)),
  (λ e. lists.1 (append_cancel_left front rest back (sym starts ∙ ap (λ (w : Work). w.waiting) e ∙ parts))),
)

-- nor if its work list begins otherwise
pub other_begin : (places places' : Places) (list front back agents : List Agent) → agents ≡ front ++ back → ((rest : List Agent) → list ≡ front ++ rest → ⊥)
    → IsTrue false ↔ (state places list ≡ state places' agents)
other_begin places places' list front back agents parts other = (
  (λ e. absurd (false≢true e)),
  (λ e. absurd (other back (ap (λ (w : Work). w.waiting) e ∙ parts))),
)
