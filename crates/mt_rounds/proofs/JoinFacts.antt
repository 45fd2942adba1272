-- Agents that join a work list one after another.
use Rattle.std.proofs.Common.{◌≡◌, ◌∙◌, ℕ, ◌+◌, ◌<◌, true, List, [], ◌∷◌, ◌++◌, map, drop, length, get_or, refl, ap, sym, arith}
use Rattle.std.proofs.lemmas.Bool.{or_left, or_right}
use Rattle.std.proofs.lemmas.List.{drop_more}
use Rattle.mt_terms.specs.Market.{Market, IsAgentOf}
use Rattle.mt_terms.specs.Rounds.{is_on, joined, all_joined}
use Rattle.mt_terms.specs.declared.numbers.Agent.{Agent}
use Rattle.mt_terms.specs.declared.numbers.Agent.TheVariants.{Single, Couple}
use Rattle.mt_round_laws.proofs.RoundsKeep.{on_all_joined}
use Rattle.mt_stage_tables.specs.Waiting.{with_agents, IsKnown, Waiting}
use Rattle.mt_rounds.specs.Waiting.{IsListOf, Joins}

pub all_joined-append : (waiting gs hs : List Agent) → all_joined waiting (gs ++ hs) ≡ all_joined (all_joined waiting gs) hs
all_joined-append waiting [] hs = refl
all_joined-append waiting (g ∷ gs) hs = all_joined-append (joined waiting g) gs hs

-- On the way from one work list to another: once the rest has joined too, it is the one where all have joined.
abbrev pub AreJoining : Waiting → Waiting → List Agent → List Agent → Type 0
AreJoining start now rest all = with_agents now (all_joined now.agents rest) ≡ with_agents start (all_joined start.agents all)

pub joining_list : (m : Market) (start now : Waiting) (rest all : List Agent) → IsListOf m start → AreJoining start now rest all → IsListOf m now
joining_list m start now rest all list joining = record {
  applicants_are = ap (λ (w : Waiting). w.applicants) joining ∙ list.applicants_are;
  couples_are = ap (λ (w : Waiting). w.couples) joining ∙ list.couples_are;
}

pub joined_list : (m : Market) (old new : Waiting) (gs : List Agent) → IsListOf m old → Joins old new gs → IsListOf m new
joined_list m old new gs list is = record {
  applicants_are = ap (λ (w : Waiting). w.applicants) is ∙ list.applicants_are;
  couples_are = ap (λ (w : Waiting). w.couples) is ∙ list.couples_are;
}

pub rest_list : (m : Market) (w : Waiting) (gs : List Agent) → IsListOf m (with_agents w gs) → IsListOf m w
rest_list m w gs list = record { applicants_are = list.applicants_are; couples_are = list.couples_are }

-- who waited before waits still, and so does who joined
pub joins_keeps : (old new : Waiting) (gs : List Agent) (h : Agent) → Joins old new gs → is_on old.agents h ≡ true → is_on new.agents h ≡ true
joins_keeps old new gs h is on = ap (λ (w : Waiting). is_on w.agents h) is ∙ on_all_joined old.agents gs h ∙ or_left (is_on old.agents h) (is_on gs h) on

pub joins_adds : (old new : Waiting) (gs : List Agent) (h : Agent) → Joins old new gs → is_on gs h ≡ true → is_on new.agents h ≡ true
joins_adds old new gs h is on = ap (λ (w : Waiting). is_on w.agents h) is ∙ on_all_joined old.agents gs h ∙ or_right (is_on old.agents h) (is_on gs h) on

-- an agent of the market is known to a list for it
pub known_to : (m : Market) (w : Waiting) (g : Agent) → IsListOf m w → IsAgentOf m g → IsKnown w g
known_to m w (Single a) list within = omega (arith, list.applicants_are)
known_to m w (Couple c) list within = omega (arith, list.couples_are)

-- one joins
pub joining_more : (start now new : Waiting) (g : Agent) (rest all : List Agent) → new ≡ with_agents now (joined now.agents g) → AreJoining start now (g ∷ rest) all
    → AreJoining start new rest all
joining_more start now new g rest all is joining = ap (λ (w : Waiting). with_agents w (all_joined w.agents rest)) is ∙ joining

-- some join
pub joining_some : (start now new : Waiting) (gs rest all : List Agent) → new ≡ with_agents now (all_joined now.agents gs) → AreJoining start now (gs ++ rest) all
    → AreJoining start new rest all
joining_some start now new gs rest all is joining =
    ap (λ (w : Waiting). with_agents w (all_joined w.agents rest)) is ∙ ap (with_agents now) (sym (all_joined-append now.agents gs rest)) ∙ joining

-- the next of a list
pub next_mapped : {X : Type 0} (f : X → Agent) (xs : List X) (i : ℕ) (x : X) → i < length xs → x ≡ get_or xs i x → map f (drop i xs) ≡ f x ∷ map f (drop (i + 1) xs)
next_mapped f xs i x within read =
    ap (map f) (drop_more xs i x within) ∙ ap (λ y. f y ∷ map f (drop (i + 1) xs)) (sym read)

-- a couple joins a list of nobody
pub known_joins : (old new : Waiting) (k : ℕ) → old.agents ≡ [] → new ≡ with_agents old (joined old.agents (Couple k))
    → Joins old new (Couple k ∷ []) × (new.agents ≡ Couple k ∷ [])
known_joins old new k nobody is = (is, ap (λ (w : Waiting). w.agents) is ∙ ap (λ gs. joined gs (Couple k)) nobody)
