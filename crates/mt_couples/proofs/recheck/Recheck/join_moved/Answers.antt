use Rattle.std.proofs.Common.{◌≡◌, ◌≤◌, ℕ, Bool, true, false, List, [], ◌∷◌, ◌++◌, length, drop, ◌+◌, refl, ap, subst, sym, ◌∙◌, if◌then◌else◌}
use Rattle.std.proofs.lemmas.List.{drop_all}
use Rattle.mt_terms.specs.Market.{applicants, agent_of}
use Rattle.mt_terms.specs.Stability.{blocks}
use Rattle.mt_terms.specs.Rounds.{all_joined}
use Rattle.mt_terms.specs.declared.numbers.Agent.{Agent}
use Rattle.mt_stage_tables.specs.Waiting.{with_agents, Waiting}
use Rattle.mt_assignment.specs.Assigned.{Assigned}
use Rattle.mt_rounds.specs.Waiting.{agents_of, if_blocking, Joins}
use Rattle.mt_rounds.proofs.JoinFacts.{all_joined-append, AreJoining, joining_list, joining_more, known_to, next_mapped}
use Rattle.mt_assignment.proofs.MarketFacts.{read_within}
use Rattle.mt_couples.proofs.recheck.Recheck.join_moved.Goals as goal

pub agent_of-requires : goal.agent_of-requires
agent_of-requires c =
    read_within c.args.displaced.now c.loop-applicant.applicant-index c.applicant-item.result (applicants c.args.self.now.assignment.now.market) c.loop-applicant-test.true c.applicant-item.is
    c.requires.displaced

pub join-requires : goal.join-requires
join-requires c =
    let s = c.args.self.now.assignment.now in
    let i = c.loop-applicant.applicant-index in
    known_to s.market c.loop-applicant.waiting c.agent_of.result
    (joining_list s.market c.args.waiting.now c.loop-applicant.waiting (agents_of s (drop i c.args.displaced.now)) (agents_of s c.args.displaced.now) c.requires.list c.loop-applicant.invariant)
    c.agent_of.ensures.within

pub loop-applicant-preserved : goal.loop-applicant-preserved
loop-applicant-preserved c =
    let s = c.args.self.now.assignment.now in
    let i = c.loop-applicant.applicant-index in
    let xs = c.args.displaced.now in
    let a = c.applicant-item.result in
    let rest = agents_of s (drop (i + 1) xs) in
    let now = c.loop-applicant.waiting in
    let front : AreJoining c.args.waiting.now now (c.agent_of.result ∷ rest) (agents_of s xs) =
    subst (λ gs. AreJoining c.args.waiting.now now gs (agents_of s xs)) (next_mapped (agent_of s.market) xs i a c.loop-applicant-test.true c.applicant-item.is
    ∙ ap (λ g. g ∷ rest) (sym c.agent_of.ensures.agent)) c.loop-applicant.invariant in
    joining_more c.args.waiting.now now c.join.new.self c.agent_of.result rest (agents_of s xs) c.in_ok-join.ensures front

pub loop-applicant-init : goal.loop-applicant-init
loop-applicant-init c = refl

-- the agent that moved joins after the displaced, if it blocks
mover_joins : (s : Assigned) (g : Agent) (b : Bool) (start now new : Waiting) (xs : List ℕ) (i : ℕ) → length xs ≤ i → AreJoining start now (agents_of s (drop i xs)) (agents_of s xs)
    → b ≡ blocks s.market s.places g → Joins now new (if b then (g ∷ []) else []) → Joins start new (agents_of s xs ++ if_blocking s g)
mover_joins s g b start now new xs i past joining is last =
    let first : Joins start now (agents_of s xs) = ap (λ ys. with_agents now (all_joined now.agents (agents_of s ys))) (sym (drop_all i xs past)) ∙ joining in
    last ∙ ap (λ (w : Waiting). with_agents w (all_joined w.agents (if b then (g ∷ []) else []))) first
    ∙ ap (with_agents start) (sym (all_joined-append start.agents (agents_of s xs) (if b then (g ∷ []) else [])))
    ∙ ap (λ x. with_agents start (all_joined start.agents (agents_of s xs ++ (if x then (g ∷ []) else [])))) is

pub returns-in_ok-join-2 : goal.returns-in_ok-join-2
returns-in_ok-join-2 c =
    mover_joins c.args.self.now.assignment.now c.args.agent true c.args.waiting.now c.loop-applicant.waiting c.join-then-blocks.new.self c.args.displaced.now c.loop-applicant.applicant-index
    c.loop-applicant-test.false c.loop-applicant.invariant (sym c.if-blocks.true ∙ c.blocks-2.ensures) c.in_ok-join-2.ensures

pub returns-else-blocks : goal.returns-else-blocks
returns-else-blocks c =
    mover_joins c.args.self.now.assignment.now c.args.agent false c.args.waiting.now c.loop-applicant.waiting c.loop-applicant.waiting c.args.displaced.now c.loop-applicant.applicant-index
    c.loop-applicant-test.false c.loop-applicant.invariant (sym c.if-blocks.false ∙ c.blocks-2.ensures) refl
