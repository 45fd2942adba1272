-- Each round leads from a state that is on the way to the next one, and the stage keeps what no round changes.
use Rattle.std.proofs.Common.{◌≡◌, ◌∙◌, ◌∷◌, ℕ, ap, ap₂, arith, refl, sym, subst}
use Rattle.std.proofs.lemmas.Bool.{false≢true}
use Rattle.mt_terms.specs.Market.{Market}
use Rattle.mt_terms.specs.Rounds.{after_rounds, round, round_of}
use Rattle.mt_terms.specs.declared.numbers.Agent.{Agent}
use Rattle.mt_assignment.specs.Assigned.{Assigned}
use Rattle.mt_stage_tables.specs.Waiting.{waiting_first, with_agents, Waiting}
use Rattle.mt_watch.specs.Watching.{IsWatching}
use Rattle.mt_entry.specs.Ended.{IfSpent}
use Rattle.mt_couples.specs.Ended.{IsSpentFrom}
use Rattle.mt_rounds.specs.Returning.{state_in}
use Rattle.mt_rounds.specs.Running.{work_of, IsRunning}
use Rattle.mt_couples.specs.Staged.{state_of}
use Rattle.mt_rounds.proofs.ReturningFacts.{kept_more, never_settles, reached_more}
use Rattle.mt_rounds.proofs.RoundFacts.{settling_more}
use Rattle.mt_couples.proofs.rounds.Stage.settle.Goals as goal

-- a round that was made, as the definition has it
round_made : (m : Market) (k j : ℕ) (now next : Assigned) (waiting rest waiting' : Waiting) (g : Agent) → now.market ≡ m → j ≡ k → waiting ≡ waiting_first g rest
    → work_of next waiting' ≡ round_of now.market j now.places (g ∷ rest.agents) → work_of next waiting' ≡ round m k (work_of now waiting)
round_made m k j now next waiting rest waiting' g market last taken is =
    is ∙ ap₂ (λ x i. round_of x i now.places (g ∷ rest.agents)) market last ∙ ap (λ (w : Waiting). round_of m k now.places w.agents) (sym taken)

pub loop-agent-preserved : goal.loop-agent-preserved
loop-agent-preserved g c =
    let start = c.args.self.now in
    let now = c.loop-agent.self in
    let new = c.round.new.self in
    let rest = c.take.new.self in
    let so_far = c.loop-agent.invariant in
    let kept = c.in_ok-round.ensures.keeps in
    let taken = c.in-Some.ensures.taken in
    let round_is = round_made start.assignment.market start.last now.last now.assignment new.assignment now.waiting rest new.waiting c.in-Some.agent
    so_far.settling.market so_far.keeps.last taken c.in_ok-round.ensures.work in
    record {
      settling = settling_more start.last start.quiet c.args.left start.assignment now.assignment new.assignment start.waiting now.waiting rest new.waiting c.loop-agent.rest c.in-Some.agent
          so_far.settling taken c.if-rest-eq0.false kept.market kept.room
          (c.in_ok-round.ensures.work ∙ ap (λ k. round_of now.assignment.market k now.assignment.places (c.in-Some.agent ∷ rest.agents)) so_far.keeps.last);
      watched = c.in_ok-round.ensures.watched;
      keeps = record {
        market = kept.market ∙ so_far.keeps.market;
        room = kept.room ∙ ap (λ (w : Waiting). with_agents w new.waiting.agents) (sym taken ∙ so_far.keeps.room);
        last = kept.last ∙ so_far.keeps.last;
        quiet = kept.quiet ∙ so_far.keeps.quiet;
      };
      made = reached_more start.assignment.market start.last (state_of start) (state_of now) (state_of new) round_is so_far.made;
      kept = kept_more start.assignment.market start.last (state_of start) (state_of now) (state_of new) round_is (state_in c.loop-agent.returning) (state_in c.comes_back.new.self)
          so_far.made so_far.kept c.in_ok-comes_back.ensures.keeps;
    }

pub round-requires-clause-running : goal.round-requires-clause-running
round-requires-clause-running g c κs within =
    let start = c.args.self.now in
    let now = c.loop-agent.self in
    let so_far = c.loop-agent.invariant in
    let taken = c.in-Some.ensures.taken in
    let first = waiting_first c.in-Some.agent c.take.new.self in
    subst (λ k. IsRunning k now.quiet now.assignment first) (sym so_far.keeps.last)
    (subst (λ q. IsRunning start.last q now.assignment first) (sym so_far.keeps.quiet) (subst (IsRunning start.last start.quiet now.assignment) taken so_far.settling.running))

pub round-requires-clause-watched : goal.round-requires-clause-watched
round-requires-clause-watched g c κs within =
    let now = c.loop-agent.self in
    subst (λ (w : Waiting). IsWatching now.last now.assignment w.agents now.watch) c.in-Some.ensures.taken c.loop-agent.invariant.watched

pub returns-then-rest-eq0-clause-spent : goal.returns-then-rest-eq0-clause-spent
returns-then-rest-eq0-clause-spent g c =
    let start = c.args.self.now in
    subst (λ e. IfSpent e (IsSpentFrom start c.args.budget c.args.left)) (sym c.spent.ensures) (record {
      unsettled =
          sym c.loop-agent.invariant.settling.leads
          ∙ ap₂ (λ rest (w : Waiting). after_rounds start.assignment.market start.last rest c.loop-agent.self.assignment.places w.agents) c.if-rest-eq0.true c.in-Some.ensures.taken;
      couple = c.loop-agent.invariant.keeps.last;
      within = omega arith;
      all_made = λ none. refl;
      endless = λ back. absurd (false≢true back);
    })

pub returns-then-branch-clause-spent : goal.returns-then-branch-clause-spent
returns-then-branch-clause-spent g c =
    let start = c.args.self.now in
    let now = c.loop-agent.self in
    let new = c.round.new.self in
    let rest = c.take.new.self in
    let so_far = c.loop-agent.invariant in
    let taken = c.in-Some.ensures.taken in
    let round_is = round_made start.assignment.market start.last now.last now.assignment new.assignment now.waiting rest new.waiting c.in-Some.agent
    so_far.settling.market so_far.keeps.last taken c.in_ok-round.ensures.work in
    let never = never_settles start.assignment.market start.last (state_of start) (state_of now) (state_of new) round_is c.in-Some.agent rest.agents
    (ap (λ (w : Waiting). w.agents) taken) (state_in c.loop-agent.returning) so_far.kept (c.in_ok-comes_back.ensures.back.0 c.if-branch.true) in
    subst (λ e. IfSpent e (IsSpentFrom start c.args.budget c.args.left)) (sym c.spent-then-branch.ensures) (record {
      unsettled = never c.args.left;
      couple = c.in_ok-round.ensures.keeps.last ∙ so_far.keeps.last;
      within = omega arith;
      all_made = λ none. absurd (false≢true (sym none));
      endless = λ back. never;
    })
