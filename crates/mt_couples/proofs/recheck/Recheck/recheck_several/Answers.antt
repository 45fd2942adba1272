use Rattle.std.proofs.lemmas.Grind.{common_steps}
use Rattle.std.proofs.Common.{◌≡◌, ◌∙◌, ◌++◌, ◌+◌, drop, ap, sym, subst, arith}
use Rattle.std.proofs.lemmas.Bool.{or_left}
use Rattle.std.proofs.lemmas.List.{drop_more}
use Rattle.mt_terms.specs.Lists.{has}
use Rattle.mt_terms.specs.Market.{agent_of}
use Rattle.mt_terms.specs.Rounds.{is_on}
use Rattle.mt_round_laws.proofs.RoundsKeep.{on_all_joined}
use Rattle.mt_stage_tables.specs.Waiting.{Waiting}
use Rattle.mt_rounds.specs.Looking.{HaveReopened}
use Rattle.mt_rounds.specs.Waiting.{blockers, blockers_of}
use Rattle.mt_stage_tables.proofs.PlaceFacts.{has_read}
use Rattle.mt_rounds.proofs.QuietFacts.{looking_some, IsLooking}
use Rattle.mt_rounds.proofs.LookFacts.{reopened_before}
use Rattle.mt_couples.proofs.recheck.Recheck.recheck_several.Goals as goal

pub ranks_of-requires-clause-program : goal.ranks_of-requires-clause-program
ranks_of-requires-clause-program g c =
    c.requires.ready.programs c.program-item.result (has_read c.args.left.now c.loop-program.program-index c.program-item.result c.loop-program-test.true c.program-item.is)

pub join_reopened-requires-clause-program : goal.join_reopened-requires-clause-program
join_reopened-requires-clause-program g c =
    c.requires.ready.programs c.program-item.result (has_read c.args.left.now c.loop-program.program-index c.program-item.result c.loop-program-test.true c.program-item.is)

pub join_reopened-requires-clause-ranks : goal.join_reopened-requires-clause-ranks
join_reopened-requires-clause-ranks g c =
    let s = c.args.self.now.assignment.now in
    let k = c.args.self.now.last in
    let p = c.program-item.result in
    let left = c.args.left.now in
    let now = c.loop-program.waiting.agents in
    subst (λ rs. HaveReopened k s p left now rs) (sym c.deref-in-loop-program.ensures.value) (record {
      within = c.in_ok-ranks.ensures.ranks.within;
      all = λ a r within reopened ranked. c.in_ok-ranks.ensures.ranks.all a r (ap (λ xs. has xs a) c.deref.ensures.value
          ∙ c.in_ok-found.ensures.covers a within (reopened_before k s left c.args.waiting.now.agents now (agent_of s.market a) c.loop-program.invariant.grows reopened)) ranked;
    })

pub loop-program-preserved : goal.loop-program-preserved
loop-program-preserved g c =
    let s = c.args.self.now.assignment.now in
    let k = c.args.self.now.last in
    let p = c.program-item.result in
    let i = c.loop-program.program-index in
    let left = c.args.left.now in
    let now = c.loop-program.waiting in
    let rest = blockers_of s k (drop (i + 1) left) in
    let split : blockers_of s k (drop i left) ≡ blockers s k p ++ rest =
    ap (blockers_of s k) (drop_more left i p c.loop-program-test.true) ∙ ap (λ q. blockers s k q ++ rest) (sym c.program-item.is) in
    record {
      looking = looking_some k s left c.args.waiting.now now c.join_reopened.new.waiting (blockers s k p) rest (blockers_of s k left)
          (subst (λ gs. IsLooking k s left c.args.waiting.now now gs (blockers_of s k left)) split c.loop-program.invariant.looking) c.in_ok-join_reopened.ensures;
      grows = λ g on. ap (λ (w : Waiting). is_on w.agents g) c.in_ok-join_reopened.ensures ∙ on_all_joined now.agents (blockers s k p) g
          ∙ or_left (is_on now.agents g) _ (c.loop-program.invariant.grows g on);
    }

pub returns : goal.returns
returns g c = grind (arith, common_steps)
