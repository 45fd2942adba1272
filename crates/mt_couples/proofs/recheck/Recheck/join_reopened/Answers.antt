use Rattle.std.proofs.Common.{◌≡◌, ◌∙◌, ◌<◌, ◌≤◌, ◌+◌, ◌-◌, [], ℕ, true, false, ap, sym, subst, inl, inr, drop, filter, get_or, length, arith}
use Rattle.std.proofs.lemmas.Bool.{cases_lt, or_left}
use Rattle.mt_terms.specs.Market.{agent_of, applicants}
use Rattle.mt_terms.specs.Rounds.{all_joined, is_on, joined}
use Rattle.mt_round_laws.proofs.RoundsKeep.{on_joined}
use Rattle.mt_stage_tables.specs.Waiting.{with_agents, Waiting}
use Rattle.mt_rounds.specs.Waiting.{agents_of, blockers}
use Rattle.mt_assignment.specs.Blocking.{is_reopened}
use Rattle.mt_rounds.proofs.QuietFacts.{blocking}
use Rattle.mt_stage_tables.proofs.ListFacts.{drop_past}
use Rattle.mt_rounds.proofs.LookFacts.{none_between, passes_joined, passes_skipped, passing, Rest}
use Rattle.mt_assignment.proofs.MarketFacts.{read_within}
use Rattle.mt_stage_tables.proofs.OrderFacts.{has_at}
use Rattle.mt_couples.proofs.recheck.Recheck.join_reopened.Goals as goal
use Rattle.mt_couples.proofs.recheck.Recheck.join_reopened.Goals.{then-next-place+then-is_reopened+in_ok-join, then-next-place+else-is_reopened, else-next-place}

pub bounds-ranking-place : goal.bounds-ranking-place
bounds-ranking-place c =
    omega (arith, ap length c.ranking-ranking.ensures.list, c.requires.ranks.within _ (has_at c.args.ranks.now c.loop-rank.rank-index 0 c.loop-rank-test.true))

pub agent_of-agent-requires : goal.agent_of-agent-requires
agent_of-agent-requires c =
    let within : get_or c.args.ranks.now c.loop-rank.rank-index 0 < length c.ranking-ranking.result.now = omega (arith, ap length c.ranking-ranking.ensures.list, c.requires.ranks.within _ (has_at c.args.ranks.now c.loop-rank.rank-index 0 c.loop-rank-test.true)) in
    read_within c.ranking-ranking.result.now _ c.index-ranking-place.result (applicants c.args.self.now.assignment.now.market) within c.index-ranking-place.is c.ranking-ranking.ensures.within

pub loop-rank-preserved : goal.loop-rank-preserved
loop-rank-preserved c =
    let s = c.args.self.now.assignment.now in
    let k = c.args.self.now.last in
    let ps = c.args.left.now in
    let p = c.args.program in
    let wf = c.args.self.now.well_formed in
    let xs = c.ranking-ranking.result.now in
    let list = c.ranking-ranking.ensures.list in
    let start = c.args.waiting.now in
    let now = c.loop-rank.waiting in
    let all = blockers s k p in
    let ranks = c.args.ranks.now in
    let i = c.loop-rank.rank-index in
    let r = get_or ranks i 0 in
    let next = c.loop-rank.next in
    let so_far = c.loop-rank.invariant in
    let r_in : r < length xs = omega (arith, ap length list, c.requires.ranks.within r (has_at ranks i 0 c.loop-rank-test.true)) in
    let coming = λ (j : ℕ) (low : i ≤ j) (high : j < length ranks). c.requires.sorted i j 0 low high in
    let reaches : next ≤ r → Rest k s ps wf start all xs now r = λ low.
    let whole : next + (r - next) ≡ r = omega arith in
    subst (Rest k s ps wf start all xs now) whole (passing k s ps wf start all xs c.ranking-ranking.ensures.within now (r - next) next (omega arith)
    (λ x above under. subst (λ ys. is_reopened k s ps now.agents (agent_of s.market (get_or ys x 0)) ≡ false) (sym list)
    (none_between k s ps wf start all p now ranks i next r x c.requires.ranks so_far.grows so_far.passed coming above (omega arith) (omega (arith, ap length list))))
    so_far.looking) in
    elim c.if-next-place.branch [
      | then-next-place+then-is_reopened+in_ok-join w ↦
          let a = w.index-ranking-place.result in
          let reopened : is_reopened k s ps now.agents (agent_of s.market a) ≡ true =
          ap (is_reopened k s ps now.agents) (sym w.agent_of-agent.ensures.agent) ∙ sym w.is_reopened.ensures ∙ w.if-is_reopened.true in
          let is : c.if-next-place.waiting ≡ with_agents now (joined now.agents (agent_of s.market a)) =
          w.waiting-is ∙ w.in_ok-join.ensures ∙ ap (λ g. with_agents now (joined now.agents g)) w.agent_of-agent.ensures.agent in
          record {
            looking = subst (Rest k s ps wf start all xs c.if-next-place.waiting) (sym w.next-is)
                (passes_joined k s ps wf start all xs now c.if-next-place.waiting r a r_in w.index-ranking-place.is (reaches w.if-next-place.true) reopened is);
            grows = λ g on. ap (λ (x : Waiting). is_on x.agents g) is ∙ on_joined now.agents (agent_of s.market a) g ∙ or_left (is_on now.agents g) _ (so_far.grows g on);
            passed = λ j low. elim (cases_lt j i) [
              | inl before ↦ (let l = so_far.passed j before in let n = w.next-is in let t = w.if-next-place.true in omega arith)
              | inr after ↦ (let e : j ≡ i = omega arith in let n = w.next-is in subst (λ q. get_or ranks q 0 < c.if-next-place.next) (sym e) (omega arith))
            ];
            next_in = (let n = w.next-is in omega arith);
          }
      | then-next-place+else-is_reopened w ↦
          let a = w.index-ranking-place.result in
          let other : is_reopened k s ps now.agents (agent_of s.market a) ≡ false =
          ap (is_reopened k s ps now.agents) (sym w.agent_of-agent.ensures.agent) ∙ sym w.is_reopened.ensures ∙ w.if-is_reopened.false in
          let a_in = read_within xs r a (applicants s.market) r_in w.index-ranking-place.is c.ranking-ranking.ensures.within in
          record {
            looking = subst (λ (x : Waiting). Rest k s ps wf start all xs x c.if-next-place.next) (sym w.waiting-is) (subst (Rest k s ps wf start all xs now) (sym w.next-is)
                (passes_skipped k s ps wf start all xs now r a r_in w.index-ranking-place.is a_in (reaches w.if-next-place.true) other));
            grows = λ g on. ap (λ (x : Waiting). is_on x.agents g) w.waiting-is ∙ so_far.grows g on;
            passed = λ j low. elim (cases_lt j i) [
              | inl before ↦ (let l = so_far.passed j before in let n = w.next-is in let t = w.if-next-place.true in omega arith)
              | inr after ↦ (let e : j ≡ i = omega arith in let n = w.next-is in subst (λ q. get_or ranks q 0 < c.if-next-place.next) (sym e) (omega arith))
            ];
            next_in = (let n = w.next-is in omega arith);
          }
      | else-next-place w ↦ record {
        looking = subst (λ (x : Waiting). Rest k s ps wf start all xs x c.if-next-place.next) (sym w.waiting-is) (subst (Rest k s ps wf start all xs now) (sym w.next-is) so_far.looking);
        grows = λ g on. ap (λ (x : Waiting). is_on x.agents g) w.waiting-is ∙ so_far.grows g on;
        passed = λ j low. elim (cases_lt j i) [
          | inl before ↦ (let l = so_far.passed j before in let n = w.next-is in omega arith)
          | inr after ↦ (let e : j ≡ i = omega arith in let n = w.next-is in let t = w.if-next-place.false in subst (λ q. get_or ranks q 0 < c.if-next-place.next) (sym e) (omega arith))
        ];
        next_in = (let n = w.next-is in let l = so_far.next_in in omega arith);
      }
    ]

pub returns : goal.returns
returns c =
    let s = c.args.self.now.assignment.now in
    let k = c.args.self.now.last in
    let ps = c.args.left.now in
    let p = c.args.program in
    let wf = c.args.self.now.well_formed in
    let xs = c.ranking-ranking.result.now in
    let list = c.ranking-ranking.ensures.list in
    let start = c.args.waiting.now in
    let now = c.loop-rank.waiting in
    let all = blockers s k p in
    let ranks = c.args.ranks.now in
    let next = c.loop-rank.next in
    let so_far = c.loop-rank.invariant in
    let next_in : next ≤ length xs = so_far.next_in in
    let whole : next + (length xs - next) ≡ length xs = omega arith in
    let at_end : Rest k s ps wf start all xs now (length xs) =
    subst (Rest k s ps wf start all xs now) whole (passing k s ps wf start all xs c.ranking-ranking.ensures.within now (length xs - next) next (omega arith)
    (λ x above under. subst (λ ys. is_reopened k s ps now.agents (agent_of s.market (get_or ys x 0)) ≡ false) (sym list)
    (none_between k s ps wf start all p now ranks c.loop-rank.rank-index next (length xs) x c.requires.ranks so_far.grows so_far.passed
    (λ j low high. (let t = c.loop-rank-test.false in absurd (omega arith))) above (omega arith) (omega (arith, ap length list))))
    so_far.looking) in
    let nobody : drop (length xs) xs ≡ [] = drop_past xs (length xs) (omega arith) in
    ap (λ ys. with_agents now (all_joined now.agents (filter (blocking k s) (agents_of s ys)))) (sym nobody) ∙ at_end.joining
