use Rattle.std.proofs.Common.{◌≡◌, ◌∙◌, ◌∷◌, ◌+◌, ◌<◌, ◌≤◌, [], ℕ, drop, filter, get_or, length, ap, sym, subst, arith}
use Rattle.std.proofs.lemmas.Bool.{or_left}
use Rattle.mt_terms.specs.Market.{applicants, program_of}
use Rattle.mt_terms.specs.Rounds.{all_joined, is_on}
use Rattle.mt_terms.specs.declared.numbers.Agent.TheVariants.{Single}
use Rattle.mt_round_laws.proofs.RoundsKeep.{on_joined}
use Rattle.mt_round_laws.proofs.RoundsSets.{has_head}
use Rattle.mt_stage_tables.specs.Waiting.{with_agents, Waiting}
use Rattle.mt_watch.specs.Posts.{IsClosed, IsOpenFrom}
use Rattle.mt_rounds.specs.Waiting.{agents_of, blockers}
use Rattle.mt_rounds.proofs.JoinFacts.{joining_list}
use Rattle.mt_rounds.proofs.QuietFacts.{blocking}
use Rattle.mt_stage_tables.proofs.ListFacts.{drop_past}
use Rattle.mt_rounds.proofs.LookFacts.{Rest}
use Rattle.mt_assignment.proofs.MarketFacts.{read_within}
use Rattle.mt_couples.proofs.OneFacts.{no_couples, passes_last, passes_next}
use Rattle.mt_couples.proofs.recheck.Recheck.recheck_one_watched.Goals as goal

pub ranking-ranking-requires : goal.ranking-ranking-requires
ranking-ranking-requires g c = c.requires.ready.programs c.args.program (has_head c.args.program [])

pub singles-ranks-requires : goal.singles-ranks-requires
singles-ranks-requires g c = omega (arith, c.args.self.now.watched.one_each, c.requires.ready.programs c.args.program (has_head c.args.program []))

pub first_with_post-requires : goal.first_with_post-requires
first_with_post-requires g c = c.requires.ready.programs c.args.program (has_head c.args.program [])

pub join-requires : goal.join-requires
join-requires g c =
    let s = c.args.self.now.assignment.now in
    let k = c.args.self.now.last in
    let p = c.args.program in
    let xs = c.ranking-ranking.result.now in
    let in_list : c.in-Some.rank < length xs = omega (arith, ap length c.ranking-ranking.ensures.list, c.in-Some.ensures.some.within) in
    let x = c.index-ranking-rank.result in
    let x_in = read_within xs c.in-Some.rank x (applicants s.market) in_list c.index-ranking-rank.is c.ranking-ranking.ensures.within in
    let rest = filter (blocking k s) (agents_of s (drop c.loop-rank.next xs)) in
    let room = joining_list s.market c.args.waiting.now c.loop-rank.waiting rest (blockers s k p) c.requires.ready.list c.loop-rank.invariant.looking.joining in
    omega (arith, x_in, room.applicants_are)

pub loop-rank-preserved : goal.loop-rank-preserved
loop-rank-preserved g c =
    let s = c.args.self.now.assignment.now in
    let k = c.args.self.now.last in
    let p = c.args.program in
    let rows = c.args.self.now.watch.now.singles in
    let xs = c.ranking-ranking.result.now in
    let is_list = c.ranking-ranking.ensures.list in
    let ok = c.ranking-ranking.ensures.assigned in
    let start = c.args.waiting.now in
    let now = c.loop-rank.waiting in
    let new = c.join.new.self in
    let all = blockers s k p in
    let next = c.loop-rank.next in
    let r = c.in-Some.rank in
    let x = c.index-ranking-rank.result in
    let so_far = c.loop-rank.invariant in
    let known = c.requires.ready.programs p (has_head p []) in
    let couples = no_couples c.args.self.now p start c.in_ok-couples.couples c.is_empty.result c.is_empty.ensures c.if-not-is_empty.false c.in_ok-couples.ensures
    c.requires.ready.indexed known in
    let opened = subst (λ ranks. IsOpenFrom s p ranks next r) c.singles-ranks.ensures c.in-Some.ensures.some in
    let read : x ≡ get_or (program_of s.market p).ranking r x = c.index-ranking-rank.is ∙ ap (λ ys. get_or ys r x) is_list in
    let looking = subst (λ ys. Rest k s (p ∷ []) ok.well_formed start all ys now next) is_list so_far.looking in
    record {
      looking = subst (λ ys. Rest k s (p ∷ []) ok.well_formed start all ys new (r + 1)) (sym is_list)
          (passes_next k s p ok known rows c.args.self.now.watched start couples now new next r x opened read so_far.grows
          c.in_ok-join.ensures looking);
      grows = λ g on. ap (λ (w : Waiting). is_on w.agents g) c.in_ok-join.ensures ∙ on_joined now.agents (Single x) g
          ∙ or_left (is_on now.agents g) _ (so_far.grows g on);
      next_in = omega (arith, ap length is_list, opened.within);
    }

pub returns-clause-done : goal.returns-clause-done
returns-clause-done g c = λ done.
    let s = c.args.self.now.assignment.now in
    let k = c.args.self.now.last in
    let p = c.args.program in
    let rows = c.args.self.now.watch.now.singles in
    let xs = c.ranking-ranking.result.now in
    let is_list = c.ranking-ranking.ensures.list in
    let ok = c.ranking-ranking.ensures.assigned in
    let start = c.args.waiting.now in
    let now = c.loop-rank.waiting in
    let list = (program_of s.market p).ranking in
    let all = blockers s k p in
    let next = c.loop-rank.next in
    let so_far = c.loop-rank.invariant in
    let known = c.requires.ready.programs p (has_head p []) in
    let couples = no_couples c.args.self.now p start c.in_ok-couples.couples c.is_empty.result c.is_empty.ensures c.if-not-is_empty.false c.in_ok-couples.ensures
    c.requires.ready.indexed known in
    let closed = subst (λ ranks. (r : ℕ) → next ≤ r → IsClosed s p ranks r) c.singles-ranks.ensures c.in_default.ensures.none in
    let looking = subst (λ ys. Rest k s (p ∷ []) ok.well_formed start all ys now next) is_list so_far.looking in
    let next_in : next ≤ length list = omega (arith, ap length is_list, so_far.next_in) in
    let at_end = passes_last k s p ok known rows c.args.self.now.watched start couples now next next_in so_far.grows closed looking in
    ap (λ ys. with_agents now (all_joined now.agents (filter (blocking k s) (agents_of s ys)))) (sym (drop_past list (length list) (omega arith)))
    ∙ at_end.joining
