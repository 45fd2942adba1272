use Rattle.std.proofs.Common.{◌≡◌, ◌≢◌, ℕ, ◌+◌, sym, ◌∙◌, arith, subst, ◌<◌, ◌^◌}
use Rattle.mt_terms.specs.declared.events.Reply.TheVariants.{Kept, KeptInstead, Refused, NotDue}
use Rattle.mt_core.specs.Floors.{floor_of}
use Rattle.mt_core.specs.Ends.{IsReached}
use Rattle.mt_core.proofs.Reaching.{reached_more, reached_recorded, reached_made, reached_at_most, reached_few}
use Rattle.mt_core.proofs.Settling.{IsNoProposal, step_reached, step_reached_none, step_kept, step_displaced, step_refused, step_not_due, named_applicant}
use Rattle.mt_core.proofs.settle.settle.Goals as goal
use Rattle.mt_core.proofs.settle.settle.Goals.{in-KeptInstead, in-Refused, After-go_on, At-loop-displaced, Joined-go_on}
use Rattle.mt_ranks.proofs.LiveMarket.{few_live}
use Rattle.mt_terms.specs.Floor.{IsRecorded}

kept_differs : Kept ≢ NotDue
kept_differs e = cc

displaced_differs : (d : ℕ) → KeptInstead d ≢ NotDue
displaced_differs d e = cc

refused_differs : Refused ≢ NotDue
refused_differs e = cc

-- the proposals up to a turn of the loop are few
few : (c : At-loop-displaced) → c.loop-displaced.proposals < 2 ^ 32
few c =
    let m = c.args.ranks.now.market in
    omega (arith, reached_few m (floor_of m c.args.floor.now) (floor_of m c.loop-displaced.floor) _ c.loop-displaced.invariant.reached c.requires.recorded, few_live c.args.ranks.now c.requires.ranked)

-- a step that proposes leads on by one, and one that doesn't by none
by_one : (c : After-go_on) → c.go_on.result ≢ NotDue → IsReached c.args.ranks.now.market (floor_of c.args.ranks.now.market c.loop-displaced.floor) (floor_of c.args.ranks.now.market c.go_on.new.floor) 1
by_one c due =
    let m = c.args.ranks.now.market in
    step_reached m (floor_of m c.loop-displaced.floor) (floor_of m c.go_on.new.floor) c.loop-displaced.applicant c.go_on.result c.go_on.ensures.step due

by_none : (c : After-go_on) → IsNoProposal c.go_on.result → IsReached c.args.ranks.now.market (floor_of c.args.ranks.now.market c.loop-displaced.floor) (floor_of c.args.ranks.now.market c.go_on.new.floor) 0
by_none c none =
    let m = c.args.ranks.now.market in
    step_reached_none m (floor_of m c.loop-displaced.floor) (floor_of m c.go_on.new.floor) c.loop-displaced.applicant c.go_on.result c.go_on.ensures.step none

-- all proposals up to behind a step
so_far : (c : After-go_on) (k : ℕ) → IsReached c.args.ranks.now.market (floor_of c.args.ranks.now.market c.loop-displaced.floor) (floor_of c.args.ranks.now.market c.go_on.new.floor) k
    → IsReached c.args.ranks.now.market (floor_of c.args.ranks.now.market c.args.floor.now) (floor_of c.args.ranks.now.market c.go_on.new.floor) (c.loop-displaced.proposals + k)
so_far c k on =
    let m = c.args.ranks.now.market in
    reached_more m (floor_of m c.args.floor.now) (floor_of m c.loop-displaced.floor) (floor_of m c.go_on.new.floor) c.loop-displaced.proposals k c.loop-displaced.invariant.reached on

recorded : (c : After-go_on) (k : ℕ) → IsReached c.args.ranks.now.market (floor_of c.args.ranks.now.market c.loop-displaced.floor) (floor_of c.args.ranks.now.market c.go_on.new.floor) k → IsRecorded c.args.ranks.now.market (floor_of c.args.ranks.now.market c.go_on.new.floor)
recorded c k on =
    let m = c.args.ranks.now.market in
    reached_recorded m (floor_of m c.loop-displaced.floor) (floor_of m c.go_on.new.floor) k on c.loop-displaced.invariant.recorded

pub overflow_add-result : goal.overflow_add-result
overflow_add-result c = omega (arith, few (goal.at.overflow_add-result c).At-loop-displaced)

pub overflow_add-proposals : goal.overflow_add-proposals
overflow_add-proposals c = omega (arith, few (goal.at.overflow_add-proposals c).At-loop-displaced)

pub returns-in-Kept-clause-reached : goal.returns-in-Kept-clause-reached
returns-in-Kept-clause-reached c = let b = (goal.at.returns-in-Kept-clause-reached c).After-go_on in so_far b 1 (by_one b (λ e. kept_differs (sym c.in-Kept.is ∙ e)))

pub returns-in-Kept-clause-recorded : goal.returns-in-Kept-clause-recorded
returns-in-Kept-clause-recorded c = let b = (goal.at.returns-in-Kept-clause-recorded c).After-go_on in recorded b 1 (by_one b (λ e. kept_differs (sym c.in-Kept.is ∙ e)))

pub returns-in-Kept-clause-settled : goal.returns-in-Kept-clause-settled
returns-in-Kept-clause-settled c n settled =
    let m = c.args.ranks.now.market in
    step_kept m (floor_of m c.loop-displaced.floor) (floor_of m c.go_on.new.floor) c.loop-displaced.applicant n c.go_on.result c.go_on.ensures.step c.in-Kept.is (c.loop-displaced.invariant.settled n settled)

pub returns-in-Noticed-clause-reached : goal.returns-in-Noticed-clause-reached
returns-in-Noticed-clause-reached c =
    let b = (goal.at.returns-in-Noticed-clause-reached c).After-go_on in
    let m = c.args.ranks.now.market in
    let same : c.loop-displaced.proposals + 0 ≡ c.loop-displaced.proposals = omega arith in
    subst (λ (k : ℕ). IsReached m (floor_of m c.args.floor.now) (floor_of m c.go_on.new.floor) k) same (so_far b 0 (by_none b c.in-Noticed.is))

pub returns-in-Noticed-clause-recorded : goal.returns-in-Noticed-clause-recorded
returns-in-Noticed-clause-recorded c = let b = (goal.at.returns-in-Noticed-clause-recorded c).After-go_on in recorded b 0 (by_none b c.in-Noticed.is)

pub returns-in-Noticed-clause-settled : goal.returns-in-Noticed-clause-settled
returns-in-Noticed-clause-settled c n settled =
    let m = c.args.ranks.now.market in
    step_not_due m (floor_of m c.loop-displaced.floor) (floor_of m c.go_on.new.floor) c.loop-displaced.applicant n c.go_on.result c.go_on.ensures.step c.loop-displaced.invariant.recorded c.in-Noticed.is
    (c.loop-displaced.invariant.settled n settled)

pub live-list-requires-in-KeptInstead : goal.live-list-requires-in-KeptInstead
live-list-requires-in-KeptInstead c =
    let m = c.args.ranks.now.market in
    named_applicant m c.requires.ranked.well_formed (floor_of m c.loop-displaced.floor) (floor_of m c.go_on.new.floor) c.loop-displaced.applicant c.in-KeptInstead.displaced c.go_on.result c.go_on.ensures.step
    c.in-KeptInstead.is

-- at the end of a turn somebody was displaced, or the applicant was refused, by a proposal
proposed : (c : Joined-go_on) → c.go_on.result ≢ NotDue
proposed c = elim c.match-go_on.branch [
  | in-KeptInstead w ↦ (λ e. displaced_differs w.in-KeptInstead.displaced (sym w.in-KeptInstead.is ∙ e))
  | in-Refused w ↦ (λ e. refused_differs (sym w.in-Refused.is ∙ e))
]

pub loop-displaced-smaller : goal.loop-displaced-smaller
loop-displaced-smaller c =
    let m = c.args.ranks.now.market in
    let f = floor_of m c.loop-displaced.floor in
    let h = floor_of m c.go_on.new.floor in
    let on = by_one (goal.at.loop-displaced-smaller c).After-go_on (proposed (goal.at.loop-displaced-smaller c).Joined-go_on) in
    omega (arith, reached_made m f h 1 on c.loop-displaced.invariant.recorded, reached_at_most m f h 1 on c.loop-displaced.invariant.recorded)

pub loop-displaced-preserved : goal.loop-displaced-preserved
loop-displaced-preserved c =
    let m = c.args.ranks.now.market in
    let f = floor_of m c.loop-displaced.floor in
    let h = floor_of m c.go_on.new.floor in
    let a = c.loop-displaced.applicant in
    let reply = c.go_on.result in
    let b = (goal.at.loop-displaced-preserved c).After-go_on in
    let on = by_one b (proposed (goal.at.loop-displaced-preserved c).Joined-go_on) in
    record {
      opened = c.go_on.ensures.opened;
      recorded = recorded b 1 on;
      applicant = elim c.match-go_on.branch [
        | in-KeptInstead w ↦ rw w.applicant-is (named_applicant m c.requires.ranked.well_formed f h a w.in-KeptInstead.displaced reply c.go_on.ensures.step w.in-KeptInstead.is)
        | in-Refused w ↦ rw w.applicant-is c.loop-displaced.invariant.applicant
      ];
      list = elim c.match-go_on.branch [
        | in-KeptInstead w ↦ rw (w.applicant-is, w.list-is) w.live-list-in-KeptInstead.ensures.list
        | in-Refused w ↦ rw (w.applicant-is, w.list-is) c.loop-displaced.invariant.list
      ];
      reached = so_far b 1 on;
      settled = λ n settled. elim c.match-go_on.branch [
        | in-KeptInstead w ↦ rw w.applicant-is (step_displaced m f h a w.in-KeptInstead.displaced n reply c.go_on.ensures.step w.in-KeptInstead.is (c.loop-displaced.invariant.settled n settled))
        | in-Refused w ↦ rw w.applicant-is (step_refused m f h a n reply c.go_on.ensures.step w.in-Refused.is (c.loop-displaced.invariant.settled n settled))
      ];
    }
