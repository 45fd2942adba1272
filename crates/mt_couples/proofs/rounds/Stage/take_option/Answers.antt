use Rattle.std.proofs.lemmas.Grind.{common_steps}
use Rattle.std.proofs.Common.{◌≡◌, ◌≤◌, ◌∙◌, ◌∷◌, ◌++◌, length, ℕ, true, refl, map, ap, ap₂, sym, arith, List, Vec, Global, OnOk, subst}
use Rattle.std.proofs.lemmas.Bool.{or_left}
use Rattle.std.proofs.lemmas.List.Folds.{list_any-append}
use Rattle.std.proofs.lemmas.Result.{on_ok_weaker, IfOk-from_err}
use Rattle.mt_terms.specs.Lists.{has, below}
use Rattle.mt_terms.specs.Market.{applicants, IsAgentOf}
use Rattle.mt_terms.specs.Rounds.{all_joined, is_on, is_same_agent}
use Rattle.mt_terms.specs.declared.numbers.Agent.{Agent}
use Rattle.mt_round_laws.proofs.RoundsLists.{has_in, of_kept, of_below}
use Rattle.mt_stage_tables.specs.Waiting.{with_agents, Waiting}
use Rattle.mt_assignment.specs.Assigned.{Assigned, AreSent}
use Rattle.mt_rounds.specs.Waiting.{agents_of, if_blocking, blockers_of, IsListOf, Joins}
use Rattle.mt_assignment.specs.Moves.{displaced_by, moved, IsTaking}
use Rattle.mt_rounds.specs.Running.{work_of, IsQuietBut}
use Rattle.mt_rounds.proofs.JoinFacts.{joined_list, joins_adds, joins_keeps, rest_list}
use Rattle.mt_rounds.proofs.QuietFacts.{quiet_but_left, waits_after}
use Rattle.mt_terms.specs.WellFormed.{IsWellFormed}
use Rattle.mt_watch.specs.Watching.{IsWatching, AreCounted, CountsAll, FollowsAll, IndexesAgent}
use Rattle.mt_terms.specs.Matching.{Placement}
use Rattle.mt_stage_tables.specs.Named.{indexed_count, AreNamed, Index}
use Rattle.mt_watch.specs.declared.watch.Watch.{Watch}
use Rattle.mt_assignment.specs.Watched.{AreWatched}
use Rattle.mt_watch.proofs.WatchFacts.{watched_after}
use Rattle.mt_watch.proofs.IndexFacts.{counted_after, indexed_after}
use Rattle.mt_rounds.proofs.RoundFacts.{front_within}
use Rattle.mt_assignment.proofs.MoveFacts.{are_sent, displaced_within}
use Rattle.mt_couples.proofs.rounds.Stage.take_option.Goals as goal

pub join_moved-requires-clause-displaced : goal.join_moved-requires-clause-displaced
join_moved-requires-clause-displaced g c = λ a on.
    let is = c.deref-2.ensures.value ∙ c.in_ok-moved.ensures.displaced in
    omega (arith, ap (λ (x : Assigned). applicants x.market) c.in_ok-moved.ensures.places, displaced_within c.requires.taking a (ap (λ xs. has xs a) (sym is) ∙ on))

pub join_moved-requires-clause-agent : goal.join_moved-requires-clause-agent
join_moved-requires-clause-agent g c = subst (λ (x : Assigned). IsAgentOf x.market c.args.agent) (sym c.in_ok-moved.ensures.places) (front_within c.requires.running)

pub join_moved-requires-clause-list : goal.join_moved-requires-clause-list
join_moved-requires-clause-list g c =
    subst (λ (s : Assigned). IsListOf s.market c.args.self.now.waiting) (sym c.in_ok-moved.ensures.places) (rest_list _ _ (c.args.agent ∷ c.args.self.now.waiting.agents) c.requires.running.waiting)

-- the agents of who is displaced join, and the one that moved, by the match before the move
moved_join : (s0 s1 : Assigned) (sent : Placement) (g : Agent) (old new : Waiting) (xs : List ℕ) → s1 ≡ moved s0 sent → xs ≡ displaced_by s0 sent → Joins old new (agents_of s1 xs ++ if_blocking s1 g)
    → Joins old new (agents_of s0 (displaced_by s0 sent) ++ if_blocking (moved s0 sent) g)
moved_join s0 s1 sent g old new xs after displaced joins = joins ∙ ap₂ (λ (x : Assigned) ys. with_agents old (all_joined old.agents (agents_of x ys ++ if_blocking x g))) after displaced

pub follow_sent-requires : goal.follow_sent-requires
follow_sent-requires g c =
    subst (λ (x : Assigned). AreSent x.market c.args.sent.now) (sym c.in_ok-moved.ensures.places) (are_sent c.requires.taking)

pub follow_displaced-requires : goal.follow_displaced-requires
follow_displaced-requires g c = λ a on.
    let is = c.deref.ensures.value ∙ c.in_ok-moved.ensures.displaced in
    omega (arith, ap (λ (x : Assigned). applicants x.market) c.in_ok-moved.ensures.places, displaced_within c.requires.taking a (ap (λ xs. has xs a) (sym is) ∙ on))

-- it is counted again after the move
counting : (s0 s1 : Assigned) (sent : Placement) (g : Agent) (w0 w1 w2 : Watch) (xs : List ℕ) → IsTaking s0.market s0.places g sent → s1 ≡ moved s0 sent → AreCounted s0 w0.better.items
    → CountsAll s1 w0 w1 (map (λ s. s.0) sent) → CountsAll s1 w1 w2 xs → xs ≡ displaced_by s0 sent → AreCounted s1 w2.better.items
counting s0 s1 sent g w0 w1 w2 xs taking after counted count recount displaced =
    let count' : CountsAll (moved s0 sent) w0 w1 (map (λ s. s.0) sent) =
    subst (λ (x : Assigned). CountsAll x w0 w1 (map (λ s. s.0) sent)) after count in
    let recount' : CountsAll (moved s0 sent) w1 w2 (displaced_by s0 sent) =
    subst (CountsAll (moved s0 sent) w1 w2) displaced
    (subst (λ (x : Assigned). CountsAll x w1 w2 xs) after recount) in
    subst (λ (x : Assigned). AreCounted x w2.better.items) (sym after) (counted_after taking w0 w1 w2 counted count' recount')

-- the singles are watched by the match after the move
following : (s0 s1 : Assigned) (sent : Placement) (g : Agent) (w0 w1 w2 : Watch) (xs : List ℕ) → IsTaking s0.market s0.places g sent → s1 ≡ moved s0 sent → AreWatched s0 w0.singles
    → FollowsAll s1 w0.singles w1.singles (map (λ s. s.0) sent) → FollowsAll s1 w1.singles w2.singles xs → xs ≡ displaced_by s0 sent → AreWatched s1 w2.singles
following s0 s1 sent g w0 w1 w2 xs taking after before first second displaced =
    let first' : FollowsAll (moved s0 sent) w0.singles w1.singles (map (λ s. s.0) sent) =
    subst (λ (x : Assigned). FollowsAll x w0.singles w1.singles (map (λ s. s.0) sent)) after first in
    let second' : FollowsAll (moved s0 sent) w1.singles w2.singles (displaced_by s0 sent) =
    subst (FollowsAll (moved s0 sent) w1.singles w2.singles) displaced
    (subst (λ (x : Assigned). FollowsAll x w1.singles w2.singles xs) after second) in
    subst (λ (x : Assigned). AreWatched x w2.singles) (sym after) (watched_after taking w0.singles w1.singles w2.singles before first' second')

-- the match after the move is watched
watching : (s0 s1 : Assigned) (sent : Placement) (g : Agent) (k : ℕ) (ws now : List Agent) (w0 w1 w2 w3 : Watch) (xs : List ℕ) → IsTaking s0.market s0.places g sent → s1 ≡ moved s0 sent
    → IsWatching k s0 (g ∷ ws) w0 → FollowsAll s1 w0.singles w1.singles (map (λ s. s.0) sent) → FollowsAll s1 w1.singles w2.singles xs → CountsAll s1 w0 w1 (map (λ s. s.0) sent) → CountsAll s1 w1 w2 xs
    → xs ≡ displaced_by s0 sent → w2.couples ≡ w0.couples → w3.singles ≡ w2.singles → w3.better ≡ w2.better → AreNamed s1.market w3.couples → IndexesAgent w2 w3 g
    → ((h : Agent) → is_on ws h ≡ true → is_on now h ≡ true) → ((h : Agent) → is_on (agents_of s0 (displaced_by s0 sent)) h ≡ true → is_on now h ≡ true) → IsWatching k s1 now w3
watching s0 s1 sent g k ws now w0 w1 w2 w3 xs taking after before first second count recount displaced couples singles better named indexes stay_on come_on =
    let counted : AreCounted s1 w3.better.items =
    subst (λ (v : Vec ℕ Global). AreCounted s1 v.items) (sym better) (counting s0 s1 sent g w0 w1 w2 xs taking after before.counted count recount displaced) in
    record {
      watched = subst (AreWatched s1) (sym singles) (following s0 s1 sent g w0 w1 w2 xs taking after before.watched first second displaced);
      named = named;
      counted = counted;
      indexed = indexed_after taking k ws now w0 w3 before.counted (subst (λ (x : Assigned). AreCounted x w3.better.items) after counted) before.indexed indexes.indexed
          (λ c. subst (λ (n : Index). indexed_count n c ≤ indexed_count w3.couples c) couples (indexes.keeps c)) stay_on come_on;
    }

pub index_mover-requires-clause-agent : goal.index_mover-requires-clause-agent
index_mover-requires-clause-agent g c = subst (λ (x : Assigned). IsAgentOf x.market c.args.agent) (sym c.in_ok-moved.ensures.places) (front_within c.requires.running)

pub index_mover-requires-clause-named : goal.index_mover-requires-clause-named
index_mover-requires-clause-named g c =
    subst (λ (x : Assigned). AreNamed x.market c.follow_displaced.new.self.couples) (sym c.in_ok-moved.ensures.places)
    (subst (AreNamed c.args.self.now.assignment.market) (sym (c.in_ok-follow_displaced.ensures.couples ∙ c.in_ok-follow_sent.ensures.couples)) c.requires.watched.named)

pub index_mover-requires-clause-counted : goal.index_mover-requires-clause-counted
index_mover-requires-clause-counted g c =
    counting c.args.self.now.assignment c.move_to.new.self c.args.sent.now c.args.agent c.args.self.now.watch c.follow_sent.new.self c.follow_displaced.new.self c.deref.result.now
    c.requires.taking c.in_ok-moved.ensures.places c.requires.watched.counted c.in_ok-follow_sent.ensures.better c.in_ok-follow_displaced.ensures.better
    (c.deref.ensures.value ∙ c.in_ok-moved.ensures.displaced)

-- who is displaced is among those that join
in_front : (gs hs : List Agent) (h : Agent) → is_on gs h ≡ true → is_on (gs ++ hs) h ≡ true
in_front gs hs h on = list_any-append (is_same_agent h) gs hs ∙ or_left (is_on gs h) (is_on hs h) on

pub recheck_left-requires-clause-ready : goal.recheck_left-requires-clause-ready
recheck_left-requires-clause-ready g c κs within =
    let s0 = c.args.self.now.assignment in
    let s1 = c.move_to.new.self in
    let programs = s0.market.programs in
    let old = c.args.self.now.waiting in
    let new = c.join_moved.new.waiting in
    let after = c.in_ok-moved.ensures.places in
    let left = c.deref-3.result.now in
    let left_is = c.deref-3.ensures.value ∙ c.in_ok-moved.ensures.left in
    let itself = if_blocking (moved s0 c.args.sent.now) c.args.agent in
    let out = agents_of s0 (displaced_by s0 c.args.sent.now) in
    let first = moved_join s0 s1 c.args.sent.now c.args.agent old new c.deref-2.result.now after (c.deref-2.ensures.value ∙ c.in_ok-moved.ensures.displaced) c.in_ok-join_moved.ensures in
    record {
      programs = λ p on.
          let kept = of_kept _ p (below (length programs)) (has_in p _ (ap (λ xs. has xs p) (sym left_is) ∙ on)) in
          omega (arith, ap (λ (x : Assigned). length x.market.programs) after, of_below p (length programs) kept.0);
      list = joined_list s1.market old new (agents_of s1 c.deref-2.result.now ++ if_blocking s1 c.args.agent)
          (subst (λ (x : Assigned). IsListOf x.market old) (sym after) (rest_list _ _ (c.args.agent ∷ old.agents) c.requires.running.waiting)) c.in_ok-join_moved.ensures;
      indexed = (watching s0 s1 c.args.sent.now c.args.agent c.args.self.now.last old.agents new.agents c.args.self.now.watch c.follow_sent.new.self c.follow_displaced.new.self c.index_mover.new.self
          c.deref.result.now c.requires.taking after c.requires.watched c.in_ok-follow_sent.ensures.singles c.in_ok-follow_displaced.ensures.singles c.in_ok-follow_sent.ensures.better
          c.in_ok-follow_displaced.ensures.better (c.deref.ensures.value ∙ c.in_ok-moved.ensures.displaced) (c.in_ok-follow_displaced.ensures.couples ∙ c.in_ok-follow_sent.ensures.couples)
          c.in_ok-index_mover.ensures.singles c.in_ok-index_mover.ensures.better c.in_ok-index_mover.ensures.named c.in_ok-index_mover.ensures.indexed
          (λ h on. joins_keeps old new (out ++ itself) h first on) (λ h on. joins_adds old new (out ++ itself) h first (in_front out itself h on))).indexed;
      quiet = λ so. subst (λ (x : Assigned). IsQuietBut c.args.self.now.last x left new.agents) (sym after)
          (subst (λ gs. IsQuietBut c.args.self.now.last (moved s0 c.args.sent.now) left gs) (sym (ap (λ (w : Waiting). w.agents) first))
          (quiet_but_left c.requires.taking c.args.self.now.last old.agents left (c.requires.running.is_quiet so) left_is));
    }

pub returns : goal.returns
returns g c =
    let s0 = c.args.self.now.assignment in
    let s1 = moved s0 c.args.sent.now in
    let after = c.in_ok-moved.ensures.places in
    let old = c.args.self.now.waiting in
    let mid = c.join_moved.new.waiting in
    let new = c.recheck_left.new.waiting in
    let left = c.deref-3.result.now in
    let out = agents_of s0 (displaced_by s0 c.args.sent.now) in
    let itself = if_blocking s1 c.args.agent in
    let again = blockers_of s1 c.args.self.now.last left in
    let first : Joins old mid (out ++ itself) =
    moved_join s0 c.move_to.new.self c.args.sent.now c.args.agent old mid c.deref-2.result.now after (c.deref-2.ensures.value ∙ c.in_ok-moved.ensures.displaced) c.in_ok-join_moved.ensures in
    let third : OnOk c.recheck_left.result (Joins mid new again) =
    on_ok_weaker c.recheck_left.result (λ (h : Joins mid new (blockers_of c.move_to.new.self c.args.self.now.last left)). h ∙ ap (λ (x : Assigned). with_agents mid (all_joined mid.agents (blockers_of x c.args.self.now.last left))) after)
    c.recheck_left.ensures in
    let all = λ (h : Joins mid new again). waits_after c.requires.taking c.args.self.now.last old mid new left first h (c.deref-3.ensures.value ∙ c.in_ok-moved.ensures.left) in
    record {
      watched = on_ok_weaker c.recheck_left.result (λ (last : Joins mid new again).
          watching s0 c.move_to.new.self c.args.sent.now c.args.agent c.args.self.now.last old.agents new.agents c.args.self.now.watch c.follow_sent.new.self
          c.follow_displaced.new.self c.index_mover.new.self c.deref.result.now c.requires.taking after c.requires.watched c.in_ok-follow_sent.ensures.singles c.in_ok-follow_displaced.ensures.singles
          c.in_ok-follow_sent.ensures.better c.in_ok-follow_displaced.ensures.better (c.deref.ensures.value ∙ c.in_ok-moved.ensures.displaced)
          (c.in_ok-follow_displaced.ensures.couples ∙ c.in_ok-follow_sent.ensures.couples) c.in_ok-index_mover.ensures.singles c.in_ok-index_mover.ensures.better c.in_ok-index_mover.ensures.named
          c.in_ok-index_mover.ensures.indexed (λ h on. joins_keeps mid new again h last (joins_keeps old mid (out ++ itself) h first on))
          (λ h on. joins_keeps mid new again h last (joins_adds old mid (out ++ itself) h first (in_front out itself h on)))) third;
      keeps = on_ok_weaker c.recheck_left.result (λ (last : Joins mid new again). record {
        market = ap (λ (x : Assigned). x.market) after;
        room = all last ∙ ap (λ (w : Waiting). with_agents old w.agents) (sym (all last));
        last = refl;
        quiet = refl;
      }) third;
      work = on_ok_weaker c.recheck_left.result (λ (last : Joins mid new again). ap₂ (λ (x : Assigned) (w : Waiting). work_of x w) after (all last)) third;
    }

-- the match after the move is well formed, its singles are watched, and its couples are indexed and counted
pub invariant_of-recheck : goal.invariant_of-recheck
invariant_of-recheck g c =
    let s0 = c.args.self.now.assignment in
    let s1 = c.move_to.new.self in
    let after = c.in_ok-moved.ensures.places in
    let displaced = c.deref.ensures.value ∙ c.in_ok-moved.ensures.displaced in
    record {
      well_formed = subst (λ (x : Assigned). IsWellFormed x.market) (sym after) c.requires.taking.well_formed;
      watched = subst (AreWatched s1) (sym c.in_ok-index_mover.ensures.singles)
          (following s0 s1 c.args.sent.now c.args.agent c.args.self.now.watch c.follow_sent.new.self c.follow_displaced.new.self c.deref.result.now
          c.requires.taking after c.requires.watched.watched c.in_ok-follow_sent.ensures.singles c.in_ok-follow_displaced.ensures.singles displaced);
      named = c.in_ok-index_mover.ensures.named;
      counted = subst (λ (v : Vec ℕ Global). AreCounted s1 v.items) (sym c.in_ok-index_mover.ensures.better)
          (counting s0 s1 c.args.sent.now c.args.agent c.args.self.now.watch c.follow_sent.new.self c.follow_displaced.new.self c.deref.result.now
          c.requires.taking after c.requires.watched.counted c.in_ok-follow_sent.ensures.better c.in_ok-follow_displaced.ensures.better displaced);
    }

pub returns-in_err-moved : goal.returns-in_err-moved
returns-in_err-moved g c = grind (arith, common_steps)

pub move_to-requires : goal.move_to-requires
move_to-requires g c = grind (arith, common_steps)

pub returns-in_err-index_mover : goal.returns-in_err-index_mover
returns-in_err-index_mover g c =
    let no = λ (P : Type 0). IfOk-from_err c.from_residual-in_err-index_mover.result (λ _. P) c.from_residual-in_err-index_mover.ensures.0 in
    record { keeps = no _; watched = no _; work = no _ }

pub returns-in_err-follow_sent : goal.returns-in_err-follow_sent
returns-in_err-follow_sent g c =
    let no = λ (P : Type 0). IfOk-from_err c.from_residual-in_err-follow_sent.result (λ _. P) c.from_residual-in_err-follow_sent.ensures.0 in
    record { keeps = no _; watched = no _; work = no _ }

pub returns-in_err-follow_displaced : goal.returns-in_err-follow_displaced
returns-in_err-follow_displaced g c =
    let no = λ (P : Type 0). IfOk-from_err c.from_residual-in_err-follow_displaced.result (λ _. P) c.from_residual-in_err-follow_displaced.ensures.0 in
    record { keeps = no _; watched = no _; work = no _ }
