use Rattle.std.proofs.Common.{◌≡◌, ◌∙◌, ◌∷◌, ◌++◌, ◌+◌, [], map, take, ap, sym, subst}
use Rattle.std.proofs.lemmas.List.{map-append, take_more}
use Rattle.mt_watch.specs.Watching.{CountsAll, FollowsAll}
use Rattle.mt_assignment.proofs.SentFacts.{sent_within}
use Rattle.mt_watch.proofs.WatchFacts.{counts_more, follows_more}
use Rattle.mt_watch.proofs.watch.Watch.follow_sent.Goals as goal

pub follow-requires : goal.follow-requires
follow-requires c = sent_within c.args.assignment.now.market c.args.sent.now c.loop-seat.seat-index c.seat-item.result c.requires c.loop-seat-test.true c.seat-item.is

pub loop-seat-preserved : goal.loop-seat-preserved
loop-seat-preserved c =
    let s = c.args.assignment.now in
    let xs = c.args.sent.now in
    let i = c.loop-seat.seat-index in
    let x = c.seat-item.result in
    let old = c.args.self.now in
    let mid = c.loop-seat.self in
    let new = c.follow.new.self in
    let so_far = c.loop-seat.invariant in
    let front = map (λ y. y.0) (take i xs) in
    let more : front ++ x.0 ∷ [] ≡ map (λ y. y.0) (take (i + 1) xs) =
    ap (λ y. front ++ y.0 ∷ []) c.seat-item.is ∙ sym (ap (map (λ y. y.0)) (take_more xs i x c.loop-seat-test.true) ∙ map-append (λ y. y.0) (take i xs) _) in
    record {
      couples = c.in_ok-follow.ensures.couples ∙ so_far.couples;
      singles = subst (FollowsAll s old.singles new.singles) more
          (follows_more s old.singles mid.singles new.singles front x.0 so_far.singles c.in_ok-follow.ensures.singles);
      better = subst (CountsAll s old new) more (counts_more s old mid new front x.0 so_far.better c.in_ok-follow.ensures.better);
    }
