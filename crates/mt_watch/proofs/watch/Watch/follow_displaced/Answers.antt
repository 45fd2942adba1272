use Rattle.std.proofs.Common.{◌≡◌, ◌∙◌, ◌∷◌, ◌++◌, ◌+◌, [], take, ap, sym, subst}
use Rattle.std.proofs.lemmas.List.{take_more}
use Rattle.mt_watch.specs.Watching.{CountsAll, FollowsAll}
use Rattle.mt_stage_tables.proofs.PlaceFacts.{has_read}
use Rattle.mt_watch.proofs.WatchFacts.{counts_more, follows_more}
use Rattle.mt_watch.proofs.watch.Watch.follow_displaced.Goals as goal

pub follow-requires : goal.follow-requires
follow-requires c =
    c.requires c.applicant-item.result (has_read c.args.applicants.now c.loop-applicant.applicant-index c.applicant-item.result c.loop-applicant-test.true c.applicant-item.is)

pub loop-applicant-preserved : goal.loop-applicant-preserved
loop-applicant-preserved c =
    let s = c.args.assignment.now in
    let xs = c.args.applicants.now in
    let i = c.loop-applicant.applicant-index in
    let x = c.applicant-item.result in
    let old = c.args.self.now in
    let mid = c.loop-applicant.self in
    let new = c.follow.new.self in
    let so_far = c.loop-applicant.invariant in
    let more : take i xs ++ x ∷ [] ≡ take (i + 1) xs = ap (λ y. take i xs ++ y ∷ []) c.applicant-item.is ∙ sym (take_more xs i x c.loop-applicant-test.true) in
    record {
      couples = c.in_ok-follow.ensures.couples ∙ so_far.couples;
      singles = subst (FollowsAll s old.singles new.singles) more
          (follows_more s old.singles mid.singles new.singles (take i xs) x so_far.singles c.in_ok-follow.ensures.singles);
      better = subst (CountsAll s old new) more (counts_more s old mid new (take i xs) x so_far.better c.in_ok-follow.ensures.better);
    }
