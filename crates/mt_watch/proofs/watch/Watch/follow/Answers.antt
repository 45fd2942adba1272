use Rattle.std.proofs.Common.{subst, sym}
use Rattle.mt_assignment.specs.Watched.{Follows}
use Rattle.mt_assignment.proofs.EntryFacts.{follows}
use Rattle.mt_watch.proofs.watch.Watch.follow.Goals as goal

pub returns-in-Couple-clause-singles : goal.returns-in-Couple-clause-singles
returns-in-Couple-clause-singles c =
    let s = c.args.assignment.now in
    let old = c.args.self.now.singles in
    let parts = c.live_parts.ensures in
    subst (λ rows. Follows s old rows c.args.applicant) (sym c.count.ensures.singles)
    (follows s parts.assigned c.args.applicant c.requires old c.unwatch_each.new.table c.watch_each.new.table _ _ parts.others parts.better c.unwatch_each.ensures c.in_ok-watch_each.ensures)

pub returns-in_default-clause-singles : goal.returns-in_default-clause-singles
returns-in_default-clause-singles c =
    let s = c.args.assignment.now in
    let old = c.args.self.now.singles in
    let parts = c.live_parts.ensures in
    follows s parts.assigned c.args.applicant c.requires old c.unwatch_each.new.table c.watch_each.new.table _ _ parts.others parts.better c.unwatch_each.ensures c.in_ok-watch_each.ensures
