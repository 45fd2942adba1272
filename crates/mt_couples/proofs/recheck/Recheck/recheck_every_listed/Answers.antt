use Rattle.std.proofs.Common.{◌≡◌, ◌∙◌, ◌++◌, ◌+◌, drop, ap, sym, subst}
use Rattle.std.proofs.lemmas.List.{drop_more}
use Rattle.mt_rounds.specs.Waiting.{blockers, blockers_of}
use Rattle.mt_rounds.proofs.JoinFacts.{AreJoining, joining_list, joining_some}
use Rattle.mt_stage_tables.proofs.PlaceFacts.{has_read}
use Rattle.mt_couples.proofs.recheck.Recheck.recheck_every_listed.Goals as goal

pub recheck_listed-requires-clause-program : goal.recheck_listed-requires-clause-program
recheck_listed-requires-clause-program c =
    c.requires.programs c.program-item.result (has_read c.args.left.now c.loop-program.program-index c.program-item.result c.loop-program-test.true c.program-item.is)

pub recheck_listed-requires-clause-list : goal.recheck_listed-requires-clause-list
recheck_listed-requires-clause-list c =
    let s = c.args.self.now.assignment.now in
    joining_list s.market c.args.waiting.now c.loop-program.waiting (blockers_of s c.args.self.now.last (drop c.loop-program.program-index c.args.left.now))
    (blockers_of s c.args.self.now.last c.args.left.now) c.requires.list c.loop-program.invariant

pub loop-program-preserved : goal.loop-program-preserved
loop-program-preserved c =
    let s = c.args.self.now.assignment.now in
    let p = c.program-item.result in
    let i = c.loop-program.program-index in
    let left = c.args.left.now in
    let all = blockers_of s c.args.self.now.last left in
    let rest = blockers_of s c.args.self.now.last (drop (i + 1) left) in
    let split : blockers_of s c.args.self.now.last (drop i left) ≡ blockers s c.args.self.now.last p ++ rest =
    ap (blockers_of s c.args.self.now.last) (drop_more left i p c.loop-program-test.true) ∙ ap (λ q. blockers s c.args.self.now.last q ++ rest) (sym c.program-item.is) in
    joining_some c.args.waiting.now c.loop-program.waiting c.recheck_listed.new.waiting (blockers s c.args.self.now.last p) rest all c.in_ok-recheck_listed.ensures
    (subst (λ gs. AreJoining c.args.waiting.now c.loop-program.waiting gs all) split c.loop-program.invariant)
