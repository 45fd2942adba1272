use Rattle.std.proofs.Common.{◌<◌, ◌-◌, ap, length, arith, drop}
use Rattle.std.proofs.lemmas.Grind.{common_steps}
use Rattle.mt_terms.proofs.BelowFacts.{length-map_below}
use Rattle.mt_terms.specs.Market.{agent_from}
use Rattle.mt_numbering.specs.Numbered.{bare_couples}
use Rattle.mt_numbering.proofs.NumberingTables.{agents_down}
use Rattle.mt_numbering.proofs.tables.agents.Goals as goal

pub join-requires-clause-first_within : goal.join-requires-clause-first_within
join-requires-clause-first_within c =
    let i : c.loop-number.number - 1 < length c.args.members.now = omega arith in
    let m = c.requires.within (c.loop-number.number - 1) c.index-members-number.result i in
    omega (arith, m.0, ap length c.loop-number.invariant, length-map_below (agent_from (bare_couples (drop c.loop-number.number c.args.members.now)) c.loop-number.number) c.args.count, ap length c.deref_mut.ensures.value)

pub join-requires-clause-second_within : goal.join-requires-clause-second_within
join-requires-clause-second_within c =
    let i : c.loop-number.number - 1 < length c.args.members.now = omega arith in
    let m = c.requires.within (c.loop-number.number - 1) c.index-members-number-in-loop-number.result i in
    omega (arith, m.1, ap length c.loop-number.invariant, length-map_below (agent_from (bare_couples (drop c.loop-number.number c.args.members.now)) c.loop-number.number) c.args.count, ap length c.deref_mut.ensures.value)

pub loop-number-preserved : goal.loop-number-preserved
loop-number-preserved c =
    agents_down c.args.members.now c.loop-number.number c.args.count _ _ c.loop-number.agents.items c.deref_mut.result.now c.join.new.agents _
    c.loop-number-test.true c.loop-number.auto.number c.requires.within c.loop-number.invariant c.deref_mut.ensures.value c.join.ensures c.loop-number.agents.ok.0

pub loop-number-init : goal.loop-number-init
loop-number-init c = grind (arith, common_steps)
