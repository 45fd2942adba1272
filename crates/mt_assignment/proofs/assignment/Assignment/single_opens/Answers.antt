use Rattle.std.proofs.lemmas.Grind.{common_steps}
use Rattle.std.proofs.Common.{◌∙◌, ◌&&◌, ap, arith}
use Rattle.std.specs.List.{list_any}
use Rattle.mt_terms.specs.Lists.{has}
use Rattle.mt_ranks.specs.declared.entries.Live.{Live}
use Rattle.mt_assignment.specs.Assigned.{has_post}
use Rattle.mt_assignment.proofs.LiveFacts.{entry_known, opens_live}
use Rattle.mt_assignment.proofs.assignment.Assignment.single_opens.Goals as goal

pub loop-entry-init : goal.loop-entry-init
loop-entry-init c =
    let s = c.args.self.now in
    ap (list_any (λ (e : Live). has c.args.programs.now e.program && has_post s e.program e.rank)) c.better_live-entry-items.ensures.list
    ∙ opens_live s c.better_live-entry-items.ensures.assigned c.args.single c.requires c.args.programs.now

pub has_post-requires : goal.has_post-requires
has_post-requires c = rw c.unpacked-entry.ensures (record {
  program = entry_known c.args.self.now c.better_live-entry-items.ensures.assigned c.args.single c.requires c.better_live-entry-items.result.now c.loop-entry.entry-index c.entry-item.result
      c.better_live-entry-items.ensures.list c.loop-entry-test.true c.entry-item.is;
})

pub loop-entry-preserved : goal.loop-entry-preserved
loop-entry-preserved c = grind (arith, common_steps)

pub returns : goal.returns
returns c = grind (arith, common_steps)

pub returns-then-has_post : goal.returns-then-has_post
returns-then-has_post c = grind (arith, common_steps)
