use Rattle.std.proofs.lemmas.Grind.{common_steps}
use Rattle.std.proofs.Common.{◌∙◌, ap, arith}
use Rattle.std.specs.List.{find}
use Rattle.std.specs.Option.{option_map}
use Rattle.mt_terms.specs.Matching.{single_placement}
use Rattle.mt_ranks.specs.declared.entries.Live.{Live}
use Rattle.mt_assignment.specs.Assigned.{has_post}
use Rattle.mt_assignment.proofs.LiveFacts.{entry_known, first_live}
use Rattle.mt_assignment.proofs.assignment.Assignment.first_program.Goals as goal

pub loop-entry-init : goal.loop-entry-init
loop-entry-init c =
    let s = c.args.self.now in
    let a = c.args.single in
    ap (λ es. option_map (single_placement a) (option_map (λ (e : Live). e.program) (find (λ (e : Live). has_post s e.program e.rank) es))) c.better_live-entry-items.ensures.list
    ∙ first_live s c.better_live-entry-items.ensures.assigned a c.requires

pub has_post-requires : goal.has_post-requires
has_post-requires c = rw c.unpacked-entry.ensures (record {
  program = entry_known c.args.self.now c.better_live-entry-items.ensures.assigned c.args.single c.requires c.better_live-entry-items.result.now c.loop-entry.entry-index c.entry-item.result
      c.better_live-entry-items.ensures.list c.loop-entry-test.true c.entry-item.is;
})

pub loop-entry-preserved : goal.loop-entry-preserved
loop-entry-preserved c = grind (arith, common_steps)

pub returns : goal.returns
returns c = grind (arith, common_steps)

pub returns-then-has_post : goal.returns-then-has_post
returns-then-has_post c = grind (arith, common_steps)
