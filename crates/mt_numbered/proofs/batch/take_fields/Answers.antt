use Rattle.std.proofs.Common.{◌∙◌, arith}
use Rattle.std.proofs.lemmas.List.{length-set}
use Rattle.mt_lists.specs.Rows.{fields_left}
use Rattle.mt_numbered.proofs.BatchFacts.{fields-more}
use Rattle.mt_numbered.proofs.batch.take_fields.Goals as goal

pub loop-count-preserved : goal.loop-count-preserved
loop-count-preserved c =
    let within = c.loop-count-test.true in
    record {
      wide = length-set c.loop-count.fields c.loop-count.count c.in-Some.field ∙ c.loop-count.invariant.wide;
      few = omega (arith, within);
      taken = c.loop-count.invariant.taken
          ∙ fields-more c.loop-count.fields c.loop-count.count c.in-Some.field (fields_left c.loop-count.rest) (fields_left c.next.new.self) (omega (arith, within, c.loop-count.invariant.wide)) c.in-Some.ensures.steps;
    }
