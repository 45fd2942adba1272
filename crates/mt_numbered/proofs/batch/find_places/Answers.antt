use Rattle.std.proofs.Common.{◌∙◌, arith}
use Rattle.std.proofs.lemmas.List.{length-set}
use Rattle.mt_numbered.proofs.BatchFacts.{places-more}
use Rattle.mt_numbered.proofs.batch.find_places.Goals as goal

pub loop-i-preserved : goal.loop-i-preserved
loop-i-preserved g c =
    let within = c.loop-i-test.true in
    record {
      wide = length-set c.loop-i.places c.loop-i.i c.place.result ∙ c.loop-i.invariant.wide;
      placed = places-more c.args.ids.now.ids c.args.fields.now c.loop-i.places c.loop-i.i _ c.place.result (omega (arith, within)) (omega (arith, within, c.requires, c.loop-i.invariant.wide))
          c.place.ensures c.loop-i.invariant.placed;
    }
