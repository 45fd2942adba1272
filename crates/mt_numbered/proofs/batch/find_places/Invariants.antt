use Rattle.std.proofs.Common.{◌≡◌, length, map, take}
use Rattle.mt_numbered.specs.Batches.{place_among}
use Rattle.mt_numbered.proofs.batch.find_places.Given as goal

abbrev pub invariant-loop-i : goal.invariant-loop-i
invariant-loop-i g l = record {
  wide : length l.places ≡ 16;
  placed : take l.i l.places ≡ map (λ f. place_among l.ids.ids f.now) (take l.i l.fields);
}
