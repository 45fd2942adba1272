use Rattle.std.proofs.Common.{◌≡◌, ◌≤◌, ◌++◌, length, map, take}
use Rattle.mt_lists.specs.Rows.{fields_left}
use Rattle.mt_numbered.proofs.batch.take_fields.Given as goal

abbrev pub invariant-loop-count : goal.invariant-loop-count
invariant-loop-count l = record {
  wide : length l.fields ≡ 16;
  few : l.count ≤ l.most;
  taken : fields_left l.fn.rest ≡ map (λ f. f.now) (take l.count l.fields) ++ fields_left l.rest;
}
