use Rattle.std.proofs.Common.{◌≡◌, vec_len, replicate, All}
use Rattle.mt_desks.specs.declared.opening.Counts.{Counts}
use Rattle.mt_desks.proofs.opening.open_counts.Given as goal

abbrev pub invariant-loop-worker : goal.invariant-loop-worker
invariant-loop-worker l = record {
  len : vec_len l.counts ≡ l._worker;
  nothing : All (λ (c : Counts). (c.by_program.items ≡ replicate l.programs 0) × (c.by_applicant.items ≡ replicate l.applicants 0)) l.counts.items;
}
