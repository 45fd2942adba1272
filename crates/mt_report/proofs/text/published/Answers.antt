use Rattle.std.proofs.Common.{arith}
use Rattle.mt_report.proofs.text.published.Goals as goal

pub push_totals-requires-clause-places : goal.push_totals-requires-clause-places
push_totals-requires-clause-places c = grind arith

pub push_programs-requires-clause-received : goal.push_programs-requires-clause-received
push_programs-requires-clause-received c = omega arith

pub push_totals-requires-clause-counts : goal.push_totals-requires-clause-counts
push_totals-requires-clause-counts c = grind arith

pub filled_counts-requires-clause-within : goal.filled_counts-requires-clause-within
filled_counts-requires-clause-within c = grind arith

pub push_applicants-requires : goal.push_applicants-requires
push_applicants-requires c = grind arith

pub push_programs-requires-clause-counts : goal.push_programs-requires-clause-counts
push_programs-requires-clause-counts c = grind arith
