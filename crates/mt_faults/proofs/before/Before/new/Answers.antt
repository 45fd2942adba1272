use Rattle.std.proofs.Common.{rules}
use Rattle.mt_ids.proofs.KindFacts.{none_of_kinds}
use Rattle.mt_faults.proofs.before.Before.new.Goals as goal

pub returns : goal.returns
returns c = λ limits.
    let none = c.new.ensures in
    record {
      programs = search rules;
      couples = search rules;
      applicants = search rules;
      entries = search rules;
      withdrawn = none_of_kinds c.new.result none.programs none.applicants none.couples;
    }
