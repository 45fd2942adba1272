use Rattle.std.proofs.Common.{◌≡◌, ℕ, IsTrue, if◌then◌else◌, nat_lt}
use Rattle.mt_terms.specs.Lists.{has}
use Rattle.mt_terms.specs.Best.{IsExcluded}
use Rattle.mt_terms.specs.Floor.{IsRecorded, passed_programs}
use Rattle.mt_core.specs.Floors.{floor_of, IsOpenedWith}
use Rattle.mt_hall.specs.Audits.{made_in}
use Rattle.mt_hall.proofs.audit.write_rows.Given as goal

abbrev pub invariant-loop-applicant : goal.invariant-loop-applicant
invariant-loop-applicant l =
    let m = l.ranks.market in
    let f = floor_of m l.floor in
    record {
      opened : IsOpenedWith m l.floor;
      recorded : IsRecorded m f;
      made : (b : ℕ) → f.made b ≡ (if nat_lt b l.applicant then made_in l.rows b else 0);
      passed : (b p : ℕ) → IsTrue (has (passed_programs m f b) p) → IsExcluded m b p;
    }
