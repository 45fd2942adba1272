use Rattle.std.proofs.Common.{◌≡◌, take}
use Rattle.mt_match_file.proofs.ids.applicant_ids.Given as goal

abbrev pub invariant-loop-number : goal.invariant-loop-number
invariant-loop-number l = l.table ≡ take l.number l.roster.names.applicants
