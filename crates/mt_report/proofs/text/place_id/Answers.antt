use Rattle.std.proofs.Common.{ap, sym, ◌∙◌, arith}
use Rattle.std.proofs.lemmas.Bool.Decides.{nat_tests}
use Rattle.mt_terms.specs.Matching.{is_program}
use Rattle.mt_report.proofs.text.place_id.Goals as goal

pub program_id-requires : goal.program_id-requires
program_id-requires c =
    c.requires.within c.args.applicant c.in-Some.program
    (ap (is_program c.in-Some.program) (sym c.place.ensures ∙ c.in-Some.is) ∙ grind (arith, nat_tests))
