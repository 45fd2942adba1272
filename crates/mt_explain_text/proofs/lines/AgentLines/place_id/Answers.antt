use Rattle.std.proofs.Common.{None, ap, sym, ◌∙◌, get_or, eq-eqb, refl}
use Rattle.mt_terms.specs.Matching.{Places, is_program}
use Rattle.mt_explain_text.proofs.lines.AgentLines.place_id.Goals as goal

pub program_id-requires : goal.program_id-requires
program_id-requires c =
    let place = c.place.ensures ∙ ap (λ (places : Places). get_or places c.args.applicant None) c.matched.ensures.places in
    c.matched.ensures.fits.within c.args.applicant c.in-Some.program
    (ap (is_program c.in-Some.program) (sym place ∙ c.in-Some.is) ∙ eq-eqb c.in-Some.program c.in-Some.program refl)
