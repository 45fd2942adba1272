use Rattle.std.proofs.Common.{◌≡◌, ◌∙◌, ap, sym, is_some}
use Rattle.mt_terms.specs.Matching.{Places, place_of}
use Rattle.mt_findings.proofs.OpenFacts.{listed_by_rank}
use Rattle.mt_findings.proofs.allowed.is_listed.Goals as goal

pub returns-in-Some : goal.returns-in-Some
returns-in-Some c =
    let e = c.args.tables.now in
    let a = c.args.applicant in
    let at : c.place.result ≡ place_of e.places a = c.place.ensures ∙ ap (λ (places : Places). place_of places a) c.matched.ensures.places in
    c.is_some.ensures ∙ ap is_some c.rank_at_place.ensures
    ∙ listed_by_rank e.registered.market a c.in-Some.field-0 (place_of e.places a) (sym at ∙ c.in-Some.is)
