use Rattle.std.proofs.Common.{◌≡◌, sym, ap, ◌∙◌}
use Rattle.mt_terms.specs.Market.{Registered}
use Rattle.mt_terms.specs.Matching.{Places}
use Rattle.mt_terms.specs.Verdict.{verdict_of}
use Rattle.mt_verdict_laws.proofs.VerdictLemmas.{stable_verdict_lem}
use Rattle.mt_verify.proofs.verify.Goals as goal

pub returns-clause-stable : goal.returns-clause-stable
returns-clause-stable g c =
    let market = c.args.roster.now.market in
    let places = c.args.matched.now.places in
    let tables = c.in_ok-tables.tables in
    let is : c.verdict.result ≡ verdict_of market places =
    c.verdict.ensures ∙ ap (λ (r : Registered). verdict_of r.market tables.places) c.in_ok-tables.ensures.registered
    ∙ ap (λ (p : Places). verdict_of market p) c.in_ok-tables.ensures.places in
    let law = stable_verdict_lem market c.is_of_a_file.ensures.well_formed places c.requires.places.one_each in
    ((λ e. law.0 (sym is ∙ e)), (λ stable. is ∙ law.1 stable))
