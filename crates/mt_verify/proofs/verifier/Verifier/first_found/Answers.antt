use Rattle.std.proofs.Common.{◌<◌, sym, ap, ◌∙◌}
use Rattle.rayon.specs.Lists.{range_start, range_end}
use Rattle.mt_terms.specs.Market.{applicants}
use Rattle.mt_verify.specs.Judged.{is_found}
use Rattle.mt_verify.specs.View.{judged}
use Rattle.mt_verify.proofs.FindFacts.{asked_below, found_by_threads}
use Rattle.mt_verify.proofs.verifier.Verifier.first_found.Goals as goal

pub find_first-requires-clause-items : goal.find_first-requires-clause-items
find_first-requires-clause-items g c κs within =
    let range = c.with_min_len.result.base in
    let many = applicants c.args.self.now.roster.now.market in
    asked_below (λ a. a < many) range.start range.end many (ap range_start c.with_min_len.ensures.base ∙ c.into_par_iter.ensures.0)
    (ap range_end c.with_min_len.ensures.base ∙ c.into_par_iter.ensures.1 ∙ c.applicants.ensures.count) (λ a a_in. a_in)

pub returns-in_err-found : goal.returns-in_err-found
returns-in_err-found g c =
    let self = c.args.self.now in
    let found = c.find_first.ensures in
    let range = c.with_min_len.result.base in
    c.from_residual.ensures ∙ sym c.in_err-found.was
    ∙ found_by_threads (is_found (judged self) c.args.with_blocking) range.start range.end (applicants self.roster.now.market) found.0 found.1 c.find_first.result
    (ap range_start c.with_min_len.ensures.base ∙ c.into_par_iter.ensures.0)
    (ap range_end c.with_min_len.ensures.base ∙ c.into_par_iter.ensures.1 ∙ c.applicants.ensures.count) found.2 found.3 found.4

pub returns : goal.returns
returns g c =
    let self = c.args.self.now in
    let found = c.find_first.ensures in
    let range = c.with_min_len.result.base in
    sym c.in_ok-found.was
    ∙ found_by_threads (is_found (judged self) c.args.with_blocking) range.start range.end (applicants self.roster.now.market) found.0 found.1 c.find_first.result
    (ap range_start c.with_min_len.ensures.base ∙ c.into_par_iter.ensures.0)
    (ap range_end c.with_min_len.ensures.base ∙ c.into_par_iter.ensures.1 ∙ c.applicants.ensures.count) found.2 found.3 found.4
