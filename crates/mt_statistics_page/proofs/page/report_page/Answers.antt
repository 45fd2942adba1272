use Rattle.std.proofs.Common.{◌∙◌, ℕ, List, ◌++◌, ap}
use Rattle.mt_statistics_page.specs.Charts.{choice_chart}
use Rattle.mt_statistics_page.specs.Page.{charts, choices, couples, open_programs, programs, report_page, totals}
use Rattle.mt_statistics_page.specs.declared.markup.TheConstants.{FOOT, HEAD}
use Rattle.mt_statistics_page.proofs.AppendFacts.{five, same_three, three}
use Rattle.mt_statistics_page.proofs.page.report_page.Goals as goal

pub returns : goal.returns
returns c =
    let r = c.args.statistics.now.registered in
    let places = c.args.statistics.now.places in
    let its_choices = same_three _ _ choice_chart _ _ _ _ _ _
    (c.deref.ensures.value ∙ c.in_ok-choices.ensures) c.choices_from-later.ensures c.unmatched_singles-unmatched.ensures
    c.in_ok-push_choice_chart.ensures.ok in
    let its_charts = three _ _ _ _ (choices r.market places) (couples r.market places) (programs r.market places)
    its_choices c.in_ok-push_couples.ensures.ok c.in_ok-push_programs.ensures.ok in
    five _ _ _ _ _ _ HEAD.now (totals r.market places) (charts r.market places) (open_programs r places) FOOT.now
    c.in_ok-push_text.ensures.ok c.in_ok-push_totals.ensures.ok its_charts
    c.in_ok-push_open.ensures.ok c.in_ok-push_text-2.ensures.ok
    ∙ ap (λ (start : List ℕ). start ++ report_page r places) c.new-text.ensures.items
