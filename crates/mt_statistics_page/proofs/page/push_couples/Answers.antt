use Rattle.std.proofs.Common.{◌≡◌, ◌∙◌, ◌==◌, ap, arith, length, sym}
use Rattle.std.specs.Prelude.{IsFalse}
use Rattle.std.proofs.lemmas.Bool.Decides.{nat_tests}
use Rattle.mt_terms.specs.Market.{Registered}
use Rattle.mt_statistics_page.specs.Charts.{pair_chart}
use Rattle.mt_statistics_page.specs.Page.{members, pairs}
use Rattle.mt_statistics_page.specs.declared.markup.TheConstants.{NO_COUPLES}
use Rattle.mt_statistics_page.proofs.AppendFacts.{put_in, same_two, two}
use Rattle.mt_statistics_page.proofs.page.push_couples.Goals as goal

pub returns-in_ok-push_pair_chart : goal.returns-in_ok-push_pair_chart
returns-in_ok-push_pair_chart c =
    let m = c.args.statistics.now.registered.market in
    let places = c.args.statistics.now.places in
    let couples : c.couples.result ≡ length m.couples = c.couples.ensures.count ∙ ap (λ (r : Registered). length r.market.couples) c.roster.ensures in
    let some : IsFalse (c.couples.result == 0) = grind (arith, nat_tests, c.if-couples-eq0.false) in
    let its_pairs = same_two _ _ pair_chart _ _ _ _ c.requires c.pairs_from.ensures c.in_ok-push_pair_chart.ensures.ok in
    record {
      ok = put_in c.args.text.now.items _ NO_COUPLES.now _ (length m.couples == 0) (ap (λ n. n == 0) (sym couples) ∙ some)
          (two c.args.text.now.items _ _ (members m places) (pairs m places) c.in_ok-push_members.ensures.ok its_pairs);
    }
