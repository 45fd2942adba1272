use Rattle.std.proofs.Common.{◌≡◌, ◌∙◌, ℕ, [], ap, ap₂, length, sym}
use Rattle.std.specs.Option.{option_map}
use Rattle.mt_terms.specs.Market.{Registered}
use Rattle.mt_terms.specs.Matching.{Places}
use Rattle.mt_terms.specs.Rounds.{stage}
use Rattle.mt_terms.specs.Stability.{fits}
use Rattle.mt_ranks.specs.Ranked.{ranked_of}
use Rattle.mt_order_laws.specs.Orders.{order_of}
use Rattle.mt_order_laws.specs.Reordered.{reordered_registered}
use Rattle.mt_order_laws.proofs.FormedFacts.{order_of_some}
use Rattle.mt_orders.proofs.MarketFacts.{best_fits, numbered_is_order, ranks_in_any_order_lem}
use Rattle.mt_orders.proofs.TriedFacts.{spent_is}
use Rattle.mt_orders.proofs.tried.Trial.end_of.Goals as goal

pub reordered-requires : goal.reordered-requires
reordered-requires g c =
    let m = c.args.self.now.roster.now.market in
    let o = numbered_is_order m c.args.number c.couples.result c.deref.result.now (c.deref.ensures.value ∙ c.in_ok-order.ensures) c.couples.ensures.count in
    order_of_some m [] c.deref.result.now o

pub enter_all-requires-clause-market : goal.enter_all-requires-clause-market
enter_all-requires-clause-market g c =
    let m = c.args.self.now.roster.now.market in
    let wf = c.couples.ensures.registration.well_formed in
    let o = numbered_is_order m c.args.number c.couples.result c.deref.result.now (c.deref.ensures.value ∙ c.in_ok-order.ensures) c.couples.ensures.count in
    record {
      ranks = c.requires.ranks ∙ sym (ranks_in_any_order_lem m c.deref.result.now wf o) ∙ ap (λ (r : Registered). ranked_of r.market) (sym c.in_ok-market.ensures);
      fitting = ap₂ (λ (r : Registered) (p : Places). fits r.market p) c.in_ok-market.ensures c.in_ok-singles.ensures
          ∙ best_fits m wf c.deref.result.now (order_of_some m [] c.deref.result.now o) c.args.self.now.singles.now.places c.requires.best;
    }

pub returns-in-Ok : goal.returns-in-Ok
returns-in-Ok g c =
    let t = c.args.self.now in
    let is : reordered_registered (order_of c.args.number (length t.roster.now.market.couples)) t.roster.now ≡ c.in_ok-market.market =
    ap (λ xs. reordered_registered xs t.roster.now) (sym (c.deref.ensures.value ∙ c.in_ok-order.ensures ∙ ap (order_of c.args.number) c.couples.ensures.count))
    ∙ sym c.in_ok-market.ensures in
    record {
      is = sym (ap (option_map (λ (r : Places × ℕ). r.0)) (ap₂ (λ (r : Registered) (p : Places). stage r.market p t.budget) is (sym c.in_ok-singles.ensures) ∙ c.in-Ok.ensures.entered));
    }

pub returns-in-Err-BudgetSpent : goal.returns-in-Err-BudgetSpent
returns-in-Err-BudgetSpent g c =
    let t = c.args.self.now in
    let is : reordered_registered (order_of c.args.number (length t.roster.now.market.couples)) t.roster.now ≡ c.in_ok-market.market =
    ap (λ xs. reordered_registered xs t.roster.now) (sym (c.deref.ensures.value ∙ c.in_ok-order.ensures ∙ ap (order_of c.args.number) c.couples.ensures.count))
    ∙ sym c.in_ok-market.ensures in
    record {
      is = sym (ap (option_map (λ (r : Places × ℕ). r.0)) (ap₂ (λ (r : Registered) (p : Places). stage r.market p t.budget) is (sym c.in_ok-singles.ensures) ∙ spent_is c.in_ok-market.market.market c.in_ok-singles.singles.places t.budget c.in-Err-BudgetSpent.field-0 c.in-Err-BudgetSpent.field-0-is c.in-Err-BudgetSpent.ensures.spent));
    }
