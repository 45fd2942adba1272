-- The answer that each end of the couples' stage makes, in the ways in which they may enter.
use Rattle.std.proofs.Common.{◌≡◌, ℕ, ◌<◌, true, false, List, [], length, Option, None, refl, sym, ap, ap₂, subst, ◌∙◌}
use Rattle.mt_terms.specs.Best.{IsBest}
use Rattle.mt_terms.specs.Market.{Market, Registered}
use Rattle.mt_terms.specs.Matching.{Places}
use Rattle.mt_terms.specs.Rounds.{stage}
use Rattle.mt_terms.specs.Text.{name_of, published, refused}
use Rattle.mt_entry.specs.Ended.{IsSpent}
use Rattle.mt_entry.specs.declared.ends.Spent.{Spent}
use Rattle.mt_order_laws.specs.Orders.{first_order, in_order}
use Rattle.mt_order_laws.proofs.EndFacts.{entering_in_words_lem}
use Rattle.mt_orders.specs.Tried.{EndsFirst}
use Rattle.mt_orders.specs.Fewest.{aside_in_order, fewest_order, IsAsideInOrder}
use Rattle.mt_orders.specs.declared.without.Aside.{Aside}
use Rattle.mt_report.specs.Aside.{published_aside}
use Rattle.mt_answer.specs.Answer.{IsAnswerOfStage, all_proposals}
use Rattle.mt_answer.specs.Ways.{IsAnswerAside, IsAnswerInWays, IsAnswerOfNone, IsAnswerOfOrder, IsEntering}
use Rattle.mt_answer.specs.declared.ways.Entering.{Entering}
use Rattle.mt_answer.specs.declared.ways.Ways.{Ways}

-- the couple that was entering is one of the market
pub entering_within : (m : Market) (best : Places) (budget : ℕ) (s : Spent) → IsSpent m best budget s → s.couple < length m.couples
entering_within m best budget s h = ((entering_in_words_lem m best budget s.couple).0 h.entering).0

module _ (r : Registered) (best : Places) (is_best : IsBest r.market best) (budget : ℕ) where
  -- an order ends
  pub ends_first : (ways : Ways) (places : Places) (received text : List ℕ) → EndsFirst r.market best budget ways.orders places → received ≡ all_proposals r best
      → text ≡ published r.market r.names places received → IsAnswerInWays r budget ways 0 text
  ends_first ways places received text h made is = record {
    best = best;
    is_best = is_best;
    ends =
        let told : text ≡ published r.market r.names places (all_proposals r best) = is ∙ ap (published r.market r.names places) made in
        let of_stage : IsAnswerOfStage r best (stage (in_order h.number r.market) best budget) 0 text =
        subst (λ (s : Option (Places × ℕ)). IsAnswerOfStage r best s 0 text) (sym h.ends) (refl, told) in
        subst (λ (o : Option ℕ). IsAnswerOfOrder r best budget ways o 0 text) (sym h.first) of_stage;
  }

  -- none ends, and none may be set aside
  pub none_ends : (ways : Ways) → ways.set_aside ≡ false → first_order r.market best budget ways.orders ≡ None → IsAnswerInWays r budget ways 41 (refused 41 0 [])
  none_ends ways unset none = record {
    best = best;
    is_best = is_best;
    ends = rw (none, unset) (refl, refl);
  }

  -- none ends, and couples are set aside
  pub others_end : (ways : Ways) (code : ℕ) (text : List ℕ) → ways.set_aside ≡ true → first_order r.market best budget ways.orders ≡ None
      → IsAnswerOfNone r best budget ways.orders true code text → IsAnswerInWays r budget ways code text
  others_end ways code text set none h = record {
    best = best;
    is_best = is_best;
    ends = rw (none, set) h;
  }

  pub aside_answers : (orders : ℕ) (a : Aside) (received text : List ℕ) → IsAsideInOrder r.market best budget (fewest_order r.market best budget orders) a
      → received ≡ all_proposals r best → text ≡ published_aside r.market r.names a.matched.places received a.couples.items → IsAnswerOfNone r best budget orders true 6 text
  aside_answers orders a received text h made is =
      let k = fewest_order r.market best budget orders in
      let aside = aside_in_order k r.market best budget in
      let told : text ≡ published_aside r.market r.names a.matched.places (all_proposals r best) aside =
      is ∙ ap₂ (λ (xs cs : List ℕ). published_aside r.market r.names a.matched.places xs cs) made h.couples in
      subst (λ (s : Option (Places × ℕ)). IsAnswerAside r best aside s 6 text) (sym h.ends) (refl, told)

  -- which couple was entering
  pub spent_is : (s : Spent) (e : Entering) → IsSpent r.market best budget s → e.id ≡ name_of r.names.couples s.couple → e.rounds ≡ s.rounds → e.comes_back ≡ s.comes_back
      → IsEntering r budget e
  spent_is s e h id rounds comes_back = record {
    best = best;
    is_best = is_best;
    couple = s.couple;
    entering = h.entering;
    id = id;
    within = rw rounds h.within;
    all_made = λ no. rounds ∙ h.all_made (sym comes_back ∙ no);
    endless = λ some. h.endless (sym comes_back ∙ some);
  }
