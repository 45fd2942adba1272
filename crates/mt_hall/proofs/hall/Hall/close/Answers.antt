use Rattle.std.proofs.Common.{◌≡◌, ◌<◌, ℕ, sym, ap, ◌∙◌, subst, arith}
use Rattle.mt_terms.specs.Lists.{total_below}
use Rattle.mt_terms.specs.Market.{applicants}
use Rattle.mt_terms.specs.Floor.{proposals_made}
use Rattle.mt_terms.proofs.Totals.{total_below-same}
use Rattle.mt_tally.specs.Tally.{Tally}
use Rattle.mt_ranks.specs.Ranked.{Ranked}
use Rattle.mt_core.specs.Floors.{Tables, floor_of, IsOpenedWith}
use Rattle.mt_hall.specs.Audits.{made_in}
use Rattle.mt_hall.proofs.Auditing.{if_none_then, if_some}
use Rattle.mt_hall.proofs.hall.Hall.close.Goals as goal
use Rattle.mt_hall.proofs.hall.Hall.close.Goals.{then-is_none, else-is_none}

pub returns-clause-total : goal.returns-clause-total
returns-clause-total g c =
    let m = g.K.HallName.ranked.market in
    let rows = c.take_desks-astray.new.rows.items in
    elim c.if-is_none.branch [
      | then-is_none w ↦
          let made : (a : ℕ) → a < applicants m → (floor_of m c.if-is_none.floor).made a ≡ made_in rows a =
          subst (λ (r : Ranked). (a : ℕ) → a < applicants r.market → (floor_of r.market c.if-is_none.floor).made a ≡ made_in rows a) c.args.self.its_ranks
          (λ a low. ap (λ t. (floor_of c.args.self.ranks.now.market t).made a) w.floor-is ∙ w.write_rows.ensures.made a low ∙ ap (λ xs. made_in xs a) w.deref.ensures.value) in
          let same : proposals_made m (floor_of m c.if-is_none.floor) ≡ total_below (made_in rows) (applicants m) = total_below-same _ (made_in rows) (applicants m) made in
          let dealt = ap Tally.total c.into_roll-roll.ensures in
          let none = ap Tally.pass_credits c.into_roll-roll.ensures in
          let took = c.take_desks-astray.ensures in
          let taken = c.take_passes.ensures in
          if_none_then c.take_desks-astray.result
          (λ credits. omega (arith, same, credits, dealt, none, took.total, took.passes, taken.total, taken.desks, taken.credits, c.settle.ensures.total, c.settle.ensures.desks, c.settle.ensures.passes))
          took.credits
      | else-is_none w ↦ if_some c.take_desks-astray.result _ w.if-is_none.ensures
    ]

pub write_rows-requires-clause-len : goal.write_rows-requires-clause-len
write_rows-requires-clause-len g c = grind arith

pub write_rows-requires-clause-opened : goal.write_rows-requires-clause-opened
write_rows-requires-clause-opened g c = grind arith

pub settle-requires : goal.settle-requires
settle-requires g c = grind arith

pub agree-agrees-requires-clause-opened : goal.agree-agrees-requires-clause-opened
agree-agrees-requires-clause-opened g c =
    elim c.if-is_none.branch [
      | then-is_none w ↦ subst (λ (t : Tables). IsOpenedWith c.args.self.ranks.now.market t) (sym w.floor-is) w.write_rows.ensures.opened
      | else-is_none w ↦
          subst (λ (t : Tables). IsOpenedWith c.args.self.ranks.now.market t) (sym w.floor-is)
          (subst (λ (r : Ranked). IsOpenedWith r.market c.args.self.floor) (sym c.args.self.its_ranks) c.args.self.opened)
    ]

pub returns-clause-opened : goal.returns-clause-opened
returns-clause-opened g c =
    elim c.if-is_none.branch [
      | then-is_none w ↦
          subst (λ (r : Ranked). IsOpenedWith r.market c.if-is_none.floor) c.args.self.its_ranks
          (subst (λ (t : Tables). IsOpenedWith c.args.self.ranks.now.market t) (sym w.floor-is) w.write_rows.ensures.opened)
      | else-is_none w ↦ subst (λ (t : Tables). IsOpenedWith g.K.HallName.ranked.market t) (sym w.floor-is) c.args.self.opened
    ]
