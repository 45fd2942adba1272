use Rattle.std.proofs.Common.{◌≡◌, IfNone, sym, subst}
use Rattle.mt_terms.specs.Floor.{IsLegal, proposals_made}
use Rattle.mt_ranks.specs.Ranked.{Ranked}
use Rattle.mt_core.specs.Floors.{floor_of, IsOpenedWith}
use Rattle.mt_hall.specs.Audits.{all_agree, all_proposals}
use Rattle.mt_crew.proofs.crew.audited_singles.Goals as goal

pub singles_of-requires-clause-opened : goal.singles_of-requires-clause-opened
singles_of-requires-clause-opened g c = subst (λ (r : Ranked). IsOpenedWith r.market c.close-audit.result.floor) (sym c.requires.ranks) c.close-audit.ensures.opened

pub singles_of-requires-clause-legal : goal.singles_of-requires-clause-legal
singles_of-requires-clause-legal g c = subst (λ (r : Ranked). IsLegal r.market (floor_of r.market c.close-audit.result.floor)) (sym c.requires.ranks) c.close-audit.ensures.legal

pub returns-clause-closing : goal.returns-clause-closing
returns-clause-closing g c =
    let audit = c.close-audit.result in
    let passes = c.args.passes.items in
    record {
      floor = floor_of c.args.ranks.now.market audit.floor;
      is_legal = subst (λ (r : Ranked). IsLegal r.market (floor_of r.market audit.floor)) (sym c.requires.ranks) c.close-audit.ensures.legal;
      agrees = subst (λ (r : Ranked). audit.agrees ≡ all_agree r (floor_of r.market audit.floor) passes) (sym c.requires.ranks) c.close-audit.ensures.agrees;
      astray = c.close-audit.ensures.astray;
      made = subst (λ (r : Ranked). IfNone audit.astray (proposals_made r.market (floor_of r.market audit.floor) ≡ all_proposals passes)) (sym c.requires.ranks) c.close-audit.ensures.total;
      late = c.in_ok-singles.ensures.late;
    }
