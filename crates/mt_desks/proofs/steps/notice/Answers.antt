use Rattle.std.proofs.Common.{◌≡◌, false, rules, sym, subst}
use Rattle.mt_terms.specs.Best.{IsExcluded}
use Rattle.mt_terms.specs.declared.events.Reply.TheVariants.{Refused}
use Rattle.mt_desks.specs.Parts.{DeskView, IsComer, IsDesk}
use Rattle.mt_desks.specs.Steps.{ShowsExcluded}
use Rattle.mt_desks.proofs.Keeping.{entry_comes, desk_learns}
use Rattle.mt_desks.proofs.steps.notice.Goals as goal

pub meet-requires-clause-comer : goal.meet-requires-clause-comer
meet-requires-clause-comer g c =
    let m = g.K.HallName.ranked.market in
    let keeps : IsDesk m c.args.desk.now = subst (λ d. IsDesk m d) c.desk.view_is c.desk.invariant in
    subst (λ (d : DeskView). IsComer m d.applicant c.args.door.now.program) (sym c.desk.view_is) (entry_comes m c.args.desk.now c.args.door.now keeps c.requires.due)

pub invariant_of-desk : goal.invariant_of-desk
invariant_of-desk g c =
    let m = g.K.HallName.ranked.market in
    let keeps : IsDesk m c.args.desk.now = subst (λ d. IsDesk m d) c.desk.view_is c.desk.invariant in
    let refused : c.meet.result ≡ Refused = search rules in
    let shown : IsExcluded m c.desk.inside.applicant c.args.door.now.program = subst (ShowsExcluded m c.desk.inside.applicant c.args.door.now.program) refused c.meet.ensures.excluded in
    let out : IsExcluded m c.args.desk.now.applicant c.args.door.now.program = subst (λ (d : DeskView). IsExcluded m d.applicant c.args.door.now.program) c.desk.view_is shown in
    subst (λ (d : DeskView). IsDesk m (record { applicant = d.applicant; made = d.made; standing = false; credits = d.credits })) (sym c.desk.view_is)
    (desk_learns m c.args.desk.now c.args.door.now.program keeps c.requires.stands c.requires.due.entry out)

pub returns-else-eq-clause-excluded : goal.returns-else-eq-clause-excluded
returns-else-eq-clause-excluded g c =
    let m = g.K.HallName.ranked.market in
    let keeps : IsDesk m c.args.desk.now = subst (λ d. IsDesk m d) c.desk.view_is c.desk.invariant in
    (entry_comes m c.args.desk.now c.args.door.now keeps c.requires.due).above_excluded
