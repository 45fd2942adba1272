use Rattle.std.proofs.Common.{refl, sym, ap, ◌∙◌, subst}
use Rattle.mt_terms.specs.Floor.{Floor, IsRecorded, IsLegal, IsStrict, after, reply_of}
use Rattle.mt_terms.specs.declared.events.Event.{Event}
use Rattle.mt_terms.specs.declared.events.Event.TheVariants.{Propose, Notice}
use Rattle.mt_floor_laws.proofs.FloorEvents.{event_keeps_recorded_lem, event_keeps_legal_lem, event_keeps_strict_lem}
use Rattle.mt_core.specs.Floors.{floor_of}
use Rattle.mt_core.proofs.step.apply.Goals as goal

pub returns-in-Propose-clause-recorded : goal.returns-in-Propose-clause-recorded
returns-in-Propose-clause-recorded c =
    let m = c.args.ranks.now.market in
    subst (λ (x : Floor). IsRecorded m x) (sym c.propose.ensures.floor) (event_keeps_recorded_lem m (floor_of m c.args.floor.now) (Propose c.in-Propose.applicant) c.requires.recorded)

pub returns-in-Propose-clause-legal : goal.returns-in-Propose-clause-legal
returns-in-Propose-clause-legal c legal =
    let m = c.args.ranks.now.market in
    subst (λ (x : Floor). IsLegal m x) (sym c.propose.ensures.floor)
    (event_keeps_legal_lem m c.applicants-applicants.ensures.ranked.well_formed (floor_of m c.args.floor.now) (Propose c.in-Propose.applicant) legal)

pub returns-in-Propose-clause-strict : goal.returns-in-Propose-clause-strict
returns-in-Propose-clause-strict c strict =
    let m = c.args.ranks.now.market in
    subst (λ (x : Floor). IsStrict m x) (sym c.propose.ensures.floor)
    (event_keeps_strict_lem m c.applicants-applicants.ensures.ranked.well_formed (floor_of m c.args.floor.now) (Propose c.in-Propose.applicant) strict)

pub returns-in-Notice-clause-legal : goal.returns-in-Notice-clause-legal
returns-in-Notice-clause-legal c legal =
    let m = c.args.ranks.now.market in
    subst (λ (x : Floor). IsLegal m x) (sym c.notice.ensures.floor)
    (event_keeps_legal_lem m c.applicants-applicants.ensures.ranked.well_formed (floor_of m c.args.floor.now) (Notice c.in-Notice.applicant) legal)

pub returns-in-Notice-clause-strict : goal.returns-in-Notice-clause-strict
returns-in-Notice-clause-strict c strict =
    let m = c.args.ranks.now.market in
    subst (λ (x : Floor). IsStrict m x) (sym c.notice.ensures.floor)
    (event_keeps_strict_lem m c.applicants-applicants.ensures.ranked.well_formed (floor_of m c.args.floor.now) (Notice c.in-Notice.applicant) strict)

pub returns-in-Propose-clause-floor : goal.returns-in-Propose-clause-floor
returns-in-Propose-clause-floor c =
    let m = c.args.ranks.now.market in
    c.propose.ensures.floor ∙ ap (λ (e : Event). after m (floor_of m c.args.floor.now) e) (sym c.in-Propose.is)

pub returns-in-Propose-clause-reply : goal.returns-in-Propose-clause-reply
returns-in-Propose-clause-reply c =
    let m = c.args.ranks.now.market in
    c.propose.ensures.reply ∙ ap (λ (e : Event). reply_of m (floor_of m c.args.floor.now) e) (sym c.in-Propose.is)

pub returns-in-Propose-clause-not_due : goal.returns-in-Propose-clause-not_due
returns-in-Propose-clause-not_due c = c.propose.ensures.not_due

pub returns-in-Propose-clause-opened : goal.returns-in-Propose-clause-opened
returns-in-Propose-clause-opened c = c.propose.ensures.opened

pub returns-in-Notice-clause-floor : goal.returns-in-Notice-clause-floor
returns-in-Notice-clause-floor c =
    let m = c.args.ranks.now.market in
    c.notice.ensures.floor ∙ ap (λ (e : Event). after m (floor_of m c.args.floor.now) e) (sym c.in-Notice.is)

pub returns-in-Notice-clause-reply : goal.returns-in-Notice-clause-reply
returns-in-Notice-clause-reply c =
    let m = c.args.ranks.now.market in
    c.notice.ensures.reply ∙ ap (λ (e : Event). reply_of m (floor_of m c.args.floor.now) e) (sym c.in-Notice.is)

pub returns-in-Notice-clause-not_due : goal.returns-in-Notice-clause-not_due
returns-in-Notice-clause-not_due c = c.notice.ensures.not_due

pub returns-in-Notice-clause-opened : goal.returns-in-Notice-clause-opened
returns-in-Notice-clause-opened c = c.notice.ensures.opened

pub returns-in-Notice-clause-recorded : goal.returns-in-Notice-clause-recorded
returns-in-Notice-clause-recorded c =
    let m = c.args.ranks.now.market in
    subst (λ (x : Floor). IsRecorded m x) (sym c.notice.ensures.floor) (event_keeps_recorded_lem m (floor_of m c.args.floor.now) (Notice c.in-Notice.applicant) c.requires.recorded)

pub returns-in_default-clause-not_due : goal.returns-in_default-clause-not_due
returns-in_default-clause-not_due c e = refl

pub returns-in_default-clause-opened : goal.returns-in_default-clause-opened
returns-in_default-clause-opened c = c.requires.opened

pub returns-in_default-clause-recorded : goal.returns-in_default-clause-recorded
returns-in_default-clause-recorded c = c.requires.recorded

pub returns-in_default-clause-legal : goal.returns-in_default-clause-legal
returns-in_default-clause-legal c legal = legal

pub returns-in_default-clause-strict : goal.returns-in_default-clause-strict
returns-in_default-clause-strict c strict = strict
