use Rattle.std.proofs.Common.{sym, ap, ◌∙◌, subst}
use Rattle.mt_terms.specs.Floor.{Floor, IsRecorded, held_set, after, reply_of}
use Rattle.mt_terms.specs.declared.events.Event.TheVariants.{Propose, Notice}
use Rattle.mt_floor_laws.proofs.FloorEvents.{event_keeps_recorded_lem}
use Rattle.mt_core.specs.Floors.{floor_of}
use Rattle.mt_core.proofs.Settling.{held_through_notice}
use Rattle.mt_core.proofs.settle.go_on.Goals as goal

pub propose-requires-clause-recorded : goal.propose-requires-clause-recorded
propose-requires-clause-recorded c =
    let m = c.args.ranks.now.market in
    subst (λ (x : Floor). IsRecorded m x) (sym c.notice.ensures.floor) (event_keeps_recorded_lem m (floor_of m c.args.floor.now) (Notice c.args.applicant) c.requires.recorded)

pub returns-clause-step : goal.returns-clause-step
returns-clause-step c =
    let m = c.args.ranks.now.market in
    let a = c.args.applicant in
    record {
      floor = c.propose.ensures.floor ∙ ap (λ f. after m f (Propose a)) c.notice.ensures.floor;
      reply = c.propose.ensures.reply ∙ ap (λ f. reply_of m f (Propose a)) c.notice.ensures.floor;
      displaced = λ b p on out. c.propose.ensures.displaced b p
          (ap (λ f. held_set m f p b) c.notice.ensures.floor ∙ held_through_notice m (floor_of m c.args.floor.now) a p b ∙ on) out;
    }
