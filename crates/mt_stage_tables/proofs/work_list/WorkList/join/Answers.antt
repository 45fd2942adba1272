use Rattle.std.proofs.Common.{◌≡◌, ◌∙◌, false, ap, subst, sym}
use Rattle.mt_terms.specs.Rounds.{is_on}
use Rattle.mt_stage_tables.specs.View.{waiting_in}
use Rattle.mt_stage_tables.specs.Waiting.{IsKnown, Waiting}
use Rattle.mt_stage_tables.proofs.FlagFacts.{flags_joined}
use Rattle.mt_stage_tables.proofs.work_list.WorkList.join.Goals as goal

pub invariant_of-self-then-not-is_waiting : goal.invariant_of-self-then-not-is_waiting
invariant_of-self-then-not-is_waiting c =
    let w = c.self.inside in
    let g = c.args.agent in
    let gs = w.agents.items in
    let within : IsKnown (waiting_in w) g = subst (λ (w : Waiting). IsKnown w g) (sym c.self.view_is) c.requires in
    let off : is_on gs g ≡ false = ap (λ (w : Waiting). is_on w.agents g) c.self.view_is ∙ sym c.is_waiting.ensures ∙ c.if-not-is_waiting.true in
    rw (c.set.ensures, c.in_ok-push_back.ensures.items) (flags_joined w.flags g gs c.self.invariant within off)
