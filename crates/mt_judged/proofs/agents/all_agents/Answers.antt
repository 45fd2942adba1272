use Rattle.std.proofs.Common.{◌≡◌, ◌++◌, ◌∷◌, [], ◌∙◌, ap, sym, arith}
use Rattle.std.specs.Prelude.{Vec}
use Rattle.std.specs.Global.{Global}
use Rattle.mt_terms.specs.Market.{applicants}
use Rattle.mt_terms.specs.declared.numbers.Agent.{Agent}
use Rattle.mt_judged.proofs.AgentFacts.{agents_with, agents_without}
use Rattle.mt_judged.proofs.agents.all_agents.Goals.{then-leads+in_ok-push, else-leads}
use Rattle.mt_judged.proofs.agents.all_agents.Goals as goal

pub loop-number-preserved : goal.loop-number-preserved
loop-number-preserved c =
    let m = c.args.roster.now.market in
    let n = c.loop-number.number in
    elim c.if-leads.branch [
      | then-leads+in_ok-push w ↦
          ap (λ (v : Vec Agent Global). v.items) w.agents-is ∙ w.in_ok-push.ensures.items
          ∙ ap (λ (g : Agent). c.loop-number.agents.items ++ g ∷ []) w.agent_of.ensures
          ∙ agents_with m n c.loop-number.agents.items (sym c.leads.ensures ∙ w.if-leads.true) c.loop-number.invariant
      | else-leads w ↦
          ap (λ (v : Vec Agent Global). v.items) w.agents-is
          ∙ agents_without m n c.loop-number.agents.items (sym c.leads.ensures ∙ w.if-leads.false) c.loop-number.invariant
    ]

pub returns : goal.returns
returns c =
    let end : c.loop-number.number ≡ applicants c.args.roster.now.market = omega (arith, c.applicants-number-end.ensures.count) in
    rw (← end) c.loop-number.invariant
