use Rattle.std.proofs.Common.{IfSome, List, subst, sym}
use Rattle.mt_terms.specs.Market.{Registered}
use Rattle.mt_terms.specs.Registration.Accepted.{IsRegistration}
use Rattle.mt_explain.specs.declared.line.Line.{Line}
use Rattle.mt_explain_text.specs.Here.{IsHere}
use Rattle.mt_explain_text.proofs.NameFacts.{AreHere, both_here, lines_here}
use Rattle.mt_explain_text.proofs.lines.AgentLines.push_option.Goals as goal

both : (c : goal.After-lines-1)
    → IfSome c.option_lines-lines.result.0 (IsHere c.args.self.now.tables.registered.market)
    × IfSome c.option_lines-lines.result.1 (IsHere c.args.self.now.tables.registered.market)
both c =
    let r = c.args.self.now.tables.registered in
    let registration : IsRegistration r = subst (λ (x : Registered). IsRegistration x) c.roster.ensures c.is_of_a_file.ensures in
    both_here r.market c.option_lines-lines.result.0 c.option_lines-lines.result.1
    (subst (λ (lines : List Line). AreHere r.market lines) (sym c.option_lines-lines.ensures)
    (lines_here r registration c.args.self.now.tables.places c.args.agent.now c.requires.agent c.args.option c.args.option c.requires.option))

pub push_lines-requires-clause-first : goal.push_lines-requires-clause-first
push_lines-requires-clause-first c = (both c).0

pub push_lines-requires-clause-second : goal.push_lines-requires-clause-second
push_lines-requires-clause-second c = (both c).1
