use Rattle.std.proofs.Common.{◌≡◌, ◌∙◌, ap, arith}
use Rattle.mt_lists.specs.Lines.{is_quote}
use Rattle.mt_lists.proofs.LineFacts.{none_at_all}
use Rattle.mt_line_numbers.specs.LineEnds.{line_ends}
use Rattle.mt_line_numbers.proofs.EndFacts.{ends-line}
use Rattle.mt_line_numbers.proofs.ScanFacts.{after-line}
use Rattle.mt_line_numbers.proofs.place.Place.next_record.Goals as goal

pub invariant_of-past_line_ends : goal.invariant_of-past_line_ends
invariant_of-past_line_ends c =
    let same : line_ends c.args.self.rest.now ≡ line_ends c.first_line.result.1.now =
    ap line_ends c.first_line.ensures.whole ∙ ends-line c.first_line.result.0.now c.first_line.result.1.now c.first_line.ensures.one in
    record { few = omega (arith, same, c.args.self.few) }

pub returns-in-None-clause-rest : goal.returns-in-None-clause-rest
returns-in-None-clause-rest c =
    let unquoted = none_at_all is_quote c.first_line.result.0.now (λ k lt. c.in-None.ensures k (omega arith) lt) in
    c.past_line_ends-in-None.ensures.rest ∙ after-line c.args.self.rest.now c.first_line.result.0.now c.first_line.result.1.now c.first_line.ensures c.requires unquoted

pub returns-in-None-clause-lines : goal.returns-in-None-clause-lines
returns-in-None-clause-lines c =
    let same : line_ends c.args.self.rest.now ≡ line_ends c.first_line.result.1.now =
    ap line_ends c.first_line.ensures.whole ∙ ends-line c.first_line.result.0.now c.first_line.result.1.now c.first_line.ensures.one in
    omega (arith, same, c.past_line_ends-in-None.ensures.lines)
