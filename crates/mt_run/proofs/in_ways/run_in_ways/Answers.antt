use Rattle.std.proofs.Common.{◌≡◌, ◌∙◌, ap, refl}
use Rattle.mt_lists.specs.Tap.{bytes_left}
use Rattle.mt_terms.specs.Text.{refused}
use Rattle.mt_answer.specs.Refusals.{line_of}
use Rattle.mt_run_laws.proofs.FaultFacts.{refusals_are_not_zero}
use Rattle.mt_run_laws.proofs.WayFacts.{neither, published_in_to, refusals_are_not_six}
use Rattle.mt_run.proofs.in_ways.run_in_ways.Goals as goal

pub returns-in-Ok-clause-answers : goal.returns-in-Ok-clause-answers
returns-in-Ok-clause-answers g c =
    let both = published_in_to (bytes_left g.R.Read.remaining c.args.tap.now) c.args.options.budget c.args.ways c.in-Ok.answer.code c.in-Ok.answer.text.items c.requires.orders.0
    c.in-Ok.ensures.text in
    rw c.end.ensures.code (record {
      text = c.in-Ok.answer.text.items;
      is_written = rw c.deref.ensures.value at c.end.ensures.written;
      says = record {
        refusal = λ n s. absurd (neither c.in-Ok.answer.code c.in-Ok.ensures.published n s);
        stable = both.0;
        aside = both.1;
        answer = λ m r. c.in-Ok.ensures.text;
      };
    })

pub returns-in-Err-clause-answers : goal.returns-in-Err-clause-answers
returns-in-Err-clause-answers g c =
    let line : c.as_bytes-in-Err.result.now ≡ line_of c.in-Err.none.refusal =
    c.as_bytes-in-Err.ensures ∙ c.refused-line.ensures ∙ ap (refused c.in-Err.none.refusal.code c.in-Err.none.refusal.row) c.as_bytes.ensures.bytes in
    rw c.end-in-Err.ensures.code (record {
      text = line_of c.in-Err.none.refusal;
      is_written = rw line at c.end-in-Err.ensures.written;
      says = record {
        refusal = λ n s. record { row = c.in-Err.none.refusal.row; id = c.in-Err.none.refusal.id; named = c.in-Err.ensures.refused.named; line = refl };
        stable = λ none. absurd (refusals_are_not_zero c.in-Err.none.refusal.code c.in-Err.ensures.refused.named.known none);
        aside = λ six. absurd (refusals_are_not_six c.in-Err.none.refusal.code c.in-Err.ensures.refused.named.known six);
        answer = c.in-Err.ensures.refused.answer;
      };
    })
