use Rattle.std.proofs.Common.{◌≡◌, ◌∙◌, ap, refl}
use Rattle.mt_lists.specs.Tap.{bytes_left}
use Rattle.mt_terms.specs.Text.{refused}
use Rattle.mt_answer.specs.Refusals.{line_of}
use Rattle.mt_run_laws.proofs.FaultFacts.{refusals_are_not_zero}
use Rattle.mt_run_laws.proofs.HeadlineLemmas.{published_to, publishes_singles}
use Rattle.mt_run.proofs.whole.run.Goals as goal

pub returns-in-Ok-clause-answers : goal.returns-in-Ok-clause-answers
returns-in-Ok-clause-answers g c =
    rw c.end.ensures.code (record {
      text = c.in-Ok.text.items;
      is_written = rw c.deref.ensures.value at c.end.ensures.written;
      says = record {
        refusal = λ n. absurd (n refl);
        stable = λ none. published_to (bytes_left g.R.Read.remaining c.args.tap.now) c.args.options.budget c.in-Ok.text.items c.in-Ok.ensures.text;
        answer = λ m r. c.in-Ok.ensures.text;
      };
    })

pub returns-in-Err-clause-answers : goal.returns-in-Err-clause-answers
returns-in-Err-clause-answers g c =
    let line : c.as_bytes-in-Err.result.now ≡ line_of c.in-Err.refusal =
    c.as_bytes-in-Err.ensures ∙ c.refused-line.ensures ∙ ap (refused c.in-Err.refusal.code c.in-Err.refusal.row) c.as_bytes.ensures.bytes in
    rw c.end-in-Err.ensures.code (record {
      text = line_of c.in-Err.refusal;
      is_written = rw line at c.end-in-Err.ensures.written;
      says = record {
        refusal = λ n. record { row = c.in-Err.refusal.row; id = c.in-Err.refusal.id; named = c.in-Err.ensures.refused.named; line = refl };
        stable = λ none. absurd (refusals_are_not_zero c.in-Err.refusal.code c.in-Err.ensures.refused.named.known none);
        answer = c.in-Err.ensures.refused.answer;
      };
    })

pub returns-in-Err-clause-singles : goal.returns-in-Err-clause-singles
returns-in-Err-clause-singles g c =
    rw c.end-in-Err.ensures.code
    (publishes_singles (bytes_left g.R.Read.remaining c.args.tap.now) c.args.options.budget c.in-Err.refusal.code (line_of c.in-Err.refusal) c.in-Err.ensures.refused.answer)
