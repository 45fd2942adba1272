use Rattle.std.proofs.Common.{ℕ, Bool, false, refl, subst, sym}
use Rattle.mt_lists.specs.Records.{without_mark}
use Rattle.mt_terms.specs.Registration.{market_of}
use Rattle.mt_fault_terms.specs.OfFile.{faults_of}
use Rattle.mt_fault_text.specs.Answer.{IsAnswerGiven}
use Rattle.mt_fault_text.proofs.FoundFacts.{listed_broken, listed_front_by, listed_whole_by, wrote_front}
use Rattle.mt_fault_text.proofs.NamedFacts.{is_named, named_code, refused, same_code}
use Rattle.mt_fault_text.proofs.SaysFacts.{given_faults}
use Rattle.mt_fault_text.proofs.whole.list_faults.Goals as goal
use Rattle.mt_fault_text.proofs.whole.list_faults.Goals.{in-Ok-end, in-Err}

pub returns-then-is_broken-clause-listed : goal.returns-then-is_broken-clause-listed
returns-then-is_broken-clause-listed g c =
    let f = refused (market_of c.args.rows.now) c.requires.faulty in
    given_faults _ _ c.code_of-code.result false (without_mark c.args.bytes.now) (market_of c.args.rows.now) (faults_of c.args.rows.now) f.0 f.0.code f.1 refl
    (listed_broken g.W.Write.contents _ c.find_faults-end.new.sink (without_mark c.args.bytes.now) (faults_of c.args.rows.now) f.0.code c.drain-1.given.0 c.in-Ok.ensures
    c.new-3.ensures c.find_faults-end.result c.code_of-code.result c.find_faults-end.ensures c.if-is_broken.true c.drain-1.given.1
    (λ some. same_code (market_of c.args.rows.now) f.0 c.code_of-code.result f.1 (c.code_of-code.ensures some)))

pub named_code-requires : goal.named_code-requires
named_code-requires g c =
    let f = refused (market_of c.args.rows.now) c.requires.faulty in
    is_named c.args.rows.now f.0 f.1 c.find_faults-end.new.sink.named c.in-Ok-end.ensures.1.named

pub returns-clause-listed : goal.returns-clause-listed
returns-clause-listed g c =
    let f = refused (market_of c.args.rows.now) c.requires.faulty in
    let bytes = without_mark c.args.bytes.now in
    let faults = faults_of c.args.rows.now in
    let sink = c.find_faults-end.new.sink in
    let before = g.W.Write.contents c.args.drain.now.writer in
    elim c.match-end.branch [
      | in-Ok-end w ↦
          subst (λ d. IsAnswerGiven bytes c.args.rows.now before (g.W.Write.contents d.writer) c.match-end.code.0 c.match-end.code.1) (sym w.drain-is)
          (subst (λ (x : ℕ × Bool). IsAnswerGiven bytes c.args.rows.now before (g.W.Write.contents w.drain-in-Ok-end-1.given.0.writer) x.0 x.1)
          (sym w.code-is)
          (given_faults _ _ w.named_code.result w.is_ok.result bytes (market_of c.args.rows.now) faults f.0 w.named_code.result f.1
          (named_code c.args.rows.now f.0 f.1 sink.named w.in-Ok-end.ensures.1.named w.named_code.result w.named_code.ensures)
          (listed_whole_by g.W.Write.contents _ sink bytes faults w.named_code.result w.drain-in-Ok-end-1.given.0 c.in-Ok.ensures c.new-3.ensures
          w.finish.result w.finish.new.drain _ w.is_ok.ensures.value refl w.in-Ok-end.ensures.1
          w.drain-in-Ok-end-1.given.1 w.finish.ensures.sends w.finish.ensures.breaks)))
      | in-Err w ↦
          subst (λ d. IsAnswerGiven bytes c.args.rows.now before (g.W.Write.contents d.writer) c.match-end.code.0 c.match-end.code.1) (sym w.drain-is)
          (subst (λ (x : ℕ × Bool). IsAnswerGiven bytes c.args.rows.now before (g.W.Write.contents w.drain-in-Err-1.given.0.writer) x.0 x.1)
          (sym w.code-is)
          (given_faults _ _ 30 w.is_ok-in-Err.result bytes (market_of c.args.rows.now) faults f.0 f.0.code f.1 refl
          (listed_front_by g.W.Write.contents _ sink bytes faults f.0.code w.drain-in-Err-1.given.0 c.in-Ok.ensures c.new-3.ensures
          w.cut_short.result w.cut_short.new.drain _ w.is_ok-in-Err.ensures.value
          (wrote_front g.W.Write.contents _ sink faults c.find_faults-end.result w.in-Err.field-0 w.in-Err.is
          c.find_faults-end.ensures c.if-is_broken.false).1
          w.drain-in-Err-1.given.1 w.cut_short.ensures.sends w.cut_short.ensures.breaks)))
    ]
