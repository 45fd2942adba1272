use Rattle.std.proofs.Common.{◌≡◌, List, ap, sym, ◌∙◌, arith, take, get_or}
use Rattle.std.proofs.lemmas.List.{take_all}
use Rattle.std.specs.declared.hash.DefaultHasher.{DefaultHasher}
use Rattle.mt_terms.specs.Registration.Records.{WithdrawRecord}
use Rattle.mt_ids.specs.Seeds.{digest_of, seed_by, with_field}
use Rattle.mt_records.specs.declared.record.Record.{Record as Checked}
use Rattle.mt_numbering.specs.Withdrawals.{is_withdrawal}
use Rattle.mt_records.specs.Records.{record_seen, all_seen}
use Rattle.mt_numbering.specs.Withdrawals.{withdrawn_ids}
use Rattle.mt_numbering.proofs.WithdrawalFacts.{digest_with, digest_without, no_withdrawal, seen_more}
use Rattle.mt_numbering.proofs.withdrawals.seed_of.Goals.{in-Withdraw, in_default}
use Rattle.mt_numbering.proofs.withdrawals.seed_of.Goals as goal

pub loop-one-preserved : goal.loop-one-preserved
loop-one-preserved c =
    let records = c.args.records.now in
    let i = c.loop-one.one-index in
    let more = seen_more records i c.one-item.result c.loop-one-test.true in
    elim c.match-one.branch [
      | in-Withdraw w ↦
          let id = w.in-Withdraw.id.now in
          let here : record_seen (get_or records i c.one-item.result) ≡ WithdrawRecord _ id = ap record_seen (sym c.one-item.is ∙ w.in-Withdraw.is) in
          rw (w.digest-is, more, here)
          (w.add_field.ensures ∙ ap (λ (d : DefaultHasher). with_field d id) c.loop-one.invariant ∙ sym (digest_with (all_seen (take i records)) (WithdrawRecord _ id)))
      | in_default w ↦
          rw (w.digest-is, more)
          (c.loop-one.invariant
          ∙ sym (digest_without (all_seen (take i records)) _ (ap (λ (r : Checked). is_withdrawal (record_seen r)) (sym c.one-item.is) ∙ no_withdrawal c.one-item.result w.in_default.not-Withdraw)))
    ]

pub returns : goal.returns
returns c =
    c.of.ensures
    ∙ ap seed_by
    (c.loop-one.invariant
    ∙ ap (λ (rs : List Checked). digest_of (withdrawn_ids (all_seen rs))) (take_all c.loop-one.one-index c.args.records.now (omega (arith, c.loop-one-test.false))))
