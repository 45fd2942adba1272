use Rattle.std.proofs.Common.{◌≡◌, ◌+◌, ◌∷◌, ◌++◌, List, ap, sym, subst, ◌∙◌, arith, refl, take, drop, get_or}
use Rattle.std.proofs.lemmas.List.{take_all}
use Rattle.mt_terms.specs.Registration.Records.{Record, WithdrawRecord}
use Rattle.mt_records.specs.declared.record.Record.{Record as Checked}
use Rattle.mt_ids.specs.Kinds.{kind_seen}
use Rattle.mt_numbering.specs.Withdrawals.{is_withdrawal}
use Rattle.mt_records.specs.Records.{all_seen, record_seen}
use Rattle.mt_numbering.proofs.WithdrawalFacts.{AreKnown, seen_more, seen_split, no_withdrawal, still_known, one_known, unknown, all_known}
use Rattle.mt_numbering.specs.Registered.{is_registered}
use Rattle.mt_numbering.proofs.withdrawals.are_registered.Goals.{in-Withdraw+else-not-is_registered, in_default}
use Rattle.mt_numbering.proofs.withdrawals.are_registered.Goals as goal

pub returns-then-not-is_registered : goal.returns-then-not-is_registered
returns-then-not-is_registered c =
    let records = c.args.records.now in
    let i = c.loop-one.one-index in
    let id = c.in-Withdraw.id.now in
    let kind = kind_seen c.in-Withdraw.kind in
    let here : record_seen (get_or records i c.one-item.result) ≡ WithdrawRecord kind id = ap record_seen (sym c.one-item.is ∙ c.in-Withdraw.is) in
    let all = ap (λ (r : Record). all_seen (take i records) ++ r ∷ all_seen (drop (i + 1) records)) (sym here) ∙ seen_split records i c.one-item.result c.loop-one-test.true in
    sym (unknown _ _ _ kind id all (is_registered c.args.ids.now c.args.singles.now) (sym c.is_registered.ensures ∙ c.if-not-is_registered.true))

pub loop-one-init : goal.loop-one-init
loop-one-init c = λ kind. refl

pub loop-one-preserved : goal.loop-one-preserved
loop-one-preserved c =
    let records = c.args.records.now in
    let i = c.loop-one.one-index in
    let more = seen_more records i c.one-item.result c.loop-one-test.true in
    elim c.match-one.branch [
      | in-Withdraw+else-not-is_registered w ↦
          let id = w.in-Withdraw.id.now in
          let kind = kind_seen w.in-Withdraw.kind in
          let here : record_seen (get_or records i c.one-item.result) ≡ WithdrawRecord kind id = ap record_seen (sym c.one-item.is ∙ w.in-Withdraw.is) in
          rw (more, here) (one_known _ _ kind id c.loop-one.invariant (sym w.is_registered.ensures ∙ w.if-not-is_registered.false))
      | in_default w ↦ rw more (still_known _ _ _ c.loop-one.invariant (ap (λ (r : Checked). is_withdrawal (record_seen r)) (sym c.one-item.is) ∙ no_withdrawal c.one-item.result w.in_default.not-Withdraw))
    ]

pub returns : goal.returns
returns c =
    let records = c.args.records.now in
    sym (all_known _ _ (subst (λ (rs : List Checked). AreKnown (is_registered c.args.ids.now c.args.singles.now) (all_seen rs)) (take_all c.loop-one.one-index records (omega (arith, c.loop-one-test.false))) c.loop-one.invariant))
