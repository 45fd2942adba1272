use Rattle.std.proofs.Common.{◌≡◌, ◌+◌, ◌∷◌, ◌++◌, List, ap, sym, subst, ◌∙◌, arith, refl, take, drop, get_or}
use Rattle.std.proofs.lemmas.List.{take_all}
use Rattle.mt_terms.specs.Registration.Ids.{has_id}
use Rattle.mt_terms.specs.Registration.Records.{Record, WithdrawRecord}
use Rattle.mt_records.specs.declared.record.Record.{Record as Checked}
use Rattle.mt_ids.proofs.KindFacts.{none_of_kinds}
use Rattle.mt_ids.specs.Kinds.{kind_seen}
use Rattle.mt_numbering.specs.Withdrawals.{is_withdrawal}
use Rattle.mt_records.specs.Records.{all_seen, record_seen}
use Rattle.mt_numbering.proofs.WithdrawalFacts.{AreSoFar, seen_more, seen_split, no_withdrawal, still_withdrawn, one_withdrawn, withdrawn_twice, all_withdrawn, was_true, was_false}
use Rattle.mt_numbering.proofs.withdrawals.withdrawn.Goals.{in-Withdraw+in_ok-add+else-not-branch, in_default}
use Rattle.mt_numbering.proofs.withdrawals.withdrawn.Goals as goal

pub returns-then-not-branch : goal.returns-then-not-branch
returns-then-not-branch c =
    let records = c.args.records.now in
    let i = c.loop-one.one-index in
    let id = c.in-Withdraw.id.now in
    let kind = kind_seen c.in-Withdraw.kind in
    let here : record_seen (get_or records i c.one-item.result) ≡ WithdrawRecord kind id = ap record_seen (sym c.one-item.is ∙ c.in-Withdraw.is) in
    let all = ap (λ (r : Record). all_seen (take i records) ++ r ∷ all_seen (drop (i + 1) records)) (sym here) ∙ seen_split records i c.one-item.result c.loop-one-test.true in
    withdrawn_twice _ _ _ kind id all (ap (λ ids. has_id ids id) (sym (c.loop-one.invariant.ids kind)) ∙ was_true _ (sym c.in_ok-add.ensures.added ∙ c.if-not-branch.true))

pub loop-one-init : goal.loop-one-init
loop-one-init c =
    let none = c.new-withdrawn.ensures in
    record { once = λ kind. refl; ids = none_of_kinds c.new-withdrawn.result none.programs none.applicants none.couples }

pub loop-one-preserved : goal.loop-one-preserved
loop-one-preserved c =
    let records = c.args.records.now in
    let i = c.loop-one.one-index in
    let more = seen_more records i c.one-item.result c.loop-one-test.true in
    elim c.match-one.branch [
      | in-Withdraw+in_ok-add+else-not-branch w ↦
          let id = w.in-Withdraw.id.now in
          let kind = kind_seen w.in-Withdraw.kind in
          let here : record_seen (get_or records i c.one-item.result) ≡ WithdrawRecord kind id = ap record_seen (sym c.one-item.is ∙ w.in-Withdraw.is) in
          rw (w.withdrawn-is, more, here)
          (one_withdrawn _ _ _ kind id c.loop-one.invariant (was_false _ (sym w.in_ok-add.ensures.added ∙ w.if-not-branch.false)) (w.in_ok-add.ensures.ids w.if-not-branch.false))
      | in_default w ↦ rw (w.withdrawn-is, more) (still_withdrawn _ _ _ c.loop-one.invariant (ap (λ (r : Checked). is_withdrawal (record_seen r)) (sym c.one-item.is) ∙ no_withdrawal c.one-item.result w.in_default.not-Withdraw))
    ]

pub returns : goal.returns
returns c =
    let records = c.args.records.now in
    all_withdrawn _ _ (subst (λ (rs : List Checked). AreSoFar (all_seen rs) c.loop-one.withdrawn) (take_all c.loop-one.one-index records (omega (arith, c.loop-one-test.false))) c.loop-one.invariant)
