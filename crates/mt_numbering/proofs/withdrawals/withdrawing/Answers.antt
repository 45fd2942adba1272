use Rattle.std.proofs.Common.{◌≡◌, ap, arith, length, true, false, refl}
use Rattle.std.specs.List.{list_any}
use Rattle.std.proofs.lemmas.List.{length-map}
use Rattle.mt_records.specs.Records.{all_seen, record_seen}
use Rattle.mt_numbering.specs.Withdrawals.{is_withdrawal}
use Rattle.mt_numbering.proofs.WithdrawalFacts.{fewer_couples, within_all, none_withdraws, one_withdraws}
use Rattle.mt_numbering.proofs.withdrawals.withdrawing.Goals as goal

pub overflow_sub-agents : goal.overflow_sub-agents
overflow_sub-agents c = omega (arith, fewer_couples (all_seen c.args.records.now), c.len.ensures, c.len-2.ensures, ap length c.requires.applicants, ap length c.requires.couples)

pub overflow_sub-records : goal.overflow_sub-records
overflow_sub-records c = omega (arith, within_all (all_seen c.args.records.now), c.len-3.ensures, ap length c.requires.programs, length-map c.args.records.now record_seen)

pub returns-then-records-len : goal.returns-then-records-len
returns-then-records-len c =
    let rs = all_seen c.args.records.now in
    let none : list_any is_withdrawal rs ≡ false =
    none_withdraws rs
    (omega (
      arith,
      within_all rs,
      fewer_couples rs,
      c.if-records-len.true,
      c.len.ensures,
      c.len-2.ensures,
      c.len-3.ensures,
      ap length c.requires.programs,
      ap length c.requires.applicants,
      ap length c.requires.couples,
      length-map c.args.records.now record_seen,
    )) in
    rw none refl

pub returns-else-records-len : goal.returns-else-records-len
returns-else-records-len c =
    let rs = all_seen c.args.records.now in
    let some : list_any is_withdrawal rs ≡ true =
    one_withdraws rs
    (λ same. c.if-records-len.false
    (omega (
      arith,
      same,
      within_all rs,
      fewer_couples rs,
      c.len.ensures,
      c.len-2.ensures,
      c.len-3.ensures,
      ap length c.requires.programs,
      ap length c.requires.applicants,
      ap length c.requires.couples,
      length-map c.args.records.now record_seen,
    ))) in
    rw some refl
