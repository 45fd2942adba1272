use Rattle.std.proofs.Common.{[], length, arith, ap}
use Rattle.mt_terms.specs.Market.{Program}
use Rattle.std.proofs.lemmas.List.{take_all}
use Rattle.mt_fault_text.proofs.EntryFacts.{sum_more, sum_within}
use Rattle.mt_fault_text.proofs.accepted.program_entries.Goals as goal

pub overflow_add-count : goal.overflow_add-count
overflow_add-count c =
    let m = c.args.roster.now.market in
    let i = c.loop-number.number in
    omega (
      arith,
      c.loop-number.invariant,
      ap length c.program_list.ensures,
      sum_within (λ p. length (Program.ranking p)) m.programs i (record { quota = 0; ranking = [] }) (omega arith),
      c.is_of_a_file.ensures.few_entries,
    )

pub loop-number-preserved : goal.loop-number-preserved
loop-number-preserved c =
    let m = c.args.roster.now.market in
    let i = c.loop-number.number in
    omega (
      arith,
      c.loop-number.invariant,
      ap length c.program_list.ensures,
      sum_more (λ p. length (Program.ranking p)) m.programs i (record { quota = 0; ranking = [] }) (omega arith),
    )

pub returns : goal.returns
returns c =
    let m = c.args.roster.now.market in
    let all = take_all c.loop-number.number m.programs (omega arith) in
    record {
      count = rw all at c.loop-number.invariant;
      few = omega (arith, rw all at c.loop-number.invariant, c.is_of_a_file.ensures.few_entries);
    }
