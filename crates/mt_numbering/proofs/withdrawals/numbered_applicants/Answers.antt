use Rattle.std.proofs.Common.{◌∙◌, ap, sym, length}
use Rattle.std.specs.Prelude.{map, Some}
use Rattle.mt_terms.specs.Lists.{below}
use Rattle.mt_records.specs.Records.{all_seen}
use Rattle.mt_numbering.specs.Withdrawals.{stays_after}
use Rattle.mt_numbering.proofs.MarketFacts.{long_applicants}
use Rattle.mt_numbering.proofs.WithdrawalFacts.{applicants_in_place}
use Rattle.mt_numbering.proofs.withdrawals.numbered_applicants.Goals as goal

pub returns-then-len-eq0-2-clause-numbers : goal.returns-then-len-eq0-2-clause-numbers
returns-then-len-eq0-2-clause-numbers c =
    c.unchanged.ensures.numbers ∙ ap (λ n. map Some (below n)) (ap length c.requires.ids)
    ∙ applicants_in_place c.args.withdrawn.now (all_seen c.args.records.now) (sym c.len.ensures.len ∙ c.if-len-eq0.true) (sym c.len-then-len-eq0.ensures.len ∙ c.if-len-eq0-2.true)

pub new-requires : goal.new-requires
new-requires c = long_applicants (stays_after c.args.withdrawn.now) (all_seen c.args.records.now) c.args.ids _ c.requires.ids c.in_ok-numbers.ensures
