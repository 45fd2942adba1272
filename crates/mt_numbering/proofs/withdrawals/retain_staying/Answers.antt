use Rattle.std.proofs.Common.{◌∙◌, ap, rules}
use Rattle.std.proofs.lemmas.Fn.{filter_same}
use Rattle.mt_records.specs.declared.record.Record.{Record}
use Rattle.mt_records.specs.Records.{all_seen, record_seen}
use Rattle.mt_numbering.specs.Withdrawals.{stays_after}
use Rattle.mt_numbering.proofs.FilterFacts.{filter-map}
use Rattle.mt_numbering.proofs.withdrawals.retain_staying.Goals as goal

pub returns : goal.returns
returns c =
    let test = λ (r : Record). stays_after c.args.withdrawn.now (record_seen r) in
    ap all_seen (filter_same _ test _ (λ r b f k. search rules) _ _ c.retain.ensures.filtered)
    ∙ filter-map record_seen (stays_after c.args.withdrawn.now) c.args.records.now.items
