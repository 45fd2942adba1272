use Rattle.std.proofs.Common.{refl, ap, ◌+◌, arith}
use Rattle.std.proofs.lemmas.Grind.{common_steps}
use Rattle.std.proofs.lemmas.Result.{on_ok_weaker}
use Rattle.mt_records.specs.Records.{record_seen}
use Rattle.mt_passes.proofs.RegisterFacts.{is_register_more, contents_more}
use Rattle.mt_passes.proofs.register.Register.push.Goals as goal

pub returns-clause-register : goal.returns-clause-register
returns-clause-register c =
    on_ok_weaker c.push.result (λ more.
    is_register_more c.args.self.now c.push_ids.new.self _ (record_seen c.args.next) c.requires.register c.in_ok-push_ids.ensures (contents_more c.args.self.now c.push_ids.new.self c.push.new.elements.items _ c.in_ok-push_ids.ensures.records more) refl refl refl (ap (λ n. c.push_ids.new.self.entries + n) c.entry_count.ensures) c.requires.few)
    c.push.ensures

pub returns-clause-records : goal.returns-clause-records
returns-clause-records c = grind (arith, common_steps)

pub overflow_add-self : goal.overflow_add-self
overflow_add-self c = grind (arith, common_steps)
