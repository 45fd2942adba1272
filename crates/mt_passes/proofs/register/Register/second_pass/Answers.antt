use Rattle.std.proofs.Common.{sym, ap, arith, ◌∙◌, Some, map}
use Rattle.std.specs.Prelude.{option_map}
use Rattle.std.proofs.lemmas.List.{take_all}
use Rattle.mt_terms.specs.Registration.Faults.{fault_at}
use Rattle.mt_terms.specs.Registration.Passes.{first_of}
use Rattle.mt_passes.proofs.UnknownFacts.{fault_of, first_at, none_more, pass_is}
use Rattle.mt_records.specs.Records.{record_fault_seen}
use Rattle.mt_passes.specs.Registers.{contents_seen}
use Rattle.mt_passes.proofs.register.Register.second_pass.Goals as goal

pub returns-in-Some : goal.returns-in-Some
returns-in-Some c =
    let row = c.index-numbered.result.now.row in
    ap Some c.at.ensures
    ∙ sym (first_at (fault_of (contents_seen c.args.self.now)) c.args.self.now.records.items c.loop-i.i c.index-numbered.result.now c.index-numbered.result.now (omega (arith, c.len-i-end.ensures))
    c.index-numbered.ensures c.loop-i.invariant (fault_at row (record_fault_seen c.in-Some.record_fault))
    (ap (option_map (fault_at row)) (sym c.unknown_id.ensures ∙ ap (option_map record_fault_seen) c.in-Some.is)))
    ∙ pass_is c.args.self.now

pub loop-i-preserved : goal.loop-i-preserved
loop-i-preserved c =
    none_more (fault_of (contents_seen c.args.self.now)) c.args.self.now.records.items c.loop-i.i c.index-numbered.result.now c.index-numbered.result.now (omega (arith, c.len-i-end.ensures))
    c.index-numbered.ensures c.loop-i.invariant
    (ap (option_map (fault_at c.index-numbered.result.now.row)) (sym c.unknown_id.ensures ∙ ap (option_map record_fault_seen) c.in_default.is))

pub returns : goal.returns
returns c =
    sym (ap (λ xs. first_of (map (fault_of (contents_seen c.args.self.now)) xs)) (sym (take_all c.loop-i.i c.args.self.now.records.items (omega (arith, c.len-i-end.ensures)))) ∙ c.loop-i.invariant)
    ∙ pass_is c.args.self.now
