use Rattle.std.proofs.Common.{◌≡◌, ◌∙◌, ◌<◌, ◌||◌, ℕ, Bool, Option, length, ap₂, sym, arith}
use Rattle.mt_fault_text.specs.Wanted.{is_place}
use Rattle.mt_fault_text.proofs.MutualFacts.{sent_more}
use Rattle.mt_fault_text.proofs.mutual.wanted_programs.Goals as goal

pub loop-pair-preserved : goal.loop-pair-preserved
loop-pair-preserved c =
    let one_each : length c.note.new.wanted.items ≡ c.args.programs = c.note.ensures.len ∙ c.loop-pair.invariant.one_each in
    record {
      one_each = one_each;
      said = λ p low.
          let before : p < length c.loop-pair.wanted.items = omega (arith, c.loop-pair.invariant.one_each) in
          c.note.ensures.said p before
          ∙ ap₂ (λ (b : Bool) (place : Option ℕ). b || is_place place p) (c.loop-pair.invariant.said p low) c.place_in.ensures
          ∙ sym (sent_more c.args.is_first c.args.pairs.now c.loop-pair.pair-index p c.pair-item.result c.loop-pair-test.true c.pair-item.is);
    }
