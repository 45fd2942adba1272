use Rattle.std.proofs.Common.{arith, ap, ap₂, sym, ◌∙◌}
use Rattle.std.proofs.lemmas.List.{take_all}
use Rattle.mt_ids.specs.Seeds.{seed_by, seed_of, with_field}
use Rattle.mt_ids.proofs.SeedFacts.{digest_more}
use Rattle.mt_ids.proofs.id_set.seed_of.Goals as goal

pub loop-number-preserved : goal.loop-number-preserved
loop-number-preserved c =
    c.add_field.ensures ∙ ap₂ with_field c.loop-number.invariant c.list.ensures
    ∙ sym (digest_more c.args.names.now c.loop-number.number (omega arith))

pub returns : goal.returns
returns c =
    c.of.ensures ∙ ap seed_by c.loop-number.invariant
    ∙ ap seed_of (take_all c.loop-number.number c.args.names.now (omega arith))
