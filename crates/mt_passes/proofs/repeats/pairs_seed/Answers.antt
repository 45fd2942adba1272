use Rattle.std.proofs.Common.{◌≡◌, List, Bor, codes, ap, ap₂, sym, ◌∙◌}
use Rattle.std.specs.Prelude.{flat_map}
use Rattle.std.specs.Option.{option_copied, unwrap_or}
use Rattle.std.specs.declared.hash.DefaultHasher.{DefaultHasher}
use Rattle.mt_terms.specs.Registration.Ids.{Bytes}
use Rattle.mt_terms.specs.Registration.Records.{IdPair}
use Rattle.mt_records.specs.Fields.{pairs_left}
use Rattle.mt_ids.specs.Seeds.{seed_by, with_field, with_fields}
use Rattle.mt_passes.specs.Seeds.{pair_fields}
use Rattle.mt_passes.proofs.RepeatFacts.{lent_or}
use Rattle.mt_passes.proofs.repeats.pairs_seed.Goals as goal

pub loop-first-preserved : goal.loop-first-preserved
loop-first-preserved c =
    let digest = c.loop-first.digest in
    let rest = flat_map pair_fields (pairs_left c.next.new.self) in
    let first : c.unwrap_or.result.now ≡ unwrap_or (option_copied c.in-Some.first) (codes "-") = ap (λ (b : Bor Bytes). b.now) c.unwrap_or.ensures ∙ lent_or c.in-Some.first _ in
    let second : c.unwrap_or-in-loop-first.result.now ≡ unwrap_or (option_copied c.in-Some.second) (codes "-") = ap (λ (b : Bor Bytes). b.now) c.unwrap_or-in-loop-first.ensures ∙ lent_or c.in-Some.second _ in
    ap (λ (d : DefaultHasher). with_fields d rest) (c.add_field-in-loop-first.ensures ∙ ap₂ with_field (c.add_field.ensures ∙ ap (with_field digest) first) second)
    ∙ sym (ap (λ (ps : List IdPair). with_fields digest (flat_map pair_fields ps)) c.in-Some.ensures.steps)
    ∙ c.loop-first.invariant

pub returns : goal.returns
returns c =
    c.of.ensures
    ∙ ap seed_by (sym (ap (λ (ps : List IdPair). with_fields c.loop-first.digest (flat_map pair_fields ps)) c.in-None.ensures.steps.0) ∙ c.loop-first.invariant)
