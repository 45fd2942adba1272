use Rattle.std.proofs.Common.{◌<◌, length, arith, ap₂, ◌∙◌, sym, [], ◌∷◌, ◌++◌}
use Rattle.std.proofs.lemmas.List.{take_more, take_all}
use Rattle.mt_terms.specs.Registration.Ids.{has_id}
use Rattle.mt_ids.proofs.IdFacts.{new_at}
use Rattle.mt_match_file.proofs.ids.program_ids.Goals as goal

pub push-requires : goal.push-requires
push-requires c =
    let registered = c.programs-number-end.ensures.registration in
    ap₂ has_id c.loop-number.invariant c.program_id.ensures
    ∙ new_at c.args.roster.now.names.programs c.loop-number.number registered.program_names.differ
    (omega (arith, registered.program_names.one_each, c.programs-number-end.ensures.count))

pub loop-number-preserved : goal.loop-number-preserved
loop-number-preserved c =
    let names = c.args.roster.now.names.programs in
    let within : c.loop-number.number < length names = omega (arith, c.programs-number-end.ensures.registration.program_names.one_each, c.programs-number-end.ensures.count) in
    c.in_ok-push.ensures ∙ ap₂ (λ ids id. ids ++ id ∷ []) c.loop-number.invariant c.program_id.ensures ∙ sym (take_more names c.loop-number.number [] within)

pub returns : goal.returns
returns c =
    c.loop-number.invariant
    ∙ take_all c.loop-number.number c.args.roster.now.names.programs
    (omega (arith, c.programs-number-end.ensures.registration.program_names.one_each, c.programs-number-end.ensures.count))
