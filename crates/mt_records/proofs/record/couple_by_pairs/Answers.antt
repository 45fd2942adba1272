use Rattle.std.proofs.Common.{◌≡◌, [], ◌∷◌, sym, arith, ◌∙◌, ap, Ok, Err}
use Rattle.mt_lists.specs.Rows.{fields_left}
use Rattle.mt_terms.specs.Registration.Ids.{Bytes}
use Rattle.mt_terms.specs.Registration.Records.{CoupleRecord, are_ids}
use Rattle.mt_records.specs.Fields.{members_in}
use Rattle.mt_records.proofs.FieldFacts.{odd_couple, couple_is_read, couple_is_refused, left_fails, right_fails}
use Rattle.mt_records.proofs.record.couple_by_pairs.Goals as goal
use Rattle.mt_records.proofs.record.couple_by_pairs.Goals.{else-names_are_ids-via-then-names_are_ids+else-are_pairs, else-names_are_ids-via-else-names_are_ids}

pub returns-then-len-eq1 : goal.returns-then-len-eq1
returns-then-len-eq1 c =
    let names = members_in c.args.fields in
    ap Err c.record_fault_alone.ensures ∙ sym (odd_couple c.args.rules.now c.args.id.now names.0 names.1 (fields_left c.args.list) (omega (arith, c.len.ensures, c.if-len-eq1.true)))

pub returns-then-are_pairs : goal.returns-then-are_pairs
returns-then-are_pairs c =
    let names = members_in c.args.fields in
    ap (λ pairs. Ok (CoupleRecord c.args.id.now names.0 names.1 pairs)) c.requires
    ∙ sym (couple_is_read c.args.rules.now c.args.id.now names.0 names.1 (fields_left c.args.list) (omega (arith, c.len.ensures, c.if-len-eq1.false))
    (ap (λ (m : Bytes × Bytes). are_ids c.args.rules.now (c.args.id.now ∷ m.0 ∷ m.1 ∷ [])) (sym c.members.ensures) ∙ sym c.names_are_ids.ensures ∙ c.if-names_are_ids.true)
    (sym c.are_pairs.ensures ∙ c.if-are_pairs.true))

pub returns-else-names_are_ids : goal.returns-else-names_are_ids
returns-else-names_are_ids c =
    let names = members_in c.args.fields in
    let ids : are_ids c.args.rules.now (c.args.id.now ∷ names.0 ∷ names.1 ∷ []) ≡ c.names_are_ids.result =
    ap (λ (m : Bytes × Bytes). are_ids c.args.rules.now (c.args.id.now ∷ m.0 ∷ m.1 ∷ [])) (sym c.members.ensures) ∙ sym c.names_are_ids.ensures
    in
    ap Err c.record_fault_alone-else-names_are_ids.ensures
    ∙ sym (couple_is_refused c.args.rules.now c.args.id.now names.0 names.1 (fields_left c.args.list) (omega (arith, c.len.ensures, c.if-len-eq1.false))
    (elim c.else-names_are_ids.branch [
      | else-names_are_ids-via-then-names_are_ids+else-are_pairs w ↦ right_fails _ _ (sym w.are_pairs.ensures ∙ w.if-are_pairs.false)
      | else-names_are_ids-via-else-names_are_ids w ↦ left_fails _ _ (ids ∙ w.if-names_are_ids.false)
    ]))
