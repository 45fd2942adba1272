use Rattle.std.proofs.Common.{◌+◌, Bool, true, List, refl, ap, sym, ◌∙◌, length, arith}
use Rattle.std.proofs.lemmas.List.{length-set}
use Rattle.mt_lists.specs.Rows.{fields_left}
use Rattle.mt_ids.proofs.IdFacts.{found_id, found_below, missing_id}
use Rattle.mt_id_lists.proofs.MetFacts.{stands_from, stands_from-once, stands_from-missing, stands_from-again, stands_from-new}
use Rattle.mt_id_lists.proofs.ReadingSteps.{numbers-more}
use Rattle.mt_numbered.proofs.BatchFacts.{left_from, next_field}
use Rattle.mt_numbered.proofs.numbered.Numbered.push_ids.Goals as goal

pub loop-rest-init : goal.loop-rest-init
loop-rest-init g c = record {
  long = refl;
  count = refl;
  stands = stands_from-once c.args.self.now.ids c.args.met.now (fields_left c.args.list) c.requires.len c.requires.none;
  rest = refl;
}

pub returns-in_default-clause-reads : goal.returns-in_default-clause-reads
returns-in_default-clause-reads g c =
    let n = c.args.self.now in
    let next = next_field (fields_left c.take_fields-count.new.rest) c.loop-i-test.true c.take_fields-count.ensures.few c.if-count-eq0.array_long c.find_places.ensures in
    sym c.loop-i.invariant.stands ∙ stands_from-missing n.ids c.loop-i.met _ next.field _ next.steps (missing_id n.ids next.field (sym c.in_default.is ∙ next.found))

pub meet-requires : goal.meet-requires
meet-requires g c =
    let next = next_field (fields_left c.take_fields-count.new.rest) c.loop-i-test.true c.take_fields-count.ensures.few c.if-count-eq0.array_long c.find_places.ensures in
    omega (arith, found_below c.args.self.now.ids next.field c.in-Some.place (sym c.in-Some.is ∙ next.found), c.loop-i.invariant.long, c.requires.len)

pub returns-then-not-meet-clause-reads : goal.returns-then-not-meet-clause-reads
returns-then-not-meet-clause-reads g c =
    let n = c.args.self.now in
    let next = next_field (fields_left c.take_fields-count.new.rest) c.loop-i-test.true c.take_fields-count.ensures.few c.if-count-eq0.array_long c.find_places.ensures in
    let at = found_id n.ids next.field c.in-Some.place (sym c.in-Some.is ∙ next.found) in
    sym c.loop-i.invariant.stands ∙ stands_from-again n.ids c.loop-i.met _ next.field _ next.steps c.in-Some.place at.1 (sym c.meet.ensures.first ∙ c.if-not-meet.true)

pub push_number-requires-clause-within : goal.push_number-requires-clause-within
push_number-requires-clause-within g c =
    let next = next_field (fields_left c.take_fields-count.new.rest) c.loop-i-test.true c.take_fields-count.ensures.few c.if-count-eq0.array_long c.find_places.ensures in
    found_below c.args.self.now.ids next.field c.in-Some.place (sym c.in-Some.is ∙ next.found)

pub loop-i-preserved : goal.loop-i-preserved
loop-i-preserved g c =
    let n = c.args.self.now in
    let place = c.in-Some.place in
    let next = next_field (fields_left c.take_fields-count.new.rest) c.loop-i-test.true c.take_fields-count.ensures.few c.if-count-eq0.array_long c.find_places.ensures in
    let at = found_id n.ids next.field place (sym c.in-Some.is ∙ next.found) in
    let left = left_from (c.loop-i.i + 1) c.take_fields-count.result c.take_fields-count.new.fields (fields_left c.take_fields-count.new.rest) in
    record {
      long = ap length c.meet.ensures.met ∙ length-set c.loop-i.met place true ∙ c.loop-i.invariant.long;
      count = c.in_ok-push_number.ensures.len ∙ c.loop-i.invariant.count;
      stands = ap (λ (met : List Bool). stands_from n.ids met left) c.meet.ensures.met
          ∙ sym (stands_from-new n.ids c.loop-i.met _ next.field left next.steps place at.1 at.0 (sym c.meet.ensures.first ∙ c.if-not-meet.false))
          ∙ c.loop-i.invariant.stands;
      rest = numbers-more n c.args.kept _ next.field left place c.loop-i.lists _ next.steps at.1 c.in_ok-push_number.ensures.lists ∙ c.loop-i.invariant.rest;
    }
