use Rattle.std.proofs.Common.{ℕ, List, ◌≡◌, ◌∙◌, ◌++◌, ◌+◌, ◌∷◌, [], ap, sym, drop, length, take, arith}
use Rattle.std.proofs.lemmas.Grind.{common_steps}
use Rattle.std.proofs.lemmas.List.FromFn.{map-range_with_len_more}
use Rattle.mt_terms.specs.Market.{list_of}
use Rattle.mt_ranks.specs.Entries.{entries_among}
use Rattle.mt_ranks.specs.Rows.{row_of}
use Rattle.mt_ranks.specs.declared.entries.Live.{Live}
use Rattle.mt_ranks.proofs.StampFacts.{never_stamped, never_long}
use Rattle.mt_ranks.proofs.tables.live_lists.Goals as goal

pub loop-place-init : goal.loop-place-init
loop-place-init c = record {
  listed = c.in_ok-lists.ensures;
  len = omega (arith, c.in_ok-stamps.ensures.len, c.in_ok-stamps.stamps.ok, c.programs.ensures.count);
  before = never_stamped c.in_ok-stamps.stamps.items c.programs.result (c.in_ok-stamps.ensures.items_if_clones_equal (λ y e. e));
  short = never_long c.in_ok-stamps.stamps.items c.programs.result (c.in_ok-stamps.ensures.items_if_clones_equal (λ y e. e));
}

pub push_live-requires-clause-entries : goal.push_live-requires-clause-entries
push_live-requires-clause-entries c =
    rw (c.row.ensures, c.deref_mut.ensures.value, c.loop-place.invariant.len) (c.requires.within c.loop-place.place)

pub push_live-requires-clause-list : goal.push_live-requires-clause-list
push_live-requires-clause-list c p listed =
    let within = c.programs.ensures.registration.well_formed.lists_within (c.args.block.first + c.loop-place.place) p (rw c.single_list.ensures at listed) in
    omega (arith, within, ap length c.deref_mut.ensures.value, c.loop-place.invariant.len)

pub push_live-requires-clause-earlier : goal.push_live-requires-clause-earlier
push_live-requires-clause-earlier c = rw c.deref_mut.ensures.value c.loop-place.invariant.before

pub push_live-requires-clause-short : goal.push_live-requires-clause-short
push_live-requires-clause-short c = rw c.deref_mut.ensures.value c.loop-place.invariant.short

pub loop-place-preserved : goal.loop-place-preserved
loop-place-preserved c =
    let own : ℕ → List Live = λ k. entries_among (row_of c.args.rows.now k) (list_of c.args.roster.now.market (c.args.block.first + k)) in
    let pushed : c.push_live.new.lists ≡ c.loop-place.lists ++ entries_among c.row.result.now c.single_list.result.now ∷ [] = c.in_ok-push_live.ensures.listed in
    let step : c.push_live.new.lists ≡ c.loop-place.lists ++ own c.loop-place.place ∷ [] = rw (c.row.ensures, c.single_list.ensures) at pushed in
    let same : length c.push_live.new.stamps ≡ length c.loop-place.stamps.items = c.in_ok-push_live.ensures.len ∙ ap length c.deref_mut.ensures.value in
    let written : take c.loop-place.stamps.len (c.push_live.new.stamps ++ drop (length c.push_live.new.stamps) c.loop-place.stamps.items) ≡ c.push_live.new.stamps = grind (arith, common_steps) in
    record {
      listed = step ∙ ap (λ ls. ls ++ own c.loop-place.place ∷ []) c.loop-place.invariant.listed
          ∙ sym (map-range_with_len_more own 0 c.loop-place.place c.loop-place.place (omega arith));
      len = rw written (same ∙ c.loop-place.invariant.len);
      before = rw written c.in_ok-push_live.ensures.before;
      short = rw written c.in_ok-push_live.ensures.short;
    }
