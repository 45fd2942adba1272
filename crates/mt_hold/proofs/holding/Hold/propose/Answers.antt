use Rattle.std.proofs.Common.{◌≡◌, ◌+◌, ◌<◌, ◌↔◌, true, false, ap, sym, subst, ◌∙◌, arith, length}
use Rattle.std.specs.Vec.{with_items}
use Rattle.mt_terms.specs.Lists.{with_one, count_below}
use Rattle.mt_bits.specs.Flags.{flag}
use Rattle.mt_hold.specs.Holding.{Holding}
use Rattle.mt_hold.specs.Ends.{IsEnd}
use Rattle.mt_hold.specs.Settled.{IsSettled}
use Rattle.mt_hold.specs.declared.holding.Taken.TheVariants.{KeptInstead, Refused}
use Rattle.mt_bits.proofs.Flags.{flags-with_one, with_one_same}
use Rattle.mt_hold.proofs.Counting.{count-with_one_above, count_missing}
use Rattle.mt_hold.proofs.Chosen.{chosen}
use Rattle.mt_hold.proofs.Bits.{held-flags}
use Rattle.mt_hold.proofs.Ends.{settled_end, refused_exactly, dropped_exactly}
use Rattle.mt_hold.proofs.Proposing.{on_list, not_flagged, words_written, flags_written}
use Rattle.mt_hold.proofs.holding.Hold.propose.Goals as goal
use Rattle.mt_hold.proofs.holding.Hold.propose.Goals.{After-settle}

pub set_flag-requires : goal.set_flag-requires
set_flag-requires c =
    let low = on_list c.self.inside c.args.self.now c.args.rank c.self.view_is c.requires.on_list in
    omega (arith, c.self.invariant.words, ap length c.as_mut_slice.ensures.value)

pub overflow_add-self : goal.overflow_add-self
overflow_add-self c =
    let a = c.self.inside in
    let low = on_list a c.args.self.now c.args.rank c.self.view_is c.requires.on_list in
    let out = not_flagged a c.args.self.now c.args.rank c.self.view_is c.requires.on_list c.requires.first_time in
    omega (arith, c.self.invariant.counted, count_missing (flag a.received.items) a.list_len c.args.rank low out)

pub settle-requires-clause-within : goal.settle-requires-clause-within
settle-requires-clause-within c =
    let before = c.as_mut_slice.result.now in
    let written = words_written c.self.inside.received before c.set_flag.new.words c.as_mut_slice.ensures.len c.set_flag.auto.words in
    omega (
      arith,
      c.self.invariant.words,
      c.self.invariant.ends.within,
      ap length c.as_slice-words.ensures.value,
      ap length written,
      c.set_flag.auto.words,
      ap length c.as_mut_slice.ensures.value,
    )

pub settle-requires-clause-received : goal.settle-requires-clause-received
settle-requires-clause-received c =
    let before = c.as_mut_slice.result.now in
    let written = words_written c.self.inside.received before c.set_flag.new.words c.as_mut_slice.ensures.len c.set_flag.auto.words in
    ap (λ words. flag words c.args.rank) (c.as_slice-words.ensures.value ∙ written) ∙ c.set_flag.ensures c.args.rank ∙ with_one_same (flag before) c.args.rank

-- ---- what is known after all steps

low : (c : After-settle) → c.args.rank < c.self.inside.list_len
low c = on_list c.self.inside c.args.self.now c.args.rank c.self.view_is c.requires.on_list

out : (c : After-settle) → flag c.self.inside.received.items c.args.rank ≡ false
out c = not_flagged c.self.inside c.args.self.now c.args.rank c.self.view_is c.requires.on_list c.requires.first_time

marked : (c : After-settle) → flag (with_items c.self.inside.received c.set_flag.new.words).items ≡ with_one (flag c.self.inside.received.items) c.args.rank
marked c =
    flags_written c.self.inside.received c.as_mut_slice.result.now c.set_flag.new.words c.args.rank c.as_mut_slice.ensures.value c.as_mut_slice.ensures.len c.set_flag.auto.words c.set_flag.ensures

counted : (c : After-settle) → c.self.inside.count + 1 ≡ count_below (with_one (flag c.self.inside.received.items) c.args.rank) c.self.inside.list_len
counted c =
    let a = c.self.inside in
    omega (arith, c.self.invariant.counted, count-with_one_above (flag a.received.items) c.args.rank a.list_len (out c) (low c))

-- what came of the proposal, by the set of ranks before it
settled : (c : After-settle)
    → let a = c.self.inside in
    let t = with_one (flag a.received.items) c.args.rank in
    IsSettled (flag c.as_slice-words.result.now) a.quota (a.count + 1) c.args.rank a.end c.settle.result c.settle.new.end
    → IsSettled t a.quota (count_below t a.list_len) c.args.rank a.end c.settle.result c.settle.new.end
settled c by =
    let a = c.self.inside in
    let t = with_one (flag a.received.items) c.args.rank in
    subst (λ m. IsSettled t a.quota m c.args.rank a.end c.settle.result c.settle.new.end) (counted c)
    (subst (λ s. IsSettled s a.quota (a.count + 1) c.args.rank a.end c.settle.result c.settle.new.end) (ap flag c.as_slice-words.ensures.value ∙ marked c) by)

pub invariant_of-self : goal.invariant_of-self
invariant_of-self c =
    let a = c.self.inside in
    let s = flag a.received.items in
    let written = words_written a.received c.as_mut_slice.result.now c.set_flag.new.words c.as_mut_slice.ensures.len c.set_flag.auto.words in
    record {
      words = omega (arith, c.self.invariant.words, ap length written, c.set_flag.auto.words, ap length c.as_mut_slice.ensures.value);
      counted = omega (arith, ap (λ t. count_below t a.list_len) (marked c), counted c);
      ends = subst (λ t. IsEnd a.quota a.list_len t c.settle.new.end) (sym (marked c))
          (settled_end a.quota a.list_len s c.args.rank a.end c.settle.result c.settle.new.end c.self.invariant.ends (low c) (out c) (settled c c.settle.ensures));
    }

pub returns-clause-received : goal.returns-clause-received
returns-clause-received c =
    let a = c.self.inside in
    rw (← c.self.view_is)
    (ap {B = Holding} (λ f. record { quota = a.quota; received = f })
    (flags-with_one a.received.items (with_items a.received c.set_flag.new.words).items a.list_len c.args.rank (low c) (λ k. ap (λ s. s k) (marked c))))

pub returns-clause-refused : goal.returns-clause-refused
returns-clause-refused c =
    let a = c.self.inside in
    let s = flag a.received.items in
    rw (held-flags a.quota a.list_len (with_items a.received c.set_flag.new.words).items c.args.rank)
    (subst (λ t. (c.settle.result ≡ Refused) ↔ (chosen a.quota a.list_len t c.args.rank ≡ false)) (sym (marked c))
    (refused_exactly a.quota a.list_len s c.args.rank a.end c.settle.result c.settle.new.end c.self.invariant.ends (low c) (out c) (settled c c.settle.ensures)))

pub returns-clause-dropped : goal.returns-clause-dropped
returns-clause-dropped c other =
    let a = c.self.inside in
    let s = flag a.received.items in
    rw (← c.self.view_is, held-flags a.quota a.list_len a.received.items other, held-flags a.quota a.list_len (with_items a.received c.set_flag.new.words).items other)
    (subst (λ t. (c.settle.result ≡ KeptInstead other) ↔ ((chosen a.quota a.list_len s other ≡ true) × (chosen a.quota a.list_len t other ≡ false))) (sym (marked c))
    (dropped_exactly a.quota a.list_len s c.args.rank a.end c.settle.result c.settle.new.end c.self.invariant.ends (low c) (out c) (settled c c.settle.ensures) other))
