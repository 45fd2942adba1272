-- What a proposal's premises say of the fields, and what its bit leaves there.
use Rattle.std.proofs.Common.{◌≡◌, ℕ, ◌<◌, false, List, length, Vec, Global, vec_len, sym, ap, ◌∙◌, arith}
use Rattle.std.specs.Vec.{with_items}
use Rattle.std.proofs.lemmas.List.{with_items_is}
use mathlib.Core.Path.{fun_ext}
use Rattle.mt_terms.specs.Lists.{with_one}
use Rattle.mt_bits.specs.Flags.{flag}
use Rattle.mt_hold.specs.Holding.{Holding, ranks, has_received}
use Rattle.mt_hold.specs.Inside.{holding_of}
use Rattle.mt_hold.specs.declared.holding.Hold.TheInside.{Inside}
use Rattle.mt_bits.proofs.Flags.{get_or-flags, length-flags}

pub on_list : (a : Inside) (h : Holding) (rank : ℕ) → holding_of a ≡ h → rank < ranks h → rank < a.list_len
on_list a h rank view low = omega (arith, ap ranks view, length-flags a.received.items a.list_len)

pub flag_is : (a : Inside) (h : Holding) (rank : ℕ) → holding_of a ≡ h → rank < ranks h → flag a.received.items rank ≡ has_received h rank
flag_is a h rank view low = sym (get_or-flags a.received.items a.list_len rank (on_list a h rank view low)) ∙ ap (λ v. has_received v rank) view

pub not_flagged : (a : Inside) (h : Holding) (rank : ℕ) → holding_of a ≡ h → rank < ranks h → has_received h rank ≡ false → flag a.received.items rank ≡ false
not_flagged a h rank view low out = flag_is a h rank view low ∙ out

-- the vector holds the words that were written through its slice
pub words_written : (v : Vec ℕ Global) (before new : List ℕ) → length before ≡ vec_len v → length new ≡ length before → (with_items v new).items ≡ new
words_written v before new len same = with_items_is v new (same ∙ len)

pub flags_written : (v : Vec ℕ Global) (before new : List ℕ) (rank : ℕ) → before ≡ v.items → length before ≡ vec_len v → length new ≡ length before
    → ((k : ℕ) → flag new k ≡ with_one (flag before) rank k) → flag (with_items v new).items ≡ with_one (flag v.items) rank
flags_written v before new rank was len same marked =
    ap flag (words_written v before new len same) ∙ fun_ext marked ∙ ap (λ words. with_one (flag words) rank) was
