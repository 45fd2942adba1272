use Rattle.std.proofs.Common.{◌≡◌, ◌∙◌, ◌+◌, ◌-◌, ◌<◌, ◌≤◌, nat_le, nat_lt, length, get_or, ap, sym, arith, lt-ltb, ltb-true}
use Rattle.std.proofs.lemmas.Bool.{ltb-false}
use Rattle.std.proofs.lemmas.List.{get_or_read}
use Rattle.mt_terms.specs.Lists.{count}
use Rattle.mt_stage_tables.proofs.OrderFacts.{fewer_at}
use Rattle.mt_terms.proofs.ListFacts.{count-le-length}
use Rattle.mt_stage_tables.proofs.placed.PlacedRanks.has_fewer_below.Goals as goal

pub returns-in-Some : goal.returns-in-Some
returns-in-Some c =
    let xs = c.deref.result.now in
    let i = c.args.most - 1 in
    let is : xs ≡ c.args.self.now = c.deref.ensures.value ∙ c.self.view_is in
    let within : i < length xs = ltb-true _ _ (sym c.in-Some.ensures.lookup.0) in
    let last : i + 1 ≡ c.args.most = omega (arith, c.if-most-eq0.false) in
    ap (nat_le c.args.rank) (get_or_read xs i c.in-Some.other.now within c.in-Some.ensures.lookup.1 0 ∙ ap (λ ys. get_or ys i 0) is)
    ∙ fewer_at c.args.self.now c.args.rank i c.requires (omega (arith, within, ap length is))
    ∙ ap (nat_lt (count (λ r. nat_lt r c.args.rank) c.args.self.now)) last

pub returns-in-None : goal.returns-in-None
returns-in-None c =
    let xs = c.deref.result.now in
    let is : xs ≡ c.args.self.now = c.deref.ensures.value ∙ c.self.view_is in
    let past : length xs ≤ c.args.most - 1 = ltb-false _ _ (sym c.in-None.ensures.lookup.0) in
    sym (lt-ltb _ _ (omega (arith, past, ap length is, c.if-most-eq0.false, count-le-length (λ r. nat_lt r c.args.rank) c.args.self.now)))
