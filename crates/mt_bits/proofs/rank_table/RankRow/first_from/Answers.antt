use Rattle.std.proofs.Common.{◌≡◌, ◌≤◌, ℕ, false, subst}
use Rattle.std.specs.Prelude.{IfNone, IfSome}
use Rattle.mt_bits.specs.Members.{is_in, IsFirstFrom}
use Rattle.mt_bits.proofs.BitFacts.{none_told, some_told}
use Rattle.mt_bits.proofs.rank_table.RankRow.first_from.Goals as goal

pub returns-clause-first : goal.returns-clause-first
returns-clause-first c =
    let n = c.args.number in
    let o = c.first_flag_from.result in
    subst (λ told. IfSome o (IsFirstFrom (is_in told) n)) c.self.view_is
    (some_told c.self.inside.words.now n o c.first_flag_from.ensures.first)

pub returns-clause-none : goal.returns-clause-none
returns-clause-none c =
    let n = c.args.number in
    let o = c.first_flag_from.result in
    subst (λ told. IfNone o ((r : ℕ) → n ≤ r → is_in told r ≡ false)) c.self.view_is
    (none_told c.self.inside.words.now n o c.first_flag_from.ensures.none)
