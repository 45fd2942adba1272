use Rattle.std.proofs.lemmas.Grind.{common_steps}
use Rattle.std.proofs.Common.{◌≡◌, ◌<◌, ◌≤◌, ◌+◌, ◌*◌, ◌/◌, ℕ, false, length, get_or, sym, subst, inl, inr, arith, ltb-true}
use Rattle.std.specs.Prelude.{IfNone}
use Rattle.std.proofs.lemmas.Bool.{cases_lt, ltb-false}
use Rattle.std.proofs.lemmas.List.{get_or_read}
use Rattle.mt_bits.specs.Flags.{flag}
use Rattle.mt_bits.proofs.BitFacts.{first_in_word, none_after, none_past, word_after}
use Rattle.mt_bits.proofs.rank_table.first_flag_from.Goals as goal

pub loop-word-preserved : goal.loop-word-preserved
loop-word-preserved c =
    let words = c.args.words.now in
    let start = c.loop-word.start in
    let place : 64 * (start / 64 + 1) / 64 ≡ start / 64 + 1 = omega arith in
    let inside : start / 64 + 1 < length words = subst (λ i. i < length words) place (ltb-true _ _ (sym c.in_ok-word-2.ensures.lookup.0)) in
    let read = subst (λ i. c.in_ok-word-2.field-0.now ≡ get_or words i c.in_ok-word-2.field-0.now) place c.in_ok-word-2.ensures.lookup.1 in
    word_after words c.args.number start c.loop-word.word c.in_ok-word-2.field-0.now c.loop-word.invariant c.loop-word-test.true inside
    (get_or_read words (start / 64 + 1) c.in_ok-word-2.field-0.now inside read 0) (omega (arith, c.type_inv.word))

pub returns-in_err-word-2-clause-none : goal.returns-in_err-word-2-clause-none
returns-in_err-word-2-clause-none c =
    let words = c.args.words.now in
    let start = c.loop-word.start in
    let past : length words ≤ 64 * (start / 64 + 1) / 64 = ltb-false _ _ (sym c.in_err-word-2.ensures.lookup.0) in
    subst (λ o. IfNone o ((r : ℕ) → c.args.number ≤ r → flag words r ≡ false)) (sym c.from_residual-in_err-word-2.ensures) (λ r low.
    elim (cases_lt r (64 * (start / 64 + 1))) [
      | inl before ↦ none_after words c.args.number start c.loop-word.word c.loop-word.invariant c.loop-word-test.true r low before
      | inr after ↦ none_past words r (omega arith)
    ])

pub overflow_add-result : goal.overflow_add-result
overflow_add-result c =
    omega (arith, c.requires.few, (first_in_word c.args.words.now c.args.number c.loop-word.start c.loop-word.word c.loop-word.invariant c.loop-word-test.false).1)

pub returns-clause-first : goal.returns-clause-first
returns-clause-first c = (first_in_word c.args.words.now c.args.number c.loop-word.start c.loop-word.word c.loop-word.invariant c.loop-word-test.false).0

pub returns-in_err-word-clause-none : goal.returns-in_err-word-clause-none
returns-in_err-word-clause-none c = grind (arith, common_steps)
