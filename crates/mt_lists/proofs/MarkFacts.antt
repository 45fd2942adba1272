-- Marks at the start of an input.
use Rattle.std.proofs.Common.{◌≡◌, ◌≢◌, ℕ, List, [], ◌∷◌, ◌++◌, drop, length, nat_eq, true, false, Some, None, refl, ◌+◌, inl, inr, arith, Option, Bor, MatchOption, take}
use Rattle.std.specs.List.{starts_with}
use Rattle.std.specs.Cmp.Lexicographic.{pointwise}
use Rattle.std.proofs.lemmas.Bool.{cases_Bool}
use Rattle.std.proofs.lemmas.Bool.Decides.{Decides-eqb, nat_tests}
use Rattle.std.proofs.lemmas.Slice.Eq.{starts_is, strip_prefix_is}
use Rattle.csv.specs.Reading.{is_bom, strip_bom}
use Rattle.mt_lists.specs.Records.{mark, records_of, rows_of}

-- a text that is no mark and more has no mark at its start
pub no_mark : (text : List ℕ) → ((rest : List ℕ) → text ≢ mark ++ rest) → starts_with nat_eq text mark ≡ false
no_mark text none =
    elim (cases_Bool (starts_with nat_eq text mark)) [
      | inl marked ↦ absurd (none (drop 3 text) ((starts_is Decides-eqb text mark _ refl).0 marked))
      | inr plain ↦ plain
    ]

-- no more has it two
no_marks : (text : List ℕ) → ((rest : List ℕ) → text ≢ mark ++ rest) → starts_with nat_eq text (mark ++ mark) ≡ false
no_marks text none =
    elim (cases_Bool (starts_with nat_eq text (mark ++ mark))) [
      | inl marked ↦ absurd (none (mark ++ drop 6 text) ((starts_is Decides-eqb text (mark ++ mark) _ refl).0 marked))
      | inr plain ↦ plain
    ]

-- an input with no mark
pub records-unmarked : (text : List ℕ) → ((rest : List ℕ) → text ≢ mark ++ rest) → records_of text ≡ Some (rows_of text)
unfolding records_of
records-unmarked text none = rw (no_marks text none, no_mark text none) refl

-- an input with one mark
pub records-marked : (text rest : List ℕ) → text ≡ mark ++ rest → starts_with nat_eq rest mark ≡ false → records_of text ≡ Some (rows_of rest)
unfolding records_of
records-marked text rest e plain = rw (e, plain) refl

-- an input with two
pub records-two : (text rest : List ℕ) → text ≡ mark ++ rest → starts_with nat_eq rest mark ≡ true → records_of text ≡ None
unfolding records_of
records-two text rest e marked = rw (e, marked) refl

-- csv takes no mark off a text that has none
pub strip-unmarked : (text : List ℕ) → starts_with nat_eq text mark ≡ false → strip_bom text ≡ text
unfolding strip_bom
strip-unmarked [] plain = refl
strip-unmarked (a ∷ []) plain = refl
strip-unmarked (a ∷ b ∷ []) plain = refl
strip-unmarked (a ∷ b ∷ c ∷ rest) plain =
    let other : is_bom a b c ≡ false = grind (arith, nat_tests, plain) in
    rw other refl

-- what `strip_prefix` answers
pub stripped : (text needle : List ℕ) (result : Option (Bor (List ℕ))) → needle ≡ mark
    → MatchOption result (pointwise nat_eq (take (length needle) text) needle ≡ false)
    (λ rest. (pointwise nat_eq (take (length needle) text) needle ≡ true) × (rest.now ≡ drop (length needle) text) × (length rest.now + length needle ≡ length text))
    → MatchOption result ((rest : List ℕ) → text ≢ mark ++ rest) (λ rest. text ≡ mark ++ rest.now)
stripped text needle result e cases = rw e at (strip_prefix_is Decides-eqb text needle result cases)
