-- The fields of a line, one after the other, and the commas at its end.
use Rattle.std.proofs.Common.{◌≡◌, ℕ, zero, suc, ◌+◌, ◌-◌, ◌<◌, ◌≤◌, List, [], ◌∷◌, ◌++◌, length, take, drop, get_or, true, false, ◌==◌, refl, sym, ap, ◌∙◌, inl, inr, append_assoc, arith, cond, length-append}
use Rattle.std.specs.Borrow.{Bor}
use Rattle.std.specs.Prelude.{Option, None, Some, MatchOption}
use Rattle.std.specs.List.{list_any, suffix_len, count_by}
use Rattle.memchr.specs.Find.{is_byte}
use Rattle.std.proofs.Math.Seq.{take-length}
use Rattle.std.proofs.lemmas.Bool.{cases_Bool, eqb-true, or_parts}
use Rattle.std.proofs.lemmas.Bool.Decides.{nat_tests}
use Rattle.std.proofs.lemmas.List.Recursion.{is_count_by}
use Rattle.std.proofs.lemmas.List.Sums.{count_by-le-length, sum_by-take-drop}
use Rattle.std.proofs.lemmas.List.{append-nil, drop-drop, drop_more, reverse-append, take-append-drop, take-append-le}
use Rattle.mt_lists.specs.Lines.{fields_of_line, fields_of_trimmed, is_comma, split_from}
use Rattle.mt_lists.specs.Records.{is_empty_field, without_trailing_empty}
use Rattle.mt_lists.proofs.LineFacts.{none_at_all, none_before}

-- the bytes up to a comma are a field
split-run : (field x rest : List ℕ) → list_any is_comma x ≡ false → split_from field (x ++ (44 ∷ rest)) ≡ (field ++ x) ∷ split_from [] rest
unfolding split_from
split-run field [] rest none = rw (append-nil field) refl
split-run field (b ∷ more) rest none =
    let other : (b == 44) ≡ false = (or_parts _ _ none).0 in
    rw other (split-run (field ++ (b ∷ [])) more rest (or_parts _ _ none).1 ∙ ap (λ (f : List ℕ). f ∷ split_from [] rest) (append_assoc field (b ∷ []) more))

split-last : (field x : List ℕ) → list_any is_comma x ≡ false → split_from field x ≡ (field ++ x) ∷ []
unfolding split_from
split-last field [] none = rw (append-nil field) refl
split-last field (b ∷ more) none =
    let other : (b == 44) ≡ false = (or_parts _ _ none).0 in
    rw other (split-last (field ++ (b ∷ [])) more (or_parts _ _ none).1 ∙ ap (λ (f : List ℕ). f ∷ []) (append_assoc field (b ∷ []) more))

-- the first field of a line, up to its first comma
pub first-field : (text : List ℕ) (at : ℕ) → at < length text → ((k : ℕ) → k < at → is_comma (get_or text k 0) ≡ true → ⊥) → is_comma (get_or text at 0) ≡ true
    → fields_of_line text ≡ take at text ∷ fields_of_line (drop (at + 1) text)
first-field text at within before comma =
    let here : get_or text at 0 ≡ 44 = eqb-true (get_or text at 0) 44 comma in
    let whole : take at text ++ (44 ∷ drop (at + 1) text) ≡ text =
    ap (λ (x : List ℕ). take at text ++ x) (sym (drop_more text at 0 within ∙ ap (λ (c : ℕ). c ∷ drop (at + 1) text) here)) ∙ take-append-drop at text in
    ap (λ (x : List ℕ). fields_of_line x) (sym whole) ∙ split-run [] (take at text) (drop (at + 1) text) (none_before is_comma text at before)

pub only-field : (text : List ℕ) → ((k : ℕ) → k < length text → is_comma (get_or text k 0) ≡ true → ⊥) → fields_of_line text ≡ text ∷ []
only-field text before = split-last [] text (none_at_all is_comma text before)

-- a comma at the end of a line puts an empty field at the end
split-comma : (field line : List ℕ) → split_from field (line ++ (44 ∷ [])) ≡ split_from field line ++ ([] ∷ [])
unfolding split_from
split-comma field [] = refl
split-comma field (b ∷ rest) =
    elim (cases_Bool (b == 44)) [
      | inl is ↦ rw is (ap (λ (fs : List (List ℕ)). field ∷ fs) (split-comma [] rest))
      | inr other ↦ rw other (split-comma (field ++ (b ∷ [])) rest)
    ]

-- another byte at the end of a line ends its last field
record LastField (fields : List (List ℕ)) (c : ℕ) : Type 0 where
  front : List (List ℕ)
  bytes : List ℕ
  is : fields ≡ front ++ ((bytes ++ (c ∷ [])) ∷ [])

split-other : (field line : List ℕ) (c : ℕ) → (c == 44) ≡ false → LastField (split_from field (line ++ (c ∷ []))) c
unfolding split_from
split-other field [] c other = record { front = []; bytes = field; is = rw other refl }
split-other field (b ∷ rest) c other =
    elim (cases_Bool (b == 44)) [
      | inl is ↦
          let more = split-other [] rest c other in
          record { front = field ∷ more.front; bytes = more.bytes; is = rw is (ap (λ (fs : List (List ℕ)). field ∷ fs) more.is) }
      | inr not ↦
          let more = split-other (field ++ (b ∷ [])) rest c other in
          record { front = more.front; bytes = more.bytes; is = rw not more.is }
    ]

suffix-yes : (fs : List (List ℕ)) (f : List ℕ) → is_empty_field f ≡ true → suffix_len is_empty_field (fs ++ (f ∷ [])) ≡ 1 + suffix_len is_empty_field fs
suffix-yes fs f empty = rw (reverse-append fs (f ∷ []), empty) refl

suffix-no : (fs : List (List ℕ)) (f : List ℕ) → is_empty_field f ≡ false → suffix_len is_empty_field (fs ++ (f ∷ [])) ≡ 0
suffix-no fs f some = rw (reverse-append fs (f ∷ []), some) refl

without-empty : (fs : List (List ℕ)) → without_trailing_empty (fs ++ ([] ∷ [])) ≡ without_trailing_empty fs
without-empty fs =
    let long : length (fs ++ ([] ∷ [])) ≡ length fs + 1 = length-append fs ([] ∷ []) in
    let kept : length (fs ++ ([] ∷ [])) - suffix_len is_empty_field (fs ++ ([] ∷ [])) ≡ length fs - suffix_len is_empty_field fs = omega (arith, long, suffix-yes fs [] refl) in
    ap (λ (n : ℕ). take n (fs ++ ([] ∷ []))) kept ∙ take-append-le (length fs - suffix_len is_empty_field fs) fs ([] ∷ []) (omega arith)

without-some : (fs : List (List ℕ)) (f : List ℕ) → is_empty_field f ≡ false → without_trailing_empty (fs ++ (f ∷ [])) ≡ fs ++ (f ∷ [])
without-some fs f some =
    let all : length (fs ++ (f ∷ [])) - suffix_len is_empty_field (fs ++ (f ∷ [])) ≡ length (fs ++ (f ∷ [])) = omega (arith, suffix-no fs f some) in
    ap (λ (n : ℕ). take n (fs ++ (f ∷ []))) all ∙ take-length (fs ++ (f ∷ []))

-- a line without its last comma has the same fields but for the empty ones at the end
pub trimmed-comma : (line front : List ℕ) → line ≡ front ++ (44 ∷ []) → without_trailing_empty (fields_of_line line) ≡ without_trailing_empty (fields_of_line front)
trimmed-comma line front e = rw (e, split-comma [] front) (without-empty (fields_of_line front))

not-empty : (x : List ℕ) (c : ℕ) → is_empty_field (x ++ (c ∷ [])) ≡ false
not-empty [] c = refl
not-empty (b ∷ rest) c = grind (arith, nat_tests)

-- a line whose last byte is no comma has no empty field at its end
pub trimmed-other : (line front : List ℕ) (c : ℕ) → line ≡ front ++ (c ∷ []) → (c == 44) ≡ false → fields_of_trimmed line ≡ without_trailing_empty (fields_of_line line)
trimmed-other line front c e other =
    let last = split-other [] front c other in
    let some : without_trailing_empty (fields_of_line (front ++ (c ∷ []))) ≡ fields_of_line (front ++ (c ∷ [])) =
    ap (λ (fs : List (List ℕ)). without_trailing_empty fs) last.is ∙ without-some last.front (last.bytes ++ (c ∷ [])) (not-empty last.bytes c) ∙ sym last.is in
    rw (e, some) (whole front c)
  where
    whole : (front : List ℕ) (c : ℕ) → fields_of_trimmed (front ++ (c ∷ [])) ≡ fields_of_line (front ++ (c ∷ []))
    whole [] c = refl
    whole (b ∷ rest) c = refl

-- a line of commas has no field but empty ones
pub trimmed-none : (kept : List ℕ) → length kept ≡ 0 → fields_of_trimmed kept ≡ without_trailing_empty (fields_of_line kept)
unfolding split_from
trimmed-none [] e = refl
trimmed-none (b ∷ rest) e = absurd (omega (arith, e))

-- one field fewer
pub field-fewer : (s : List (List ℕ)) (x : List ℕ) (t : List (List ℕ)) → s ≡ x ∷ t → length t < length s
field-fewer s x t e = rw e (omega arith)

-- a line has a field
split-some : (field line : List ℕ) → (length (split_from field line) == 0) ≡ false
unfolding split_from
split-some field [] = refl
split-some field (b ∷ rest) =
    elim (cases_Bool (b == 44)) [
      | inl is ↦ rw is (some field (split_from [] rest))
      | inr other ↦ rw other (split-some (field ++ (b ∷ [])) rest)
    ]
  where
    some : (f : List ℕ) (fs : List (List ℕ)) → (length (f ∷ fs) == 0) ≡ false
    some f fs = grind (arith, nat_tests)

-- a line that has lost the commas at its end has no field if and only if it has no byte
pub trimmed-empty : (line : List ℕ) → (length line == 0) ≡ (length (fields_of_trimmed line) == 0)
trimmed-empty [] = refl
trimmed-empty (b ∷ rest) =
    let byte : (length (b ∷ rest) == 0) ≡ false = grind (arith, nat_tests) in
    byte ∙ sym (split-some [] (b ∷ rest))

-- a line has as many fields, whatever stands before its first byte
fields-same : (f g line : List ℕ) → length (split_from f line) ≡ length (split_from g line)
unfolding split_from
fields-same f g [] = refl
fields-same f g (c ∷ rest) =
    elim (cases_Bool (c == 44)) [
      | inl is ↦ rw is refl
      | inr other ↦ rw other (fields-same (f ++ (c ∷ [])) (g ++ (c ∷ [])) rest)
    ]

-- a line from a byte on, and from the next: a comma is one field more
fields-comma : (rest : List ℕ) → length (fields_of_line (44 ∷ rest)) ≡ 1 + length (fields_of_line rest)
unfolding split_from
fields-comma rest = omega arith

fields-other : (c : ℕ) (rest : List ℕ) → (c == 44) ≡ false → length (fields_of_line (c ∷ rest)) ≡ length (fields_of_line rest)
unfolding split_from
fields-other c rest other = rw other (fields-same (c ∷ []) [] rest)

-- a line has one comma less than it has fields
abbrev commas_in : List ℕ → ℕ
commas_in line = length (fields_of_line line) - 1

some-field : (line : List ℕ) → 1 ≤ length (fields_of_line line)
some-field line = grind (arith, nat_tests, split-some [] line)

no-comma : commas_in [] ≡ 0
unfolding split_from
no-comma = refl

next-comma : (c : ℕ) (rest : List ℕ) → commas_in (c ∷ rest) ≡ cond (is_byte 44 c) (1 + commas_in rest) (commas_in rest)
next-comma c rest = elim (cases_Bool (c == 44)) [
  | inl is ↦
      let more : length (fields_of_line (c ∷ rest)) ≡ 1 + length (fields_of_line rest) =
      ap (λ (b : ℕ). length (fields_of_line (b ∷ rest))) (eqb-true c 44 is) ∙ fields-comma rest in
      rw is (omega (arith, more, some-field rest))
  | inr other ↦ rw other (omega (arith, fields-other c rest other))
]

pub fields-count : (line : List ℕ) → count_by (is_byte 44) line + 1 ≡ length (fields_of_line line)
fields-count line = omega (arith, is_count_by commas_in (is_byte 44) no-comma next-comma line, some-field line)

-- a line in two parts has the commas of both
pub commas-parts : (line front rest : List ℕ) (n : ℕ) → front ≡ take n line → rest ≡ drop n line
    → count_by (is_byte 44) front + count_by (is_byte 44) rest ≡ count_by (is_byte 44) line
commas-parts line front rest n first last = rw (first, last) (sum_by-take-drop (λ b. cond (is_byte 44 b) 1 0) line n)

-- and no more than bytes
pub commas-few : (line : List ℕ) → count_by (is_byte 44) line ≤ length line
commas-few line = count_by-le-length (is_byte 44) line

-- the fields after the first don't depend on what the first begins with
drop-from : (f g line : List ℕ) (n : ℕ) → drop (suc n) (split_from f line) ≡ drop (suc n) (split_from g line)
unfolding split_from
drop-from f g [] n = refl
drop-from f g (b ∷ rest) n =
    elim (cases_Bool (b == 44)) [
      | inl is ↦ rw is refl
      | inr other ↦ rw other (drop-from (f ++ (b ∷ [])) (g ++ (b ∷ [])) rest n)
    ]

comma-parted : (b : ℕ) (rest : List ℕ) → count_by is_comma (b ∷ []) + count_by is_comma rest ≡ count_by is_comma (b ∷ rest)
comma-parted b rest = sum_by-take-drop (λ c. cond (is_comma c) 1 0) (b ∷ rest) 1

comma-more : (b : ℕ) (rest : List ℕ) → (b == 44) ≡ true → count_by is_comma (b ∷ rest) ≡ 1 + count_by is_comma rest
comma-more b rest is = let one : count_by is_comma (b ∷ []) ≡ 1 = rw is refl in omega (arith, one, comma-parted b rest)

comma-same : (b : ℕ) (rest : List ℕ) → (b == 44) ≡ false → count_by is_comma (b ∷ rest) ≡ count_by is_comma rest
comma-same b rest other = let none : count_by is_comma (b ∷ []) ≡ 0 = rw other refl in omega (arith, none, comma-parted b rest)

-- A piece is passed that has fewer commas than fields are to be passed. As many fields fewer are to be passed after it.
drop-pieces : (f g piece after : List ℕ) (n m : ℕ) → n ≡ m + count_by is_comma piece → 0 < m → drop n (split_from f (piece ++ after)) ≡ drop m (split_from g after)
unfolding split_from
drop-pieces f g [] after n zero are some = absurd (omega (arith, some))
drop-pieces f g [] after n (suc m) are some = let same : n ≡ suc m = omega (arith, are) in rw same (drop-from f g after m)
drop-pieces f g (b ∷ rest) after zero m are some = absurd (omega (arith, are, some))
drop-pieces f g (b ∷ rest) after (suc n) m are some =
    elim (cases_Bool (b == 44)) [
      | inl is ↦ let more = comma-more b rest is in rw is (drop-pieces [] g rest after n m (omega (arith, are, more)) some)
      | inr other ↦ let same = comma-same b rest other in rw other (drop-pieces (f ++ (b ∷ [])) g rest after (suc n) m (omega (arith, are, same)) some)
    ]

pub piece-passed : (line piece after : List ℕ) (n m size : ℕ) → piece ≡ take size line → after ≡ drop size line → n ≡ m + count_by is_comma piece → 0 < m
    → drop m (fields_of_line after) ≡ drop n (fields_of_line line)
piece-passed line piece after n m size first last are some =
    let whole : piece ++ after ≡ line = rw (first, last) (take-append-drop size line) in
    sym (ap (λ (l : List ℕ). drop n (fields_of_line l)) (sym whole) ∙ drop-pieces [] [] piece after n m are some)

-- fields that a call of `next` leaves
pub next-drops : (all left next : List (List ℕ)) (k : ℕ) (o : Option (Bor (List ℕ))) → left ≡ drop k all
    → MatchOption o ((left ≡ []) × (next ≡ [])) (λ x. left ≡ x.now ∷ next) → next ≡ drop (k + 1) all
next-drops all left next k None is gives = gives.1 ∙ sym (ap (drop 1) gives.0) ∙ ap (drop 1) is ∙ drop-drop 1 k all
next-drops all left next k (Some x) is gives = sym (ap (drop 1) gives) ∙ ap (drop 1) is ∙ drop-drop 1 k all
