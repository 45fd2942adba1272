-- The records of a text with no quote, line by line.
use Rattle.std.proofs.Common.{◌≡◌, ℕ, zero, suc, ◌+◌, ◌<◌, ◌≤◌, List, [], ◌∷◌, ◌++◌, length, map, take, drop, get_or, Bool, true, false, ◌==◌, refl, sym, ap, ◌∙◌, inl, inr, append_assoc, arith, length-drop}
use Rattle.std.specs.List.{list_any}
use Rattle.std.proofs.Math.Seq.{take-length}
use Rattle.std.proofs.lemmas.Bool.{cases_Bool, false_from_ne_true, or_parts}
use Rattle.std.proofs.lemmas.Bool.Decides.{nat_tests}
use Rattle.std.proofs.lemmas.List.Folds.{list_any-append}
use Rattle.std.proofs.lemmas.List.{append-nil, drop_more, length-map, map-append, take-append-drop, take_more}
use Rattle.csv.specs.declared.parser.State.{State}
use Rattle.csv.specs.declared.parser.State.TheVariants as st
use Rattle.csv.specs.Reading.{default_config, records}
use Rattle.mt_lists.specs.Lines.{NextLine, ends_line, fields_of_line, is_quote, record_of_line, split_from}
use Rattle.mt_lists.specs.Records.{rows_of, without_trailing_empty}
use Rattle.mt_lists.proofs.StepFacts.{read_from, records-read_from, records-within}

-- after a carriage return csv reads on as from the start
after_return : (tail : List ℕ) → read_from st.AfterCr [] [] tail ≡ read_from st.StartRecord [] [] tail
unfolding read_from
after_return [] = refl
after_return (c ∷ rest) =
    elim (cases_Bool (c == 10)) [
      | inl feed ↦ elim (cases_Bool (c == 13)) [
        | inl return ↦ rw (feed, return) refl
        | inr other ↦ rw (feed, other) refl
      ]
      | inr other ↦ rw other refl
    ]

-- what ends a line ends the record
record_ends : (fields : List (List ℕ)) (field : List ℕ) (c : ℕ) (tail : List ℕ) → ends_line c ≡ true → (c == 44) ≡ false
    → read_from st.InField fields field (c ∷ tail) ≡ (fields ++ (field ∷ [])) ∷ read_from st.StartRecord [] [] tail
unfolding read_from
record_ends fields field c tail ends comma =
    elim (cases_Bool (c == 13)) [
      | inl return ↦ rw (comma, return) (ap (λ (rows : List (List (List ℕ))). (fields ++ (field ∷ [])) ∷ rows) (after_return tail))
      | inr other ↦ elim (cases_Bool (c == 10)) [
        | inl feed ↦ rw (comma, other, feed) refl
        | inr none ↦ absurd (cc (rw (other, none) at ends))
      ]
    ]

-- the start of a field reads as its middle, but for a quote
field_starts : (fields : List (List ℕ)) (field xs : List ℕ) → list_any is_quote xs ≡ false → read_from st.StartField fields field xs ≡ read_from st.InField fields field xs
unfolding read_from
field_starts fields field [] none = refl
field_starts fields field (c ∷ rest) none =
    let other : (c == 34) ≡ false = (or_parts _ _ none).0 in
    rw other refl

-- so does the start of a record, but for what ends a line
record_starts : (c : ℕ) (rest : List ℕ) → (c == 34) ≡ false → ends_line c ≡ false → read_from st.StartRecord [] [] (c ∷ rest) ≡ read_from st.InField [] [] (c ∷ rest)
unfolding read_from
record_starts c rest other goes =
    let feed : (c == 10) ≡ false = (or_parts _ _ goes).0 in
    let return : (c == 13) ≡ false = (or_parts _ _ goes).1 in
    rw (feed, return, other) refl

-- a comma ends a field
comma_read : (fields : List (List ℕ)) (field : List ℕ) (c : ℕ) (rest : List ℕ) → (c == 44) ≡ true
    → read_from st.InField fields field (c ∷ rest) ≡ read_from st.StartField (fields ++ (field ∷ [])) [] rest
unfolding read_from
comma_read fields field c rest comma = rw comma refl

-- another byte of a line is one of the field
byte_read : (fields : List (List ℕ)) (field : List ℕ) (c : ℕ) (rest : List ℕ) → (c == 44) ≡ false → ends_line c ≡ false
    → read_from st.InField fields field (c ∷ rest) ≡ read_from st.InField fields (field ++ (c ∷ [])) rest
unfolding read_from
byte_read fields field c rest comma goes =
    let feed : (c == 10) ≡ false = (or_parts _ _ goes).0 in
    let return : (c == 13) ≡ false = (or_parts _ _ goes).1 in
    rw (comma, feed, return) refl

-- what stands of a line, and what ends it
line_read : (fields : List (List ℕ)) (field line : List ℕ) (c : ℕ) (tail : List ℕ) → list_any is_quote (line ++ (c ∷ tail)) ≡ false → list_any ends_line line ≡ false
    → ends_line c ≡ true → (c == 44) ≡ false
    → read_from st.InField fields field (line ++ (c ∷ tail)) ≡ (fields ++ split_from field line) ∷ read_from st.StartRecord [] [] tail
unfolding split_from
line_read fields field [] c tail unquoted one ends comma = record_ends fields field c tail ends comma
line_read fields field (b ∷ rest) c tail unquoted one ends comma =
    elim (cases_Bool (b == 44)) [
      | inl is ↦
          comma_read fields field b (rest ++ (c ∷ tail)) is
          ∙ field_starts (fields ++ (field ∷ [])) [] (rest ++ (c ∷ tail)) (or_parts _ _ unquoted).1
          ∙ line_read (fields ++ (field ∷ [])) [] rest c tail (or_parts _ _ unquoted).1 (or_parts _ _ one).1 ends comma
          ∙ rw (is, append_assoc fields (field ∷ []) (split_from [] rest)) refl
      | inr other ↦
          byte_read fields field b (rest ++ (c ∷ tail)) other (or_parts _ _ one).0
          ∙ line_read fields (field ++ (b ∷ [])) rest c tail (or_parts _ _ unquoted).1 (or_parts _ _ one).1 ends comma
          ∙ rw other refl
    ]

-- what stands of a line that nothing ends
last_read : (fields : List (List ℕ)) (field line : List ℕ) → list_any is_quote line ≡ false → list_any ends_line line ≡ false
    → read_from st.InField fields field line ≡ (fields ++ split_from field line) ∷ []
unfolding split_from read_from
last_read fields field [] unquoted one = refl
last_read fields field (b ∷ rest) unquoted one =
    elim (cases_Bool (b == 44)) [
      | inl is ↦
          comma_read fields field b rest is
          ∙ field_starts (fields ++ (field ∷ [])) [] rest (or_parts _ _ unquoted).1
          ∙ last_read (fields ++ (field ∷ [])) [] rest (or_parts _ _ unquoted).1 (or_parts _ _ one).1
          ∙ rw (is, append_assoc fields (field ∷ []) (split_from [] rest)) refl
      | inr other ↦
          byte_read fields field b rest other (or_parts _ _ one).0
          ∙ last_read fields (field ++ (b ∷ [])) rest (or_parts _ _ unquoted).1 (or_parts _ _ one).1
          ∙ rw other refl
    ]

-- what ends a line with no byte is passed over
blank_read : (c : ℕ) (tail : List ℕ) → ends_line c ≡ true → read_from st.StartRecord [] [] (c ∷ tail) ≡ read_from st.StartRecord [] [] tail
unfolding read_from
blank_read c tail ends =
    elim (cases_Bool (c == 13)) [
      | inl return ↦ rw return refl
      | inr other ↦ elim (cases_Bool (c == 10)) [
        | inl feed ↦ rw (other, feed) refl
        | inr none ↦ absurd (cc (rw (other, none) at ends))
      ]
    ]

-- what ends a line is no comma
pub not_comma : (c : ℕ) → ends_line c ≡ true → (c == 44) ≡ false
not_comma c ends = grind (arith, nat_tests, ends)

-- the records of a line and of what comes after it
records-line : (line : List ℕ) (c : ℕ) (tail : List ℕ) → list_any is_quote (line ++ (c ∷ tail)) ≡ false → list_any ends_line line ≡ false → ends_line c ≡ true
    → records default_config (line ++ (c ∷ tail)) ≡ record_of_line line ++ records default_config tail
records-line [] c tail unquoted one ends = records-read_from (c ∷ tail) ∙ blank_read c tail ends ∙ sym (records-read_from tail)
records-line (b ∷ rest) c tail unquoted one ends =
    records-read_from (b ∷ (rest ++ (c ∷ tail)))
    ∙ record_starts b (rest ++ (c ∷ tail)) (or_parts _ _ unquoted).0 (or_parts _ _ one).0
    ∙ line_read [] [] (b ∷ rest) c tail unquoted one ends (not_comma c ends)
    ∙ ap (λ (rows : List (List (List ℕ))). fields_of_line (b ∷ rest) ∷ rows) (sym (records-read_from tail))

-- no byte, no record
records-nothing : records default_config [] ≡ []
unfolding read_from
records-nothing = records-read_from []

-- the record of a line that nothing ends
records-last : (line : List ℕ) → list_any is_quote line ≡ false → list_any ends_line line ≡ false → records default_config line ≡ record_of_line line
records-last [] unquoted one = records-nothing
records-last (b ∷ rest) unquoted one =
    records-read_from (b ∷ rest) ∙ record_starts b rest (or_parts _ _ unquoted).0 (or_parts _ _ one).0 ∙ last_read [] [] (b ∷ rest) unquoted one

-- before the first byte that passes a test, none does
pub none_before : (p : ℕ → Bool) (text : List ℕ) (at : ℕ) → ((k : ℕ) → k < at → p (get_or text k 0) ≡ true → ⊥) → list_any p (take at text) ≡ false
none_before p [] zero h = refl
none_before p [] (suc at) h = refl
none_before p (c ∷ rest) zero h = refl
none_before p (c ∷ rest) (suc at) h =
    let here : p c ≡ false = false_from_ne_true (p c) (h 0 (omega arith)) in
    rw here (none_before p rest at (λ k lt. h (suc k) (omega arith)))

-- if no byte of a text passes it, none does
pub none_at_all : (p : ℕ → Bool) (text : List ℕ) → ((k : ℕ) → k < length text → p (get_or text k 0) ≡ true → ⊥) → list_any p text ≡ false
none_at_all p text h = rw (take-length text) at (none_before p text (length text) h)

-- the first line of a text, up to the first byte that ends one
pub first_line : (text : List ℕ) (at : ℕ) → at < length text → list_any is_quote text ≡ false → ((k : ℕ) → k < at → ends_line (get_or text k 0) ≡ true → ⊥) → ends_line (get_or text at 0) ≡ true
    → NextLine text (take at text) (drop (at + 1) text)
first_line text at within unquoted before ends =
    let whole : take at text ++ (get_or text at 0 ∷ drop (at + 1) text) ≡ text = ap (λ (x : List ℕ). take at text ++ x) (sym (drop_more text at 0 within)) ∙ take-append-drop at text in
    let none : list_any is_quote (take at text ++ (get_or text at 0 ∷ drop (at + 1) text)) ≡ false = ap (list_any is_quote) whole ∙ unquoted in (
      ap (λ (x : List ℕ). records default_config x) (sym whole) ∙ records-line (take at text) (get_or text at 0) (drop (at + 1) text) none (none_before ends_line text at before) ends,
      omega (arith, length-drop (at + 1) text),
    )

-- the last line of a text, which nothing ends
pub last_line : (text : List ℕ) → 0 < length text → list_any is_quote text ≡ false → ((k : ℕ) → k < length text → ends_line (get_or text k 0) ≡ true → ⊥)
    → NextLine text (take (length text) text) (drop (length text) text)
last_line text some unquoted before =
    let nothing : drop (length text) text ≡ [] = drop-length text in
    let alone : records default_config text ≡ record_of_line text = records-last text unquoted (none_at_all ends_line text before) in
    (rw (take-length text, nothing, records-nothing, append-nil (record_of_line text)) alone, rw nothing some)
  where
    drop-length : (xs : List ℕ) → drop (length xs) xs ≡ []
    drop-length [] = refl
    drop-length (x ∷ xs) = drop-length xs

-- a line with no byte is no row
pub rows-blank : (text line rest : List ℕ) → NextLine text line rest → (length line == 0) ≡ true → rows_of text ≡ rows_of rest
unfolding rows_of
rows-blank text [] rest next blank = ap (map without_trailing_empty) next.0
rows-blank text (b ∷ line) rest next blank = absurd (grind (arith, nat_tests, blank))

-- and another one is
pub rows-line : (text line rest : List ℕ) → NextLine text line rest → (length line == 0) ≡ false → rows_of text ≡ without_trailing_empty (fields_of_line line) ∷ rows_of rest
unfolding rows_of
rows-line text [] rest next some = cc some
rows-line text (b ∷ line) rest next some = ap (map without_trailing_empty) next.0

-- a text with no byte has no row
pub rows-nothing : (text : List ℕ) → length text ≡ 0 → rows_of text ≡ []
unfolding rows_of
rows-nothing [] none = ap (map without_trailing_empty) records-nothing
rows-nothing (c ∷ rest) none = absurd (omega (arith, none))

-- a text has no more rows than bytes
pub rows-within : (text : List ℕ) → length (rows_of text) ≤ length text
unfolding rows_of
rows-within text = rw (length-map (records default_config text) without_trailing_empty) (records-within text)

-- what no byte of a text is, no byte of its end is
pub none_after : (p : ℕ → Bool) (n : ℕ) (text rest : List ℕ) → rest ≡ drop n text → list_any p text ≡ false
    → list_any p rest ≡ false
none_after p n text rest is none =
    let parts = sym (list_any-append p (take n text) (drop n text)) ∙ ap (list_any p) (take-append-drop n text) ∙ none in
    ap (list_any p) is ∙ (or_parts _ _ parts).1

-- and none of its start
pub none_front : (p : ℕ → Bool) (n : ℕ) (text front : List ℕ) → front ≡ take n text → list_any p text ≡ false
    → list_any p front ≡ false
none_front p n text front is none =
    let parts = sym (list_any-append p (take n text) (drop n text)) ∙ ap (list_any p) (take-append-drop n text) ∙ none in
    ap (list_any p) is ∙ (or_parts _ _ parts).0

-- a text that goes on after a line feed
module _ (tail : List ℕ) where
  -- its records are those up to the line feed, and those after it
  abbrev Goes : State → List (List ℕ) → List ℕ → List ℕ → Type 0
  Goes s fields field xs = read_from s fields field (xs ++ (10 ∷ tail)) ≡ read_from s fields field (xs ++ (10 ∷ [])) ++ read_from st.StartRecord [] [] tail

  -- with more records after the line feed
  abbrev and_more : List (List (List ℕ)) → List (List (List ℕ))
  and_more rows = rows ++ read_from st.StartRecord [] [] tail

  -- a field that has begun, and the start of a record
  goes : (xs : List ℕ) → list_any is_quote (xs ++ (10 ∷ tail)) ≡ false → list_any is_quote (xs ++ (10 ∷ [])) ≡ false
      → ((fields : List (List ℕ)) (field : List ℕ) → Goes st.InField fields field xs) × Goes st.StartRecord [] [] xs
  unfolding read_from
  goes [] all front = (
    λ fields field. record_ends fields field 10 tail refl refl ∙ ap and_more (sym (record_ends fields field 10 [] refl refl)),
    blank_read 10 tail refl ∙ ap and_more (sym (blank_read 10 [] refl)),
  )
  goes (c ∷ rest) all front =
      let more = goes rest (or_parts _ _ all).1 (or_parts _ _ front).1 in
      let field_goes : (fields : List (List ℕ)) (field : List ℕ) → Goes st.InField fields field (c ∷ rest) =
      λ fields field. elim (cases_Bool (c == 44)) [
        | inl comma ↦
            comma_read fields field c (rest ++ (10 ∷ tail)) comma
            ∙ field_starts (fields ++ (field ∷ [])) [] (rest ++ (10 ∷ tail)) (or_parts _ _ all).1
            ∙ more.0 (fields ++ (field ∷ [])) []
            ∙ ap and_more (sym (comma_read fields field c (rest ++ (10 ∷ [])) comma ∙ field_starts (fields ++ (field ∷ [])) [] (rest ++ (10 ∷ [])) (or_parts _ _ front).1))
        | inr other ↦ elim (cases_Bool (ends_line c)) [
          | inl ends ↦
              record_ends fields field c (rest ++ (10 ∷ tail)) ends other
              ∙ ap (λ (rows : List (List (List ℕ))). (fields ++ (field ∷ [])) ∷ rows) more.1
              ∙ ap and_more (sym (record_ends fields field c (rest ++ (10 ∷ [])) ends other))
          | inr on ↦
              byte_read fields field c (rest ++ (10 ∷ tail)) other on
              ∙ more.0 fields (field ++ (c ∷ []))
              ∙ ap and_more (sym (byte_read fields field c (rest ++ (10 ∷ [])) other on))
        ]
      ] in
      let record_goes : Goes st.StartRecord [] [] (c ∷ rest) =
      elim (cases_Bool (ends_line c)) [
        | inl ends ↦ blank_read c (rest ++ (10 ∷ tail)) ends ∙ more.1 ∙ ap and_more (sym (blank_read c (rest ++ (10 ∷ [])) ends))
        | inr on ↦
            record_starts c (rest ++ (10 ∷ tail)) (or_parts _ _ all).0 on
            ∙ field_goes [] []
            ∙ ap and_more (sym (record_starts c (rest ++ (10 ∷ [])) (or_parts _ _ all).0 on))
      ] in
      (field_goes, record_goes)

-- the rows of a text are those up to a line feed, and those after it
pub rows-parts : (text : List ℕ) (at : ℕ) → at < length text → list_any is_quote text ≡ false → get_or text at 0 ≡ 10
    → rows_of text ≡ rows_of (take (at + 1) text) ++ rows_of (drop (at + 1) text)
unfolding rows_of
rows-parts text at within unquoted feed =
    let front = take at text in
    let tail = drop (at + 1) text in
    let whole : front ++ (10 ∷ tail) ≡ text =
    ap (λ (b : ℕ). front ++ (b ∷ tail)) (sym feed) ∙ ap (λ (x : List ℕ). front ++ x) (sym (drop_more text at 0 within)) ∙ take-append-drop at text in
    let start : take (at + 1) text ≡ front ++ (10 ∷ []) = take_more text at 0 within ∙ ap (λ (b : ℕ). front ++ (b ∷ [])) feed in
    let none : list_any is_quote (front ++ (10 ∷ [])) ≡ false = none_front is_quote (at + 1) text _ (sym start) unquoted in
    let parts : records default_config text ≡ records default_config (take (at + 1) text) ++ records default_config tail =
    ap (records default_config) (sym whole) ∙ records-read_from (front ++ (10 ∷ tail))
    ∙ (goes tail front (ap (list_any is_quote) whole ∙ unquoted) none).1
    ∙ ap (λ (rows : List (List (List ℕ))). rows ++ read_from st.StartRecord [] [] tail) (sym (ap (records default_config) start ∙ records-read_from (front ++ (10 ∷ []))))
    ∙ ap (λ (rows : List (List (List ℕ))). records default_config (take (at + 1) text) ++ rows) (sym (records-read_from tail)) in
    ap (map without_trailing_empty) parts ∙ map-append without_trailing_empty (records default_config (take (at + 1) text)) (records default_config tail)
