-- A text of lines, whose fields have the bytes of ids alone, is read as the rows of these fields. A line is read at a
-- time: it has no quote, the first byte that ends it is its line feed, and it is cut at its commas.
use Rattle.std.proofs.Common.{◌≡◌, ℕ, zero, suc, ◌+◌, ◌-◌, ◌<◌, List, [], ◌∷◌, ◌++◌, length, take, drop, get_or, Bool, true, false, ◌==◌, ◌&&◌, nat_lt, refl, sym, ap, ◌∙◌, append_assoc, arith, append-nil, length-append}
use Rattle.std.specs.Prelude.{flat_map}
use Rattle.std.specs.List.{join_with_byte, list_all, list_any}
use Rattle.std.proofs.lemmas.Bool.{and_parts, or_parts, both_ways}
use Rattle.std.proofs.lemmas.Bool.Decides.{nat_tests}
use Rattle.std.proofs.lemmas.List.Folds.{list_any-append}
use Rattle.mt_lists.specs.Lines.{NextLine, ends_line, fields_of_line, is_quote, split_from}
use Rattle.mt_lists.specs.Records.{is_empty_field, rows_of, without_trailing_empty}
use Rattle.mt_lists.proofs.LineFacts.{first_line, rows-line, rows-nothing}
use Rattle.mt_lists.proofs.RowFacts.{kept_are}
use Rattle.mt_terms.specs.Registration.Ids.{Bytes, is_id_byte}
use Rattle.mt_terms.specs.Text.{line}

-- a field with a byte, and with bytes of ids alone
abbrev pub is_plain : Bytes → Bool
is_plain field = nat_lt 0 (length field) && list_all is_id_byte field

-- fields of which there is one or more, all of them such
abbrev pub is_plain_row : List Bytes → Bool
is_plain_row fields = nat_lt 0 (length fields) && list_all is_plain fields

-- a byte of an id is no other byte
byte_is : (c d : ℕ) → is_id_byte c ≡ true → is_id_byte d ≡ false → (c == d) ≡ false
byte_is c d h k = by (c == d) refl
  where
    by : (b : Bool) → (c == d) ≡ b → b ≡ false
    by true e = let same : c ≡ d = grind (arith, nat_tests) in absurd (both_ways _ (ap is_id_byte same ∙ k) h)
    by false e = refl

no_quote : (bytes : List ℕ) → list_all is_id_byte bytes ≡ true → list_any is_quote bytes ≡ false
no_quote [] h = refl
no_quote (c ∷ rest) h =
    let parts = and_parts (is_id_byte c) (list_all is_id_byte rest) h in
    rw (byte_is c 34 parts.0 refl) (no_quote rest parts.1)

no_end : (bytes : List ℕ) → list_all is_id_byte bytes ≡ true → list_any ends_line bytes ≡ false
no_end [] h = refl
no_end (c ∷ rest) h =
    let parts = and_parts (is_id_byte c) (list_all is_id_byte rest) h in
    rw (byte_is c 10 parts.0 refl, byte_is c 13 parts.0 refl) (no_end rest parts.1)

-- a field at the end of a line, and one before a comma
split-last : (at_hand bytes : List ℕ) → list_all is_id_byte bytes ≡ true → split_from at_hand bytes ≡ (at_hand ++ bytes) ∷ []
unfolding split_from
split-last at_hand [] h = rw (append-nil at_hand) refl
split-last at_hand (c ∷ rest) h =
    let parts = and_parts (is_id_byte c) (list_all is_id_byte rest) h in
    rw (byte_is c 44 parts.0 refl) (split-last (at_hand ++ c ∷ []) rest parts.1 ∙ ap (λ (x : List ℕ). x ∷ []) (append_assoc at_hand (c ∷ []) rest))

split-comma : (at_hand bytes after : List ℕ) → list_all is_id_byte bytes ≡ true → split_from at_hand (bytes ++ 44 ∷ after) ≡ (at_hand ++ bytes) ∷ split_from [] after
unfolding split_from
split-comma at_hand [] after h = rw (append-nil at_hand) refl
split-comma at_hand (c ∷ rest) after h =
    let parts = and_parts (is_id_byte c) (list_all is_id_byte rest) h in
    rw (byte_is c 44 parts.0 refl) (split-comma (at_hand ++ c ∷ []) rest after parts.1 ∙ ap (λ (x : List ℕ). x ∷ split_from [] after) (append_assoc at_hand (c ∷ []) rest))

-- joined fields are cut at their commas
fields_of_joined : (f : Bytes) (fields : List Bytes) → list_all is_plain (f ∷ fields) ≡ true → fields_of_line (join_with_byte 44 (f ∷ fields)) ≡ f ∷ fields
fields_of_joined f [] h =
    let parts = and_parts (is_plain f) true h in
    split-last [] f (and_parts (nat_lt 0 (length f)) _ parts.0).1
fields_of_joined f (g ∷ fields) h =
    let parts = and_parts (is_plain f) (list_all is_plain (g ∷ fields)) h in
    split-comma [] f (join_with_byte 44 (g ∷ fields)) (and_parts (nat_lt 0 (length f)) _ parts.0).1 ∙ ap (λ (fs : List Bytes). f ∷ fs) (fields_of_joined g fields parts.1)

-- they have a byte, no quote and nothing that ends a line
joined_none : (p : ℕ → Bool) → p 44 ≡ false → ((bytes : List ℕ) → list_all is_id_byte bytes ≡ true → list_any p bytes ≡ false)
    → (fields : List Bytes) → list_all is_plain fields ≡ true → list_any p (join_with_byte 44 fields) ≡ false
joined_none p comma none [] h = refl
joined_none p comma none (f ∷ []) h = none f (and_parts (nat_lt 0 (length f)) _ (and_parts (is_plain f) true h).0).1
joined_none p comma none (f ∷ g ∷ fields) h =
    let parts = and_parts (is_plain f) (list_all is_plain (g ∷ fields)) h in
    rw (list_any-append p f (44 ∷ join_with_byte 44 (g ∷ fields)), none f (and_parts (nat_lt 0 (length f)) _ parts.0).1, comma) (joined_none p comma none (g ∷ fields) parts.1)

not_none : (n : ℕ) → (suc n == 0) ≡ false
not_none n = grind (arith, nat_tests)

joined_some : (f : Bytes) (fields : List Bytes) → list_all is_plain (f ∷ fields) ≡ true → (length (join_with_byte 44 (f ∷ fields)) == 0) ≡ false
joined_some [] fields h = cc
joined_some (c ∷ f) [] h = not_none (length f)
joined_some (c ∷ f) (g ∷ fields) h = not_none (length (f ++ 44 ∷ join_with_byte 44 (g ∷ fields)))

-- no field is empty, so all stay
none_empty : (fields : List Bytes) (k : ℕ) → list_all is_plain fields ≡ true → k < length fields → is_empty_field (get_or fields k []) ≡ false
none_empty [] k h lt = absurd (omega arith)
none_empty ([] ∷ fields) zero h lt = cc
none_empty ((c ∷ f) ∷ fields) zero h lt = not_none (length f)
none_empty (f ∷ fields) (suc k) h lt = none_empty fields k (and_parts (is_plain f) _ h).1 (omega arith)

all_stay : (fields : List Bytes) → list_all is_plain fields ≡ true → without_trailing_empty fields ≡ fields
all_stay fields h =
    sym (kept_are fields (length fields) (omega arith) (λ k low high. absurd (omega arith)) (λ some. none_empty fields (length fields - 1) h (omega arith)))
    ∙ take_whole fields
  where
    take_whole : (xs : List Bytes) → take (length xs) xs ≡ xs
    take_whole [] = refl
    take_whole (x ∷ xs) = ap (λ (ys : List Bytes). x ∷ ys) (take_whole xs)

-- what stands before and after a byte of a text
before_it : (xs ys : List ℕ) (c : ℕ) → take (length xs) (xs ++ c ∷ ys) ≡ xs
before_it [] ys c = refl
before_it (x ∷ xs) ys c = ap (λ (zs : List ℕ). x ∷ zs) (before_it xs ys c)

after_it : (xs ys : List ℕ) (c : ℕ) → drop (length xs + 1) (xs ++ c ∷ ys) ≡ ys
after_it [] ys c = refl
after_it (x ∷ xs) ys c = let one_more : suc (length xs) + 1 ≡ suc (length xs + 1) = omega arith in rw one_more (after_it xs ys c)

at_it : (xs ys : List ℕ) (c : ℕ) → get_or (xs ++ c ∷ ys) (length xs) 0 ≡ c
at_it [] ys c = refl
at_it (x ∷ xs) ys c = at_it xs ys c

none_earlier : (p : ℕ → Bool) (xs ys : List ℕ) (k : ℕ) → list_any p xs ≡ false → k < length xs → p (get_or (xs ++ ys) k 0) ≡ true → ⊥
none_earlier p [] ys k h lt is = omega arith
none_earlier p (x ∷ xs) ys zero h lt is = both_ways _ (or_parts (p x) _ h).0 is
none_earlier p (x ∷ xs) ys (suc k) h lt is = none_earlier p xs ys k (or_parts (p x) _ h).1 (omega arith) is

next_line : (front rest : List ℕ) → list_any is_quote (front ++ 10 ∷ rest) ≡ false → list_any ends_line front ≡ false → NextLine (front ++ 10 ∷ rest) front rest
next_line front rest unquoted one =
    let within : length front < length (front ++ 10 ∷ rest) = omega (arith, length-append front (10 ∷ rest)) in
    let next = first_line (front ++ 10 ∷ rest) (length front) within unquoted (λ k lt. none_earlier ends_line front (10 ∷ rest) k one lt) (rw (at_it front rest 10) refl) in
    rw (before_it front rest 10, after_it front rest 10) at next

-- the text of rows
abbrev pub text_of : List (List Bytes) → List ℕ
text_of rows = flat_map line rows

unquoted_text : (rows : List (List Bytes)) → list_all is_plain_row rows ≡ true → list_any is_quote (text_of rows) ≡ false
unquoted_text [] h = refl
unquoted_text (fields ∷ rows) h =
    let parts = and_parts (is_plain_row fields) (list_all is_plain_row rows) h in
    let plain = (and_parts (nat_lt 0 (length fields)) (list_all is_plain fields) parts.0).1 in
    rw (list_any-append is_quote (line fields) (text_of rows), list_any-append is_quote (join_with_byte 44 fields) (10 ∷ []), joined_none is_quote refl no_quote fields plain) (unquoted_text rows parts.1)

pub rows_of_text : (rows : List (List Bytes)) → list_all is_plain_row rows ≡ true → rows_of (text_of rows) ≡ rows
rows_of_text [] h = rows-nothing [] refl
rows_of_text ([] ∷ rows) h = cc
rows_of_text ((f ∷ fields) ∷ rows) h =
    let parts = and_parts (is_plain_row (f ∷ fields)) (list_all is_plain_row rows) h in
    let plain : list_all is_plain (f ∷ fields) ≡ true = (and_parts (nat_lt 0 (length (f ∷ fields))) (list_all is_plain (f ∷ fields)) parts.0).1 in
    let joined : List ℕ = join_with_byte 44 (f ∷ fields) in
    let whole : text_of ((f ∷ fields) ∷ rows) ≡ joined ++ 10 ∷ text_of rows = append_assoc joined (10 ∷ []) (text_of rows) in
    let unquoted : list_any is_quote (joined ++ 10 ∷ text_of rows) ≡ false = sym (ap (list_any is_quote) whole) ∙ unquoted_text ((f ∷ fields) ∷ rows) h in
    let next = next_line joined (text_of rows) unquoted (joined_none ends_line refl no_end (f ∷ fields) plain) in
    ap rows_of whole
    ∙ rows-line (joined ++ 10 ∷ text_of rows) joined (text_of rows) next (joined_some f fields plain)
    ∙ ap (λ (fs : List Bytes). without_trailing_empty fs ∷ rows_of (text_of rows)) (fields_of_joined f fields plain)
    ∙ ap (λ (fs : List Bytes). fs ∷ rows_of (text_of rows)) (all_stay (f ∷ fields) plain)
    ∙ ap (λ (rs : List (List Bytes)). (f ∷ fields) ∷ rs) (rows_of_text rows parts.1)
