-- Line ends, byte by byte: those of a text are those of its parts, if the second part doesn't begin with a line feed.
-- What is taken off the start of a text is line ends alone.
use Rattle.std.proofs.Common.{◌≡◌, ℕ, ◌+◌, ◌<◌, ◌≤◌, List, [], ◌∷◌, ◌++◌, length, take, drop, get_or, true, false, ◌==◌, refl, sym, ◌∙◌, inl, inr, arith}
use Rattle.std.specs.List.{list_any}
use Rattle.std.proofs.lemmas.Bool.{cases_Bool, or_parts}
use Rattle.std.proofs.lemmas.List.{drop_more, take-append-drop}
use Rattle.mt_lists.specs.Lines.{ends_line}
use Rattle.mt_lists.proofs.LineFacts.{none_before}
use Rattle.mt_line_numbers.specs.LineEnds.{FirstLine, begins_with_feed, begins_with_line_end, closes_line, line_ends, without_line_ends}

-- the first byte of a text is the last of a line end, or isn't
pub ends-closed : (c : ℕ) (rest : List ℕ) → closes_line c rest ≡ true → line_ends (c ∷ rest) ≡ line_ends rest + 1
unfolding line_ends
ends-closed c rest closed = rw closed (omega arith)

pub ends-open : (c : ℕ) (rest : List ℕ) → closes_line c rest ≡ false → line_ends (c ∷ rest) ≡ line_ends rest
unfolding line_ends
ends-open c rest goes = rw goes (omega arith)

-- a text has no more line ends than bytes
pub ends-within : (text : List ℕ) → line_ends text ≤ length text
unfolding line_ends
ends-within [] = omega arith
ends-within (c ∷ rest) =
    elim (cases_Bool (closes_line c rest)) [
      | inl closed ↦ omega (arith, ends-closed c rest closed, ends-within rest)
      | inr goes ↦ omega (arith, ends-open c rest goes, ends-within rest)
    ]

-- a byte that ends no line closes none
not_closing : (c : ℕ) (rest : List ℕ) → ends_line c ≡ false → closes_line c rest ≡ false
not_closing c rest goes =
    let feed : (c == 10) ≡ false = (or_parts _ _ goes).0 in
    let return : (c == 13) ≡ false = (or_parts _ _ goes).1 in
    rw (feed, return) refl

-- a line has no line end
pub ends-line : (line rest : List ℕ) → list_any ends_line line ≡ false → line_ends (line ++ rest) ≡ line_ends rest
ends-line [] rest one = refl
ends-line (c ∷ line) rest one =
    ends-open c (line ++ rest) (not_closing c (line ++ rest) (or_parts _ _ one).0) ∙ ends-line line rest (or_parts _ _ one).1

-- a text that begins with no line end doesn't begin with a line feed
no_feed : (text : List ℕ) → begins_with_line_end text ≡ false → begins_with_feed text ≡ false
no_feed [] plain = refl
no_feed (c ∷ rest) plain = (or_parts _ _ plain).0

-- so what comes before it closes the lines that it closes alone
closes-alone : (c : ℕ) (front rest : List ℕ) → begins_with_line_end rest ≡ false → closes_line c (front ++ rest) ≡ closes_line c front
closes-alone c [] rest plain = rw (no_feed rest plain) refl
closes-alone c (d ∷ front) rest plain = refl

-- and the line ends of both add up
pub ends-append : (front rest : List ℕ) → begins_with_line_end rest ≡ false → line_ends (front ++ rest) ≡ line_ends front + line_ends rest
unfolding line_ends
ends-append [] rest plain = omega arith
ends-append (c ∷ front) rest plain =
    elim (cases_Bool (closes_line c front)) [
      | inl closed ↦
          omega (arith, ends-closed c (front ++ rest) (closes-alone c front rest plain ∙ closed), ends-closed c front closed, ends-append front rest plain)
      | inr goes ↦
          omega (arith, ends-open c (front ++ rest) (closes-alone c front rest plain ∙ goes), ends-open c front goes, ends-append front rest plain)
    ]

-- the first byte of a text is taken off, or isn't
pub without-end : (c : ℕ) (rest : List ℕ) → ends_line c ≡ true → without_line_ends (c ∷ rest) ≡ without_line_ends rest
unfolding without_line_ends
without-end c rest ends = rw ends refl

pub without-none : (text : List ℕ) → begins_with_line_end text ≡ false → without_line_ends text ≡ text
unfolding without_line_ends
without-none [] plain = refl
without-none (c ∷ rest) plain = rw plain refl

pub without-nothing : without_line_ends [] ≡ []
unfolding without_line_ends
without-nothing = refl

-- no line end is left at the start
pub without-plain : (text : List ℕ) → begins_with_line_end (without_line_ends text) ≡ false
unfolding without_line_ends
without-plain [] = refl
without-plain (c ∷ rest) =
    elim (cases_Bool (ends_line c)) [
      | inl ends ↦ rw ends (without-plain rest)
      | inr goes ↦ rw goes goes
    ]

-- a text of no length has no byte
pub no_byte : (text : List ℕ) → length text ≡ 0 → text ≡ []
no_byte [] none = refl
no_byte (c ∷ rest) none = absurd (omega (arith, none))

-- the first line of a text, up to the first byte that ends one
pub first_split : (text : List ℕ) (at : ℕ) → at < length text → ((k : ℕ) → k < at → ends_line (get_or text k 0) ≡ true → ⊥) → ends_line (get_or text at 0) ≡ true
    → FirstLine text (take at text) (drop at text)
first_split text at within before ends =
    record {
      whole = sym (take-append-drop at text);
      one = none_before ends_line text at before;
      ends = inr (rw (drop_more text at 0 within) ends);
    }

-- a text that is one line
pub last_split : (text : List ℕ) → ((k : ℕ) → k < length text → ends_line (get_or text k 0) ≡ true → ⊥) → FirstLine text (take (length text) text) (drop (length text) text)
last_split text before =
    record {
      whole = sym (take-append-drop (length text) text);
      one = none_before ends_line text (length text) before;
      ends = inl (drop-length text);
    }
  where
    drop-length : (xs : List ℕ) → drop (length xs) xs ≡ []
    drop-length [] = refl
    drop-length (x ∷ xs) = drop-length xs
