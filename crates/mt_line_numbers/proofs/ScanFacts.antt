-- What csv leaves of a text after a record, byte by byte, and the same for a first line with no quote in it.
-- A record that begins with no line end is read as the first field of a record is.
use Rattle.std.proofs.Common.{◌≡◌, ◌⊎◌, ℕ, List, [], ◌∷◌, ◌++◌, Bool, true, false, ◌==◌, if◌then◌else◌, refl, sym, ap, ◌∙◌, inl, inr, arith}
use Rattle.std.specs.List.{list_any}
use Rattle.std.proofs.lemmas.Bool.{cases_Bool, or_parts}
use Rattle.std.proofs.lemmas.Bool.Decides.{nat_tests}
use Rattle.csv.specs.declared.parser.State.{State}
use Rattle.csv.specs.declared.parser.State.TheVariants as st
use Rattle.csv.specs.Machine.{ends_at_end, field_after, fields_after, is_end, next_record, step}
use Rattle.csv.specs.Reading.{default_config}
use Rattle.mt_lists.proofs.LineFacts.{not_comma}
use Rattle.mt_lists.specs.Lines.{ends_line, is_quote}
use Rattle.mt_line_numbers.specs.LineEnds.{FirstLine, begins_with_line_end, without_line_ends}
use Rattle.mt_line_numbers.specs.Records.{after_record, left_by}
use Rattle.mt_line_numbers.proofs.EndFacts.{without-end}

-- what is left of a text after the record that csv reads from a state on
unfoldable pub left_from : State → List ℕ → List ℕ
left_from s [] = []
left_from s (c ∷ rest) = if is_end (step default_config s c).1 then rest else left_from (step default_config s c).0 rest

pub left_from-nothing : (s : State) → left_from s [] ≡ []
unfolding left_from
left_from-nothing s = refl

-- a byte that ends the record, and one that doesn't
pub left_from-end : (s : State) (c : ℕ) (rest : List ℕ) → is_end (step default_config s c).1 ≡ true → left_from s (c ∷ rest) ≡ rest
unfolding left_from
left_from-end s c rest ends = rw ends refl

pub left_from-more : (s next : State) (c : ℕ) (rest : List ℕ) → is_end (step default_config s c).1 ≡ false → (step default_config s c).0 ≡ next → left_from s (c ∷ rest) ≡ left_from next rest
unfolding left_from
left_from-more s next c rest goes e = rw (goes, e) refl

-- that is what a read leaves, with any fields before
left_by-from : (s : State) (fields : List (List ℕ)) (field text : List ℕ) → left_by (next_record default_config s fields field text) ≡ left_from s text
unfolding next_record left_from
left_by-from s fields field [] =
    elim (cases_Bool (ends_at_end s)) [
      | inl ends ↦ rw ends refl
      | inr goes ↦ rw goes refl
    ]
left_by-from s fields field (c ∷ rest) =
    elim (cases_Bool (is_end (step default_config s c).1)) [
      | inl ends ↦ rw ends refl
      | inr goes ↦
          rw goes (left_by-from (step default_config s c).0 (fields_after (step default_config s c).1 fields field) (field_after (step default_config s c).1 c field) rest)
    ]

-- a record that begins with no line end begins with a field
pub left_from-start : (text : List ℕ) → begins_with_line_end text ≡ false → after_record text ≡ left_from st.StartField text
unfolding left_from
left_from-start [] plain = left_by-from st.StartRecord [] [] []
left_from-start (c ∷ rest) plain =
    let feed : (c == 10) ≡ false = (or_parts _ _ plain).0 in
    let return : (c == 13) ≡ false = (or_parts _ _ plain).1 in
    left_by-from st.StartRecord [] [] (c ∷ rest) ∙ rw (feed, return) refl

-- a field that doesn't begin with a quote is read as its middle is
abbrev begins_with_quote : List ℕ → Bool
begins_with_quote [] = false
begins_with_quote (c ∷ rest) = is_quote c

field_starts : (text : List ℕ) → begins_with_quote text ≡ false → left_from st.StartField text ≡ left_from st.InField text
unfolding left_from
field_starts [] plain = refl
field_starts (c ∷ rest) plain = rw plain refl

-- a line end is no quote and no comma
not_quote : (c : ℕ) → ends_line c ≡ true → is_quote c ≡ false
not_quote c ends = grind (arith, nat_tests, ends)

-- a line with no quote, and then a line end, don't begin with a quote
no_quote : (line rest : List ℕ) → list_any is_quote line ≡ false → (rest ≡ []) ⊎ (begins_with_line_end rest ≡ true) → begins_with_quote (line ++ rest) ≡ false
no_quote (c ∷ line) rest unquoted ends = (or_parts _ _ unquoted).0
no_quote [] [] unquoted ends = refl
no_quote [] (c ∷ rest) unquoted (inl none) = absurd (cc none)
no_quote [] (c ∷ rest) unquoted (inr end) = not_quote c end

-- a line end ends the record
end_read : (c : ℕ) → ends_line c ≡ true → is_end (step default_config st.InField c).1 ≡ true
end_read c ends =
    let other = not_comma c ends in
    elim (cases_Bool (c == 13)) [
      | inl return ↦ rw (other, return) refl
      | inr differs ↦ elim (cases_Bool (c == 10)) [
        | inl feed ↦ rw (other, differs, feed) refl
        | inr none ↦ absurd (cc (rw (none, differs) at ends))
      ]
    ]

-- what follows a line with no quote is what the record leaves, but for line ends
line_left : (line rest : List ℕ) → list_any is_quote line ≡ false → list_any ends_line line ≡ false → (rest ≡ []) ⊎ (begins_with_line_end rest ≡ true)
    → without_line_ends (left_from st.InField (line ++ rest)) ≡ without_line_ends rest
line_left [] [] unquoted one ends = ap without_line_ends (left_from-nothing st.InField)
line_left [] (c ∷ rest) unquoted one (inl none) = absurd (cc none)
line_left [] (c ∷ rest) unquoted one (inr end) =
    ap without_line_ends (left_from-end st.InField c rest (end_read c end)) ∙ sym (without-end c rest end)
line_left (c ∷ line) rest unquoted one ends =
    let feed : (c == 10) ≡ false = (or_parts _ _ (or_parts _ _ one).0).0 in
    let return : (c == 13) ≡ false = (or_parts _ _ (or_parts _ _ one).0).1 in
    let more = line_left line rest (or_parts _ _ unquoted).1 (or_parts _ _ one).1 ends in
    elim (cases_Bool (c == 44)) [
      | inl comma ↦
          let next : left_from st.InField (c ∷ (line ++ rest)) ≡ left_from st.StartField (line ++ rest) = left_from-more st.InField st.StartField c (line ++ rest) (rw comma refl) (rw comma refl) in
          ap without_line_ends (next ∙ field_starts (line ++ rest) (no_quote line rest (or_parts _ _ unquoted).1 ends)) ∙ more
      | inr other ↦
          let next : left_from st.InField (c ∷ (line ++ rest)) ≡ left_from st.InField (line ++ rest) = left_from-more st.InField st.InField c (line ++ rest) (rw (other, feed, return) refl) (rw (other, feed, return) refl) in
          ap without_line_ends next ∙ more
    ]

-- so the next record begins after the first line of a text, if it has no quote
pub after-line : (text line rest : List ℕ) → FirstLine text line rest → begins_with_line_end text ≡ false → list_any is_quote line ≡ false
    → without_line_ends rest ≡ without_line_ends (after_record text)
after-line text line rest first plain unquoted =
    let start = left_from-start text plain ∙ rw first.whole (field_starts (line ++ rest) (no_quote line rest unquoted first.ends)) in
    sym (ap without_line_ends start ∙ line_left line rest unquoted first.one first.ends)
