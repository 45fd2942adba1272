-- Where the record after the first n of a text begins, by one record of it after the other: each record that csv reads from a
-- text it reads from the front of the text alone, whatever follows.
use Rattle.std.proofs.Common.{◌≡◌, ℕ, zero, suc, ◌+◌, ◌-◌, ◌≤◌, List, [], ◌∷◌, ◌++◌, length, take, drop, Option, Some, None, true, false, ◌==◌, refl, sym, ap, ◌∙◌, inl, inr, append_assoc, arith}
use Rattle.std.proofs.Math.Seq.{take-append_seam}
use Rattle.std.proofs.lemmas.Bool.{cases_Bool}
use Rattle.std.proofs.lemmas.Bool.Decides.{nat_tests}
use Rattle.std.proofs.lemmas.List.{append-nil, length-append}
use Rattle.csv.specs.declared.parser.State.{State}
use Rattle.csv.specs.declared.parser.State.TheVariants as st
use Rattle.csv.specs.Machine.{Read, ends_at_end, field_after, fields_after, is_end, next_record, step}
use Rattle.csv.specs.Reading.{default_config, records, records_from}
use Rattle.mt_lists.specs.Lines.{ends_line}
use Rattle.mt_lists.proofs.CsvFacts.{next-shorter, records_left, records_left-none, records_left-some}
use Rattle.mt_line_numbers.specs.LineEnds.{begins_with_line_end, without_line_ends}
use Rattle.mt_line_numbers.specs.Laws.{SplitsAtRecord}
use Rattle.mt_line_numbers.specs.Records.{after_record, after_records, first_records}
use Rattle.mt_line_numbers.proofs.EndFacts.{without-nothing, without-plain}
use Rattle.mt_line_numbers.proofs.ScanFacts.{left_from-nothing, left_from-start}

-- if no record has begun, csv reads as from the start
idle_reads : (s : State) (text : List ℕ) → ends_at_end s ≡ false → next_record default_config s [] [] text ≡ next_record default_config st.StartRecord [] [] text
unfolding next_record
idle_reads st.StartRecord text idle = refl
idle_reads st.AfterCr [] idle = refl
idle_reads st.AfterCr (c ∷ rest) idle =
    elim (cases_Bool (c == 10)) [
      | inl feed ↦ elim (cases_Bool (c == 13)) [
        | inl return ↦ rw (feed, return) refl
        | inr other ↦ rw (feed, other) refl
      ]
      | inr other ↦ rw other refl
    ]
idle_reads st.StartField text idle = cc idle
idle_reads st.InField text idle = cc idle
idle_reads st.InQuoted text idle = cc idle
idle_reads st.AfterQuote text idle = cc idle
idle_reads st.InEscape text idle = cc idle
idle_reads st.InComment text idle = cc idle

idle_left : (s : State) (text : List ℕ) → ends_at_end s ≡ false → records_left s text ≡ records default_config text
unfolding records_from
idle_left s text idle =
    let more : length text + 1 ≡ suc (length text) = omega arith in
    rw (more, idle_reads s text idle) refl

-- the records of a text that has one, and of a text that has none
records-some : (text : List ℕ) (p : Read) → next_record default_config st.StartRecord [] [] text ≡ Some p → records default_config text ≡ p.0 ∷ records default_config p.2
records-some text p e =
    records_left-some st.StartRecord text p refl e
    ∙ ap (λ (rows : List (List (List ℕ))). p.0 ∷ rows) (idle_left p.1 p.2 (next-shorter default_config st.StartRecord text p refl e).1)

records-none : (text : List ℕ) → next_record default_config st.StartRecord [] [] text ≡ None → records default_config text ≡ []
records-none text e = records_left-none st.StartRecord text e

records-nothing : records default_config [] ≡ []
unfolding next_record
records-nothing = records-none [] refl

-- a line end before a text changes no record of it
end_read : (c : ℕ) (rest : List ℕ) → ends_line c ≡ true → next_record default_config st.StartRecord [] [] (c ∷ rest) ≡ next_record default_config st.StartRecord [] [] rest
unfolding next_record
end_read c rest ends =
    elim (cases_Bool (c == 13)) [
      | inl return ↦ rw return refl
      | inr other ↦ elim (cases_Bool (c == 10)) [
        | inl feed ↦ rw (other, feed) refl
        | inr none ↦ absurd (cc (rw (none, other) at ends))
      ]
    ]

next-records : (text other : List ℕ) → next_record default_config st.StartRecord [] [] text ≡ next_record default_config st.StartRecord [] [] other → records default_config text ≡ records default_config other
next-records text other e = by_read (next_record default_config st.StartRecord [] [] other) refl
  where
    by_read : (o : Option Read) → next_record default_config st.StartRecord [] [] other ≡ o → records default_config text ≡ records default_config other
    by_read None f = records-none text (e ∙ f) ∙ sym (records-none other f)
    by_read (Some p) f = records-some text p (e ∙ f) ∙ sym (records-some other p f)

-- the line ends at the start of a text, and then any text: the records of that
record Front (text : List ℕ) : Type 0 where
  front : List ℕ
  whole : text ≡ front ++ without_line_ends text
  blank : (others : List ℕ) → records default_config (front ++ others) ≡ records default_config others

blank_front : (text : List ℕ) → Front text
unfolding without_line_ends
blank_front [] = record { front = []; whole = refl; blank = λ others. refl }
blank_front (c ∷ rest) =
    elim (cases_Bool (ends_line c)) [
      | inl ends ↦
          let more = blank_front rest in
          record {
            front = c ∷ more.front;
            whole = rw ends (ap (λ (xs : List ℕ). c ∷ xs) more.whole);
            blank = λ others. next-records (c ∷ (more.front ++ others)) (more.front ++ others) (end_read c (more.front ++ others) ends) ∙ more.blank others;
          }
      | inr goes ↦ record { front = []; whole = rw goes refl; blank = λ others. refl }
    ]

-- the bytes of a record that was read, with the line end after it: csv reads the record from them, whatever part of the rest
-- follows them
record OneRecord (s : State) (fields : List (List ℕ)) (field text : List ℕ) (p : Read) : Type 0 where
  front : List ℕ
  whole : text ≡ front ++ p.2
  again : (some others : List ℕ) → p.2 ≡ some ++ others → next_record default_config s fields field (front ++ some) ≡ Some (p.0, p.1, some)

first_of_nothing : (some others : List ℕ) → [] ≡ some ++ others → some ≡ []
first_of_nothing [] others e = refl
first_of_nothing (c ∷ some) others e = cc e

one_record : (s : State) (fields : List (List ℕ)) (field text : List ℕ) (p : Read) → next_record default_config s fields field text ≡ Some p → OneRecord s fields field text p
unfolding next_record
one_record s fields field [] p e =
    elim (cases_Bool (ends_at_end s)) [
      | inl ends ↦
          let q : ◌≡◌ {A = Read} (fields ++ (field ∷ []), st.StartRecord, []) p = cc (rw ends at e) in
          rw (← q) (record {
            front = [];
            whole = refl;
            again = λ some others f. rw (first_of_nothing some others f, ends) refl;
          })
      | inr goes ↦ absurd (cc (rw goes at e))
    ]
one_record s fields field (c ∷ rest) p e =
    elim (cases_Bool (is_end (step default_config s c).1)) [
      | inl ends ↦
          let q : ◌≡◌ {A = Read} (fields_after (step default_config s c).1 fields field, (step default_config s c).0, rest) p = cc (rw ends at e) in
          rw (← q) (record { front = c ∷ []; whole = refl; again = λ some others f. rw ends refl })
      | inr goes ↦
          let more = one_record (step default_config s c).0 (fields_after (step default_config s c).1 fields field) (field_after (step default_config s c).1 c field) rest p (rw goes at e) in
          record {
            front = c ∷ more.front;
            whole = ap (λ (xs : List ℕ). c ∷ xs) more.whole;
            again = λ some others f. rw goes (more.again some others f);
          }
    ]

-- the place after the first n records, by the first record first
after_records-shift : (n : ℕ) (text : List ℕ) → after_records (suc n) text ≡ after_records n (after_record (without_line_ends text))
unfolding after_records
after_records-shift zero text = refl
after_records-shift (suc n) text = ap (λ (xs : List ℕ). without_line_ends (after_record xs)) (after_records-shift n text)

after-nothing : after_record [] ≡ []
after-nothing = left_from-start [] refl ∙ left_from-nothing st.StartField

pub after_records-nothing : (n : ℕ) → after_records n [] ≡ []
unfolding after_records
after_records-nothing zero = without-nothing
after_records-nothing (suc n) = ap (λ (xs : List ℕ). without_line_ends (after_record xs)) (after_records-nothing n) ∙ ap without_line_ends after-nothing ∙ without-nothing

-- after the last record comes nothing
pub after_records-end : (n more : ℕ) (text : List ℕ) → after_records n text ≡ [] → n ≤ more → after_records more text ≡ []
unfolding after_records
after_records-end n zero text none le = let e : n ≡ 0 = omega arith in rw e at none
after_records-end n (suc more) text none le =
    elim (cases_Bool (n == suc more)) [
      | inl last ↦ let e : n ≡ suc more = grind (arith, nat_tests, last) in rw e at none
      | inr before ↦
          let within : n ≤ more = grind (arith, nat_tests, before, le) in
          ap (λ (xs : List ℕ). without_line_ends (after_record xs)) (after_records-end n more text none within) ∙ ap without_line_ends after-nothing ∙ without-nothing
    ]

-- a text splits at a record
record Split (n : ℕ) (text : List ℕ) : Type 0 where
  front : List ℕ
  whole : text ≡ front ++ after_records n text
  before : records default_config front ≡ take n (records default_config text)
  after : records default_config (after_records n text) ≡ drop n (records default_config text)

split_none : (n : ℕ) (text : List ℕ) → records default_config text ≡ [] → after_records n text ≡ [] → records default_config [] ≡ [] → Split n text
split_none n text none end nothing =
    record {
      front = text;
      whole = rw end (sym (append-nil text));
      before = rw none (take-nothing n);
      after = rw (end, nothing, none) (drop-nothing n);
    }
  where
    take-nothing : (n : ℕ) → ◌≡◌ {A = List (List (List ℕ))} [] (take n [])
    take-nothing zero = refl
    take-nothing (suc n) = refl

    drop-nothing : (n : ℕ) → ◌≡◌ {A = List (List (List ℕ))} [] (drop n [])
    drop-nothing zero = refl
    drop-nothing (suc n) = refl

-- a text that splits, by its first record
split_blank : (text : List ℕ) → Split zero text
unfolding after_records
split_blank text =
    let at = blank_front text in
    record {
      front = at.front;
      whole = at.whole;
      before = ap (records default_config) (sym (append-nil at.front)) ∙ at.blank [] ∙ records-nothing;
      after = sym (at.blank (without_line_ends text)) ∙ ap (records default_config) (sym at.whole);
    }

-- the records of a text are those after the line ends at its start
blank_records : (text : List ℕ) → records default_config text ≡ records default_config (without_line_ends text)
blank_records text = let at = blank_front text in ap (records default_config) at.whole ∙ at.blank (without_line_ends text)

split_more : (n : ℕ) (text : List ℕ) (p : Read) → next_record default_config st.StartRecord [] [] (without_line_ends text) ≡ Some p → Split n p.2 → Split (suc n) text
split_more n text p e more =
    let at = blank_front text in
    let one = one_record st.StartRecord [] [] (without_line_ends text) p e in
    let left : after_record (without_line_ends text) ≡ p.2 = rw e refl in
    let end : after_records (suc n) text ≡ after_records n p.2 = after_records-shift n text ∙ ap (after_records n) left in
    let all : records default_config text ≡ p.0 ∷ records default_config p.2 = blank_records text ∙ records-some (without_line_ends text) p e in
    let again = one.again more.front (after_records n p.2) more.whole in
    let read : records default_config (one.front ++ more.front) ≡ p.0 ∷ records default_config more.front = records-some (one.front ++ more.front) (p.0, p.1, more.front) again in
    let parts : text ≡ at.front ++ (one.front ++ (more.front ++ after_records n p.2)) =
    at.whole ∙ ap (λ (xs : List ℕ). at.front ++ xs) (one.whole ∙ ap (λ (xs : List ℕ). one.front ++ xs) more.whole) in
    record {
      front = at.front ++ (one.front ++ more.front);
      whole = parts ∙ rw (end, append_assoc at.front (one.front ++ more.front) (after_records n p.2), append_assoc one.front more.front (after_records n p.2)) refl;
      before = at.blank (one.front ++ more.front) ∙ read ∙ ap (λ (rows : List (List (List ℕ))). p.0 ∷ rows) more.before ∙ sym (ap (take (suc n)) all);
      after = ap (records default_config) end ∙ more.after ∙ sym (ap (drop (suc n)) all);
    }

split : (n : ℕ) (text : List ℕ) → Split n text
split zero text = split_blank text
split (suc n) text = by_read (next_record default_config st.StartRecord [] [] (without_line_ends text)) refl (split n)
  where
    by_read : (o : Option Read) → next_record default_config st.StartRecord [] [] (without_line_ends text) ≡ o → ((others : List ℕ) → Split n others) → Split (suc n) text
    by_read None e more =
        let left : after_record (without_line_ends text) ≡ [] = rw e refl in
        let end = after_records-shift n text ∙ ap (after_records n) left ∙ after_records-nothing n in
        split_none (suc n) text (blank_records text ∙ records-none (without_line_ends text) e) end records-nothing
    by_read (Some p) e more = split_more n text p e (more p.2)

-- the front of a text by its length
front_taken : (text front rest : List ℕ) → text ≡ front ++ rest → take (length text - length rest) text ≡ front
front_taken text front rest e =
    let many : length (front ++ rest) - length rest ≡ length front = omega (arith, length-append front rest) in
    rw (e, many) (take-append_seam front rest)

-- no record begins with a line end
pub after_records-plain : (n : ℕ) (text : List ℕ) → begins_with_line_end (after_records n text) ≡ false
unfolding after_records
after_records-plain zero text = without-plain text
after_records-plain (suc n) text = without-plain (after_record (after_records n text))

-- each text splits at each record
pub splits : (text : List ℕ) (n : ℕ) → SplitsAtRecord text n
splits text n =
    let at = split n text in
    let front : first_records n text ≡ at.front = front_taken text at.front (after_records n text) at.whole in
    record {
      whole = rw front at.whole;
      before = rw front at.before;
      after = at.after;
      begins = after_records-plain n text;
    }
