-- The records of a text, byte by byte.
use Rattle.std.proofs.Common.{◌≡◌, ℕ, ◌+◌, ◌≤◌, List, [], ◌∷◌, ◌++◌, length, Option, Some, None, if◌then◌else◌, false, refl, sym, ap, ◌∙◌, inl, inr, arith}
use Rattle.std.proofs.lemmas.Bool.{cases_Bool}
use Rattle.csv.specs.declared.parser.State.{State}
use Rattle.csv.specs.declared.parser.State.TheVariants as st
use Rattle.csv.specs.Machine.{Read, ends_at_end, is_end, field_after, fields_after, next_record, step}
use Rattle.csv.specs.Reading.{default_config, records, records_next}
use Rattle.mt_lists.proofs.CsvFacts.{records_left, records_left-none, records_left-some, step-rests}

-- the records that are left of a text from a state on, with the fields and the bytes of a record that has begun
unfoldable pub read_from : State → List (List ℕ) → List ℕ → List ℕ → List (List (List ℕ))
read_from s fields field [] = if ends_at_end s then (fields ++ (field ∷ [])) ∷ [] else []
read_from s fields field (c ∷ rest) =
    if is_end (step default_config s c).1 then fields_after (step default_config s c).1 fields field ∷ read_from (step default_config s c).0 [] [] rest
    else read_from (step default_config s c).0 (fields_after (step default_config s c).1 fields field) (field_after (step default_config s c).1 c field) rest

-- csv's records, one read at a time
records_left-next : (s : State) (xs : List ℕ) → ends_at_end s ≡ false → records_left s xs ≡ records_next records_left (next_record default_config s [] [] xs)
records_left-next s xs idle = next (next_record default_config s [] [] xs) refl
  where
    next : (o : Option Read) → next_record default_config s [] [] xs ≡ o → records_left s xs ≡ records_next records_left o
    next None e = records_left-none s xs e
    next (Some p) e = records_left-some s xs p idle e

-- are those that are left byte by byte
read_from-next : (s : State) (fields : List (List ℕ)) (field xs : List ℕ) → read_from s fields field xs ≡ records_next records_left (next_record default_config s fields field xs)
unfolding read_from next_record
read_from-next s fields field [] =
    elim (cases_Bool (ends_at_end s)) [
      | inl ends ↦ rw ends (ap (λ (rows : List (List (List ℕ))). (fields ++ (field ∷ [])) ∷ rows) (sym (records_left-none st.StartRecord [] refl)))
      | inr goes ↦ rw goes refl
    ]
read_from-next s fields field (c ∷ rest) =
    elim (cases_Bool (is_end (step default_config s c).1)) [
      | inl ends ↦
          let idle = step-rests default_config s c ends in
          let more = read_from-next (step default_config s c).0 [] [] rest ∙ sym (records_left-next (step default_config s c).0 rest idle) in
          rw ends (ap (λ (rows : List (List (List ℕ))). fields_after (step default_config s c).1 fields field ∷ rows) more)
      | inr goes ↦
          rw goes (read_from-next (step default_config s c).0 (fields_after (step default_config s c).1 fields field) (field_after (step default_config s c).1 c field) rest)
    ]

-- csv's records of a text, byte by byte
pub records-read_from : (xs : List ℕ) → records default_config xs ≡ read_from st.StartRecord [] [] xs
records-read_from xs = records_left-next st.StartRecord xs refl ∙ sym (read_from-next st.StartRecord [] [] xs)

-- there is a byte for each record that has yet to begin
read_from-within : (s : State) (fields : List (List ℕ)) (field xs : List ℕ)
    → (length (read_from s fields field xs) ≤ length xs + 1) × (ends_at_end s ≡ false → length (read_from s fields field xs) ≤ length xs)
unfolding read_from
read_from-within s fields field [] =
    elim (cases_Bool (ends_at_end s)) [
      | inl ends ↦ (rw ends (omega arith), λ idle. cc)
      | inr goes ↦ (rw goes (omega arith), λ idle. rw goes (omega arith))
    ]
read_from-within s fields field (c ∷ rest) =
    elim (cases_Bool (is_end (step default_config s c).1)) [
      | inl ends ↦
          let more = (read_from-within (step default_config s c).0 [] [] rest).1 (step-rests default_config s c ends) in
          (rw ends (omega (arith, more)), λ idle. rw ends (omega (arith, more)))
      | inr goes ↦
          let more = (read_from-within (step default_config s c).0 (fields_after (step default_config s c).1 fields field) (field_after (step default_config s c).1 c field) rest).0 in
          (rw goes (omega (arith, more)), λ idle. rw goes (omega (arith, more)))
    ]

-- a text has no more records than bytes
pub records-within : (xs : List ℕ) → length (records default_config xs) ≤ length xs
records-within xs = rw (records-read_from xs) ((read_from-within st.StartRecord [] [] xs).1 refl)
