-- The faults of a match, and what they tell.
use Rattle.std.proofs.Common.{◌≡◌, ℕ, Bool, true, false, ◌&&◌, ◌||◌, List, [], ◌∷◌, Option, Some, None, Result, Ok, Err, refl, ap, sym, ◌∙◌, position, if◌then◌else◌}
use Rattle.std.specs.Prelude.{bytes_eq, codes, is_some, ok_or, option_map, slice_index_or}
use Rattle.std.proofs.lemmas.Bool.{and_parts}
use Rattle.mt_terms.specs.Lists.{has}
use Rattle.mt_terms.specs.Market.{Names, Registered, applicants}
use Rattle.mt_terms.specs.Registration.Faults.{RecordFault, Fault, record_fault_alone}
use Rattle.mt_terms.specs.Registration.Ids.{Bytes, is_id}
use Rattle.mt_terms.specs.Registration.Passes.{Numbered, and_then, at_record, numbered_from}
use Rattle.mt_terms.specs.Text.{is_none_or_id, name_of}
use Rattle.mt_match_file.specs.Laws.{FaultsAreNamed, fault_codes}
use Rattle.mt_match_file.specs.Submitted.{SoFar, after, all_read, record_fault_at, applicant_line, aside_at, aside_line, counts_at, first_unplaced, four_of, head_line, is_number, line_of, match_of, nothing_read, number, one_of, place_named, placed_at, placed_of, program_line, shown, submitted_by, totals_line, two_of}
use Rattle.mt_match_file.specs.declared.line.Line.{Line}
use Rattle.mt_match_file.specs.declared.line.Line.TheVariants.{Aside, Counts, Head, Place}
use Rattle.mt_match_file.specs.declared.submitted_match.Count.TheVariants as count

-- a result that is no fault, or a fault with its code and an id
abbrev is_named : ℕ → Bytes → Bool
is_named code id = has fault_codes code && is_none_or_id id

abbrev record_fault_is_named : {X : Type 0} → Result X RecordFault → Bool
record_fault_is_named (Ok x) = true
record_fault_is_named (Err c) = is_named c.0 c.1

abbrev fault_is_named : {X : Type 0} → Result X Fault → Bool
fault_is_named (Ok x) = true
fault_is_named (Err f) = is_named f.code f.id

-- what is shown of a field is an id, or nothing
shown_is : (field : Bytes) → is_none_or_id (shown field) ≡ true
shown_is [] = refl
shown_is (b ∷ bytes) = by (is_id 64 (b ∷ bytes)) refl
  where
    by : (t : Bool) → is_id 64 (b ∷ bytes) ≡ t → is_none_or_id (if t then (b ∷ bytes) else []) ≡ true
    by true e = e
    by false e = refl

head_named : (f : Option (Bytes × Bytes)) → record_fault_is_named (head_line f) ≡ true
head_named None = refl
head_named (Some f) = by ((bytes_eq f.0 (codes "1") || bytes_eq f.0 (codes "2")) && bytes_eq f.1 (codes "published"))
  where
    by : (b : Bool) → record_fault_is_named (if b then Ok Head else Err (record_fault_alone 51)) ≡ true
    by true = refl
    by false = refl

place_is_named : (a : ℕ) (field : Bytes) (o : Option (Option ℕ)) → record_fault_is_named (ok_or (option_map (Place a) o) (record_fault_at 54 field)) ≡ true
place_is_named a field None = rw (shown_is field) refl
place_is_named a field (Some place) = refl

aside_named : (aside : List ℕ) (id : Bytes) (o : Option ℕ) → record_fault_is_named (aside_at aside id o) ≡ true
aside_named aside id None = rw (shown_is id) refl
aside_named aside id (Some c) = by (has aside c)
  where
    by : (b : Bool) → record_fault_is_named (if b then Err (record_fault_at 58 id) else Ok (Aside c)) ≡ true
    by true = rw (shown_is id) refl
    by false = refl

aside_line_named : (names : Names) (aside : List ℕ) (f : Option Bytes) → record_fault_is_named (aside_line names aside f) ≡ true
aside_line_named names aside None = refl
aside_line_named names aside (Some id) = aside_named aside id (position (bytes_eq id) names.couples)

module _ (names : Names) (before : SoFar) where
  placed_named : (f : Bytes × Bytes) (o : Option ℕ) → record_fault_is_named (placed_at names before.places f o) ≡ true
  placed_named f None = rw (shown_is f.0) refl
  placed_named f (Some a) = by (is_some (slice_index_or before.places a None))
    where
      by : (b : Bool) → record_fault_is_named (if b then Err (record_fault_at 53 f.0) else ok_or (option_map (Place a) (place_named names.programs f.1)) (record_fault_at 54 f.1)) ≡ true
      by true = rw (shown_is f.0) refl
      by false = place_is_named a f.1 (place_named names.programs f.1)

  applicant_named : (f : Option (Bytes × Bytes)) → record_fault_is_named (applicant_line names before.places f) ≡ true
  applicant_named None = refl
  applicant_named (Some f) = placed_named f (position (bytes_eq f.0) names.applicants)

  counts_named : (f : Bytes × Bytes × Bytes × Bytes) (o : Option ℕ) → record_fault_is_named (counts_at f o) ≡ true
  counts_named f None = rw (shown_is f.0) refl
  counts_named f (Some p) = refl

  program_named : (f : Option (Bytes × Bytes × Bytes × Bytes)) → record_fault_is_named (program_line names f) ≡ true
  program_named None = refl
  program_named (Some f) = by (is_number f.1 && is_number f.2 && is_number f.3)
    where
      by : (b : Bool) → record_fault_is_named (if b then counts_at f (position (bytes_eq f.0) names.programs) else Err (record_fault_alone 51)) ≡ true
      by true = counts_named f (position (bytes_eq f.0) names.programs)
      by false = refl

  totals_named : (f : Option (Bytes × Bytes × Bytes × Bytes)) → record_fault_is_named (totals_line f) ≡ true
  totals_named None = refl
  totals_named (Some f) = by (is_number f.0 && is_number f.1 && is_number f.2 && is_number f.3)
    where
      by : (b : Bool) → record_fault_is_named (if b then Ok (Counts (count.Totals (number f.0) (number f.1) (number f.2) (number f.3))) else Err (record_fault_alone 51)) ≡ true
      by true = refl
      by false = refl

  one_kind : (a b c d e : Bool) (x y z w v : Result Line RecordFault)
      → record_fault_is_named x ≡ true → record_fault_is_named y ≡ true → record_fault_is_named z ≡ true → record_fault_is_named w ≡ true → record_fault_is_named v ≡ true
      → record_fault_is_named (if a then x else if b then y else if c then z else if d then w else if e then v else Err (record_fault_alone 50)) ≡ true
  one_kind true b c d e x y z w v h i j k l = h
  one_kind false true c d e x y z w v h i j k l = i
  one_kind false false true d e x y z w v h i j k l = j
  one_kind false false false true e x y z w v h i j k l = k
  one_kind false false false false true x y z w v h i j k l = l
  one_kind false false false false false x y z w v h i j k l = refl

  line_named : (fields : List Bytes) → record_fault_is_named (line_of names before fields) ≡ true
  line_named [] = refl
  line_named (word ∷ fields) =
      one_kind (bytes_eq word (codes "applicant")) (bytes_eq word (codes "program")) (bytes_eq word (codes "totals")) (bytes_eq word (codes "match"))
      (bytes_eq word (codes "aside")) _ _ _ _ _
      (applicant_named (placed_of fields)) (program_named (four_of fields)) (totals_named (four_of fields)) (head_named (two_of fields))
      (aside_line_named names before.aside (one_of fields))

all_named : (names : Names) (before : SoFar) (rows : List (Numbered (List Bytes))) → fault_is_named (all_read names before rows) ≡ true
all_named names before [] = refl
all_named names before (row ∷ rows) = by (line_of names before row.1) (line_named names before row.1) (λ l. all_named names (after row.0 before l) rows)
  where
    by : (o : Result Line RecordFault) → record_fault_is_named o ≡ true → ((l : Line) → fault_is_named (all_read names (after row.0 before l) rows) ≡ true)
        → fault_is_named (and_then (at_record row.0 (and_then o (λ l. Ok (after row.0 before l)))) (λ s. all_read names s rows)) ≡ true
    by (Ok l) h rest = rest l
    by (Err c) h rest = h

match_named : (names : Names) (s : SoFar) (o : Option ℕ) → fault_is_named (match_of names s o) ≡ true
match_named names s None = refl
match_named names s (Some a) = rw (shown_is (name_of names.applicants a)) refl

told_named : (r : Registered) (rows : List (List Bytes)) → fault_is_named (submitted_by r rows) ≡ true
told_named r rows = by (all_read r.names (nothing_read (applicants r.market)) (numbered_from 1 rows)) (all_named r.names (nothing_read (applicants r.market)) (numbered_from 1 rows))
  where
    by : (o : Result SoFar Fault) → fault_is_named o ≡ true → fault_is_named (and_then o (λ s. match_of r.names s (first_unplaced s))) ≡ true
    by (Ok s) h = match_named r.names s (first_unplaced s)
    by (Err f) h = h

pub faults_are_named_lem : FaultsAreNamed
faults_are_named_lem r rows f h =
    let parts = and_parts (has fault_codes f.code) (is_none_or_id f.id) (sym (ap fault_is_named h) ∙ told_named r rows) in
    record { known = parts.0; is_id = parts.1 }
