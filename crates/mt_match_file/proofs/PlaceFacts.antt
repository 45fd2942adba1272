-- What a match tells are places of its market, and couples of it that are set aside.
use Rattle.std.proofs.Common.{◌≡◌, ℕ, ◌<◌, Bool, true, false, ◌&&◌, ◌||◌, List, [], ◌∷◌, map, length, get_or, set, replicate, Option, Some, None, Result, Ok, Err, refl, ap, sym, ◌∙◌, subst, inl, inr, position, if◌then◌else◌, arith}
use Rattle.std.specs.Prelude.{◌==◌, bytes_eq, codes, is_some, ok_or, option_map, slice_index_or}
use Rattle.std.specs.Option.{unwrap_or}
use Rattle.std.proofs.lemmas.Bool.{cases_eq, cases_lt, false≢true}
use Rattle.std.proofs.lemmas.Bool.Decides.{nat_tests}
use Rattle.std.proofs.lemmas.List.{get_or-map, get_or-replicate, get_or-set_same, get_or-set_other, length-map, length-replicate, length-set, get_or_past}
use Rattle.mt_terms.specs.Lists.{has, is_distinct}
use Rattle.mt_terms.specs.Market.{Market, Names, Registered, applicants}
use Rattle.mt_terms.specs.Matching.{is_program}
use Rattle.mt_terms.specs.Places.{ArePlaces}
use Rattle.mt_terms.specs.Registration.Accepted.{IsRegistration}
use Rattle.mt_terms.specs.Registration.Faults.{RecordFault, Fault, record_fault_alone}
use Rattle.mt_terms.specs.Registration.Ids.{Bytes, is_dash}
use Rattle.mt_terms.specs.Registration.Passes.{Numbered, and_then, at_record, numbered_from}
use Rattle.mt_terms.proofs.ListFacts.{has_push, distinct_push}
use Rattle.mt_order_laws.specs.Reordered.{IsOrderOfSome}
use Rattle.mt_match_file.specs.Laws.{TellsAside, TellsPlaces}
use Rattle.mt_match_file.specs.Submitted.{SoFar, Submitted, after, all_read, applicant_line, aside_at, aside_line, record_fault_at, counts_at, first_unplaced, four_of, head_line, is_number, line_of, match_of, nothing_read, number, one_of, place_named, placed_at, placed_of, program_line, submitted_by, totals_line, two_of}
use Rattle.mt_match_file.specs.declared.line.Line.{Line}
use Rattle.mt_match_file.specs.declared.line.Line.TheVariants.{Aside, Counts, Head, Place}
use Rattle.mt_match_file.specs.declared.submitted_match.Count.TheVariants as count
use Rattle.mt_ids.proofs.IdFacts.{found_below}

-- What a record tells after others is of these ids: an applicant, and a place that is a program or none. Or it is a
-- couple that wasn't set aside before.
abbrev pub FitsLine : Names → SoFar → Line → Type 0
FitsLine names before Head = Unit {0}
FitsLine names before (Place a place) = (a < length names.applicants) × ((p : ℕ) → place ≡ Some p → p < length names.programs)
FitsLine names before (Counts c) = Unit {0}
FitsLine names before (Aside c) = (c < length names.couples) × (has before.aside c ≡ false)

abbrev pub LineFits : Names → SoFar → Result Line RecordFault → Type 0
LineFits names before (Ok l) = FitsLine names before l
LineFits names before (Err c) = Unit {0}

-- what some records told is so
pub record FitsSoFar (names : Names) (s : SoFar) : Type 0 where
  pub one_each : length s.places ≡ length names.applicants
  pub within : (a p : ℕ) → get_or s.places a None ≡ Some (Some p) → p < length names.programs
  pub distinct : is_distinct s.aside ≡ true
  pub couples : (c : ℕ) → has s.aside c ≡ true → c < length names.couples

abbrev SoFarFits : Names → Result SoFar Fault → Type 0
SoFarFits names (Ok s) = FitsSoFar names s
SoFarFits names (Err f) = Unit {0}

abbrev MatchFits : Market → Result Submitted Fault → Type 0
MatchFits m (Ok submitted) = ArePlaces m submitted.places × IsOrderOfSome m submitted.aside
MatchFits m (Err f) = Unit {0}

named_within : (ids : List Bytes) (field : Bytes) (p : ℕ) → place_named ids field ≡ Some (Some p) → p < length ids
named_within ids field p h = by (is_dash field) h
  where
    of : (o : Option ℕ) → position (bytes_eq field) ids ≡ o → option_map Some o ≡ Some (Some p) → p < length ids
    of None is h = cc
    of (Some q) is h = let same : Some q ≡ Some p = cc in found_below ids field p (sym (is ∙ same))

    by : (b : Bool) → (if b then Some None else option_map Some (position (bytes_eq field) ids)) ≡ Some (Some p) → p < length ids
    by true h = cc
    by false h = of (position (bytes_eq field) ids) refl h

module _ (names : Names) (before : SoFar) where
  head_fits : (f : Option (Bytes × Bytes)) → LineFits names before (head_line f)
  head_fits None = tt
  head_fits (Some f) = by ((bytes_eq f.0 (codes "1") || bytes_eq f.0 (codes "2")) && bytes_eq f.1 (codes "published"))
    where
      by : (b : Bool) → LineFits names before (if b then Ok Head else Err (record_fault_alone 51))
      by true = tt
      by false = tt

  place_fits : (a : ℕ) (field : Bytes) (o : Option (Option ℕ)) → a < length names.applicants → place_named names.programs field ≡ o
      → LineFits names before (ok_or (option_map (Place a) o) (record_fault_at 54 field))
  place_fits a field None within is = tt
  place_fits a field (Some place) within is = (within, λ p same. named_within names.programs field p (is ∙ ap Some same))

  placed_fits : (f : Bytes × Bytes) (o : Option ℕ) → position (bytes_eq f.0) names.applicants ≡ o → LineFits names before (placed_at names before.places f o)
  placed_fits f None is = tt
  placed_fits f (Some a) is = by (is_some (slice_index_or before.places a None))
    where
      by : (b : Bool) → LineFits names before (if b then Err (record_fault_at 53 f.0) else ok_or (option_map (Place a) (place_named names.programs f.1)) (record_fault_at 54 f.1))
      by true = tt
      by false = place_fits a f.1 (place_named names.programs f.1) (found_below names.applicants f.0 a (sym is)) refl

  applicant_fits : (f : Option (Bytes × Bytes)) → LineFits names before (applicant_line names before.places f)
  applicant_fits None = tt
  applicant_fits (Some f) = placed_fits f (position (bytes_eq f.0) names.applicants) refl

  counts_fit : (f : Bytes × Bytes × Bytes × Bytes) (o : Option ℕ) → LineFits names before (counts_at f o)
  counts_fit f None = tt
  counts_fit f (Some p) = tt

  program_fits : (f : Option (Bytes × Bytes × Bytes × Bytes)) → LineFits names before (program_line names f)
  program_fits None = tt
  program_fits (Some f) = by (is_number f.1 && is_number f.2 && is_number f.3)
    where
      by : (b : Bool) → LineFits names before (if b then counts_at f (position (bytes_eq f.0) names.programs) else Err (record_fault_alone 51))
      by true = counts_fit f (position (bytes_eq f.0) names.programs)
      by false = tt

  totals_fit : (f : Option (Bytes × Bytes × Bytes × Bytes)) → LineFits names before (totals_line f)
  totals_fit None = tt
  totals_fit (Some f) = by (is_number f.0 && is_number f.1 && is_number f.2 && is_number f.3)
    where
      by : (b : Bool) → LineFits names before (if b then Ok (Counts (count.Totals (number f.0) (number f.1) (number f.2) (number f.3))) else Err (record_fault_alone 51))
      by true = tt
      by false = tt

  aside_fits : (id : Bytes) (o : Option ℕ) → position (bytes_eq id) names.couples ≡ o → LineFits names before (aside_at before.aside id o)
  aside_fits id None is = tt
  aside_fits id (Some c) is = by (has before.aside c) refl
    where
      by : (b : Bool) → has before.aside c ≡ b → LineFits names before (if b then Err (record_fault_at 58 id) else Ok (Aside c))
      by true new = tt
      by false new = (found_below names.couples id c (sym is), new)

  aside_line_fits : (f : Option Bytes) → LineFits names before (aside_line names before.aside f)
  aside_line_fits None = tt
  aside_line_fits (Some id) = aside_fits id (position (bytes_eq id) names.couples) refl

  one_kind : (a b c d e : Bool) (x y z w v : Result Line RecordFault)
      → LineFits names before x → LineFits names before y → LineFits names before z → LineFits names before w → LineFits names before v
      → LineFits names before (if a then x else if b then y else if c then z else if d then w else if e then v else Err (record_fault_alone 50))
  one_kind true b c d e x y z w v h i j k l = h
  one_kind false true c d e x y z w v h i j k l = i
  one_kind false false true d e x y z w v h i j k l = j
  one_kind false false false true e x y z w v h i j k l = k
  one_kind false false false false true x y z w v h i j k l = l
  one_kind false false false false false x y z w v h i j k l = tt

  pub line_fits : (fields : List Bytes) → LineFits names before (line_of names before fields)
  line_fits [] = tt
  line_fits (word ∷ fields) =
      one_kind (bytes_eq word (codes "applicant")) (bytes_eq word (codes "program")) (bytes_eq word (codes "totals")) (bytes_eq word (codes "match"))
      (bytes_eq word (codes "aside")) _ _ _ _ _
      (applicant_fits (placed_of fields)) (program_fits (four_of fields)) (totals_fit (four_of fields)) (head_fits (two_of fields))
      (aside_line_fits (one_of fields))

-- one record more
after_fits : (names : Names) (row : ℕ) (s : SoFar) (l : Line) → FitsSoFar names s → FitsLine names s l → FitsSoFar names (after row s l)
after_fits names row s Head h fits = h
after_fits names row s (Counts c) h fits = record { one_each = h.one_each; within = h.within; distinct = h.distinct; couples = h.couples }
after_fits names row s (Aside c) h fits =
    record {
      one_each = h.one_each;
      within = h.within;
      distinct = distinct_push s.aside c h.distinct fits.1;
      couples = λ a is. elim (cases_eq c a) [
        | inl same ↦ subst (λ n. n < length names.couples) same fits.0
        | inr other ↦ h.couples a (sym (at_other c a (has s.aside a) other) ∙ sym (has_push s.aside c a) ∙ is)
      ];
    }
  where
    at_other : (c a : ℕ) (b : Bool) → (c ≡ a → ⊥) → (b || c == a) ≡ b
    at_other c a b other = grind (arith, nat_tests)
after_fits names row s (Place a place) h fits =
    record {
      one_each = length-set s.places a (Some place) ∙ h.one_each;
      within = λ b p is. elim (cases_eq b a) [
        | inl same ↦
            let room : a < length s.places = omega (arith, h.one_each, fits.0) in
            let here : get_or (set s.places a (Some place)) a None ≡ Some place = get_or-set_same s.places a (Some place) None room in
            let at_it : get_or (set s.places a (Some place)) a None ≡ Some (Some p) = subst (λ k. get_or (set s.places a (Some place)) k None ≡ Some (Some p)) same is in
            let place_is : place ≡ Some p = cc in
            fits.1 p place_is
        | inr other ↦ h.within b p (sym (get_or-set_other s.places a b (Some place) None other) ∙ is)
      ];
      distinct = h.distinct;
      couples = h.couples;
    }

all_fit : (names : Names) (s : SoFar) (rows : List (Numbered (List Bytes))) → FitsSoFar names s → SoFarFits names (all_read names s rows)
all_fit names s [] h = h
all_fit names s (row ∷ rows) h = by (line_of names s row.1) (line_fits names s row.1) (λ l fits. all_fit names (after row.0 s l) rows (after_fits names row.0 s l h fits))
  where
    by : (o : Result Line RecordFault) → LineFits names s o
        → ((l : Line) → FitsLine names s l → SoFarFits names (all_read names (after row.0 s l) rows))
        → SoFarFits names (and_then (at_record row.0 (and_then o (λ l. Ok (after row.0 s l)))) (λ t. all_read names t rows))
    by (Ok l) fits rest = rest l fits
    by (Err c) fits rest = tt

nothing_fits : (names : Names) → FitsSoFar names (nothing_read (length names.applicants))
nothing_fits names = record { one_each = length-replicate n None; within = λ a p is. absurd (not_told (sym (none_at a) ∙ is)); distinct = refl; couples = λ c is. absurd (false≢true is) }
  where
    n : ℕ
    n = length names.applicants

    not_told : {p : Option ℕ} → None ≡ Some p → ⊥
    not_told h = cc

    nothing : Option (Option ℕ)
    nothing = None

    none_at : (a : ℕ) → get_or (replicate n nothing) a nothing ≡ nothing
    none_at a = elim (cases_lt a n) [
      | inl low ↦ get_or-replicate n a None None low
      | inr high ↦ get_or_past (replicate n None) a None (omega (arith, length-replicate {A = Option (Option ℕ)} n None))
    ]

match_fits : (r : Registered) → IsRegistration r → (s : SoFar) (o : Option ℕ) → FitsSoFar r.names s → MatchFits r.market (match_of r.names s o)
match_fits r registered s (Some a) h = tt
match_fits r registered s None h = (
  record {
    one_each = length-map s.places (λ (place : Option (Option ℕ)). unwrap_or place None) ∙ h.one_each ∙ registered.applicant_names.one_each;
    within = λ a p is. by a p (get_or s.places a None) refl (is_at a p is);
  },
  record {
    distinct = h.distinct;
    within = λ c is. let low = h.couples c is in omega (arith, low, registered.couple_names.one_each);
  },
)
  where
    is_at : (a p : ℕ) → is_program p (get_or (map (λ place. unwrap_or place None) s.places) a None) ≡ true → is_program p (unwrap_or (get_or s.places a None) None) ≡ true
    is_at a p is = elim (cases_lt a (length s.places)) [
      | inl low ↦ sym (ap (is_program p) (get_or-map (λ place. unwrap_or place None) s.places a None None low)) ∙ is
      | inr high ↦
          let none : get_or (map (λ place. unwrap_or place None) s.places) a None ≡ None =
          get_or_past (map (λ place. unwrap_or place None) s.places) a None (omega (arith, length-map s.places (λ (place : Option (Option ℕ)). unwrap_or place None))) in
          let bad : false ≡ true = sym (ap (is_program p) none) ∙ is in
          cc
    ]

    by : (a p : ℕ) (o : Option (Option ℕ)) → get_or s.places a None ≡ o → is_program p (unwrap_or o None) ≡ true → p < length r.market.programs
    by a p None is placed = cc
    by a p (Some None) is placed = cc
    by a p (Some (Some q)) is placed =
        let same : q ≡ p = grind (arith, nat_tests) in
        let low = h.within a p (is ∙ ap (λ k. Some (Some k)) same) in
        omega (arith, low, registered.program_names.one_each)

submitted_fits : (r : Registered) → IsRegistration r → (rows : List (List Bytes)) (submitted : Submitted) → submitted_by r rows ≡ Ok submitted → MatchFits r.market (Ok submitted)
submitted_fits r h rows submitted is = subst (λ (o : Result Submitted Fault). MatchFits r.market o) is (of (all_read r.names (nothing_read (applicants r.market)) (numbered_from 1 rows)) all)
  where
    all : SoFarFits r.names (all_read r.names (nothing_read (applicants r.market)) (numbered_from 1 rows))
    all =
        all_fit r.names (nothing_read (applicants r.market)) (numbered_from 1 rows)
        (subst (λ n. FitsSoFar r.names (nothing_read n)) h.applicant_names.one_each (nothing_fits r.names))

    of : (o : Result SoFar Fault) → SoFarFits r.names o → MatchFits r.market (and_then o (λ s. match_of r.names s (first_unplaced s)))
    of (Ok s) fits = match_fits r h s (first_unplaced s) fits
    of (Err f) fits = tt

pub tells_places_lem : TellsPlaces
tells_places_lem r h rows submitted is = (submitted_fits r h rows submitted is).0

pub tells_aside_lem : TellsAside
tells_aside_lem r h rows submitted is = (submitted_fits r h rows submitted is).1
