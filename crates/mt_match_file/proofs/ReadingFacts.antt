-- How the reading of a match goes on after a record.
use Rattle.std.proofs.Common.{◌≡◌, ℕ, List, ◌∷◌, length, map, Option, Result, Ok, Err, None, ap, sym, ◌∙◌, subst, arith}
use Rattle.std.specs.Option.{unwrap_or}
use Rattle.std.specs.Prelude.{IfOk}
use Rattle.mt_terms.specs.Market.{Names, Registered, applicants}
use Rattle.mt_terms.specs.Places.{ArePlaces}
use Rattle.mt_terms.specs.Registration.Accepted.{IsRegistration}
use Rattle.mt_terms.specs.Registration.Faults.{RecordFault, fault_at}
use Rattle.mt_terms.specs.Registration.Ids.{Bytes}
use Rattle.mt_terms.specs.Registration.Passes.{Numbered, numbered_from}
use Rattle.mt_order_laws.specs.Reordered.{IsOrderOfSome}
use Rattle.mt_match_file.specs.Errors.{IsFault, Tells}
use Rattle.mt_match_file.specs.Reading.{FitsInto, Gives}
use Rattle.mt_match_file.specs.Submitted.{SoFar, Submitted, after, all_read, first_unplaced, line_of, match_of, nothing_read}
use Rattle.mt_match_file.specs.declared.fault.MatchError.{MatchError}
use Rattle.mt_match_file.specs.declared.fault.MatchError.TheVariants as errors
use Rattle.mt_match_file.specs.declared.line.Line.{Line}
use Rattle.mt_match_file.specs.declared.line.Line.TheVariants.{Aside, Counts, Head, Place}
use Rattle.mt_match_file.proofs.PlaceFacts.{FitsLine, LineFits, line_fits, tells_aside_lem, tells_places_lem}

-- what a record tells fits the market's applicants
pub fits_into : (names : Names) (before : SoFar) (n k : ℕ) (l : Line) → length names.applicants ≡ n → length names.couples ≡ k → FitsLine names before l
    → FitsInto n k l
fits_into names before n k Head e f h = tt
fits_into names before n k (Place a place) e f h = omega (arith, h.0)
fits_into names before n k (Counts c) e f h = tt
fits_into names before n k (Aside c) e f h = omega (arith, h.0)

pub line_fits_into : (r : Registered) → IsRegistration r → (before : SoFar) (fields : List Bytes) (l : Line) (n k : ℕ) → line_of r.names before fields ≡ Ok l
    → n ≡ applicants r.market → k ≡ length r.market.couples → FitsInto n k l
line_fits_into r h before fields l n k is e f =
    fits_into r.names before n k l (h.applicant_names.one_each ∙ sym e) (h.couple_names.one_each ∙ sym f)
    (subst (λ (o : Result Line RecordFault). LineFits r.names before o) is (line_fits r.names before fields))

module _ (names : Names) (old new : SoFar) (n : ℕ) (fields : List Bytes) where
  pub reads_line : (l : Line) → line_of names old fields ≡ Ok l → new ≡ after n old l
      → (rest : List (Numbered (List Bytes))) → all_read names old ((n, fields) ∷ rest) ≡ all_read names new rest
  reads_line l is submitted rest = rw is (ap (λ (s : SoFar). all_read names s rest) (sym submitted))

  pub reads_fault : (c : RecordFault) (e : MatchError) → line_of names old fields ≡ Err c → IsFault e (fault_at n c)
      → (rest : List (Numbered (List Bytes))) → Tells e (all_read names old ((n, fields) ∷ rest))
  reads_fault c (errors.Fault f) is submitted rest = rw is (ap Err (sym submitted))
  reads_fault c errors.Memory is submitted rest = absurd submitted

-- what a file says of all applicants
pub match_is : (names : Names) (s : SoFar) (o : Option ℕ) (submitted : Submitted) → o ≡ None → submitted.places ≡ map (λ place. unwrap_or place None) s.places → submitted.counts ≡ s.counts
    → submitted.aside ≡ s.aside → match_of names s o ≡ Ok submitted
match_is names s o submitted none places counts aside =
    let whole : submitted ≡ record { places = map (λ place. unwrap_or place None) s.places; counts = s.counts; aside = s.aside } =
    λ i. record { places = places i; counts = counts i; aside = aside i } in
    ap (match_of names s) none ∙ ap Ok (sym whole)

-- a match that a file gives has places of the market
pub places_are : (r : Registered) → IsRegistration r → (rows : List (List Bytes)) (s : SoFar)
    → all_read r.names (nothing_read (applicants r.market)) (numbered_from 1 rows) ≡ Ok s
    → (result : Result Submitted MatchError) → Gives result (match_of r.names s (first_unplaced s)) → IfOk result (λ submitted. ArePlaces r.market submitted.places)
places_are r h rows s is (Ok submitted) gives = tells_places_lem r h rows submitted (rw is gives)
places_are r h rows s is (Err e) gives = tt

-- and sets couples of the market aside
pub aside_are : (r : Registered) → IsRegistration r → (rows : List (List Bytes)) (s : SoFar)
    → all_read r.names (nothing_read (applicants r.market)) (numbered_from 1 rows) ≡ Ok s
    → (result : Result Submitted MatchError) → Gives result (match_of r.names s (first_unplaced s)) → IfOk result (λ submitted. IsOrderOfSome r.market submitted.aside)
aside_are r h rows s is (Ok submitted) gives = tells_aside_lem r h rows submitted (rw is gives)
aside_are r h rows s is (Err e) gives = tt
