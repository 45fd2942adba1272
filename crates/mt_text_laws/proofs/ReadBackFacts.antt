-- The rows of a published match tell its places and its counts: the head tells nothing, each row of an applicant its
-- place, in turn, each row of a program and the totals the counts, and the other rows the couples that are set aside.
use Rattle.std.proofs.Common.{◌≡◌, ℕ, zero, suc, ◌+◌, ◌<◌, ◌≤◌, List, [], ◌∷◌, ◌++◌, length, map, get_or, set, replicate, Bool, true, false, not, ◌&&◌, ◌||◌, Option, Some, None, Ok, refl, sym, ap, ◌∙◌, append_assoc, arith, append-nil, length-append, position, lt-ltb}
use Rattle.std.specs.Prelude.{bytes_eq, codes, is_some}
use Rattle.std.specs.Option.{unwrap_or}
use Rattle.std.specs.List.{list_any, position_or_len, range_with_len}
use Rattle.std.proofs.lemmas.List.Folds.{list_any_at}
use Rattle.std.proofs.lemmas.Bool.{both_ways, le-ltb}
use Rattle.std.proofs.lemmas.Bool.Decides.{nat_tests}
use Rattle.mt_terms.specs.Lists.{below, has, is_distinct}
use Rattle.mt_terms.specs.Market.{Market, Names, applicants, program_of}
use Rattle.mt_terms.specs.Matching.{Places, filled, place_of}
use Rattle.mt_terms.specs.Registration.Ids.{Bytes, all_differ}
use Rattle.mt_terms.specs.Registration.Passes.{numbered_from}
use Rattle.mt_terms.specs.Text.{name_of, place_text}
use Rattle.mt_terms.proofs.IdFacts.{is_same, same_id}
use Rattle.mt_match_file.specs.Submitted.{SoFar, all_read, nothing_read, place_named, submitted_by}
use Rattle.mt_match_file.specs.declared.submitted_match.Count.TheVariants as count
use Rattle.mt_match_file.specs.declared.submitted_match.Counted.{Counted}
use Rattle.mt_text_laws.specs.Counts.{counts_aside, counts_from, totals_count}
use Rattle.mt_text_laws.proofs.PublishedRows.{AreTellable, IsTellable, applicant_fields, aside_fields, head_fields, id_at, id_no_dash, program_fields, rows_with, totals_fields}

-- an id has the number of its place, if ids differ
pub own_number : (ids : List Bytes) (i : ℕ) → all_differ bytes_eq ids ≡ true → i < length ids → position_or_len (bytes_eq (get_or ids i [])) ids ≡ i
own_number [] i h lt = absurd (omega arith)
own_number (x ∷ xs) zero h lt = rw (is_same x x refl) refl
own_number (x ∷ xs) (suc i) h lt = by (bytes_eq (get_or xs i []) x) refl (own_number xs i (none (list_any (bytes_eq x) xs) h).1 (omega arith))
  where
    there : bytes_eq (get_or xs i []) x ≡ true → list_any (bytes_eq x) xs ≡ true
    there e = list_any_at (bytes_eq x) xs i [] (omega arith) (is_same x (get_or xs i []) (sym (same_id (get_or xs i []) x e)))

    none : (b : Bool) → (not b && all_differ bytes_eq xs) ≡ true → (b ≡ false) × (all_differ bytes_eq xs ≡ true)
    none true k = cc
    none false k = (refl, k)

    by : (b : Bool) → bytes_eq (get_or xs i []) x ≡ b → position_or_len (bytes_eq (get_or xs i [])) xs ≡ i
        → position_or_len (bytes_eq (get_or xs i [])) (x ∷ xs) ≡ suc i
    by true e rest = absurd (both_ways _ (none (list_any (bytes_eq x) xs) h).0 (there e))
    by false e rest = let one_more : 1 + i ≡ suc i = omega arith in rw (e, rest) one_more

-- an id that stands at a place among ids that differ is found there
pub position_own : (ids : List Bytes) (i : ℕ) → all_differ bytes_eq ids ≡ true → i < length ids → position (bytes_eq (get_or ids i [])) ids ≡ Some i
position_own ids i h lt = rw (own_number ids i h lt, lt-ltb i (length ids) lt) refl

-- a number of a list, and one that the front of a list without repeats hasn't
there : (front : List ℕ) (c : ℕ) (back : List ℕ) → has (front ++ c ∷ back) c ≡ true
there [] c back = grind (arith, nat_tests)
there (x ∷ front) c back = grind (arith, nat_tests, there front c back)

new_in : (front : List ℕ) (c : ℕ) (back : List ℕ) → is_distinct (front ++ c ∷ back) ≡ true → has front c ≡ false
new_in [] c back d = refl
new_in (x ∷ front) c back d = grind (arith, nat_tests, there front c back, new_in front c back)

module _ (m : Market) (names : Names) (places : Places) (received : List ℕ) (t : IsTellable m names places received)
    (applicants_differ : all_differ bytes_eq names.applicants ≡ true) (programs_differ : all_differ bytes_eq names.programs ≡ true) where
  named_back : (o : Option ℕ) → ((p : ℕ) → o ≡ Some p → p < length m.programs) → place_named names.programs (place_text names o) ≡ Some o
  named_back None h = refl
  named_back (Some p) h =
      let lt : p < length names.programs = omega (arith, h p refl, t.program_each) in
      rw (id_no_dash (name_of names.programs p) (id_at names.programs p t.program_ids lt), position_own names.programs p programs_differ lt) refl

  -- the places told after those of the front
  abbrev told_front : Places → ℕ → List (Option (Option ℕ))
  told_front front left = map Some front ++ replicate left None

  here_untold : (front : Places) (left : ℕ) → get_or (told_front front (suc left)) (length front) None ≡ None
  here_untold [] left = refl
  here_untold (x ∷ front) left = here_untold front left

  set_next : (front : Places) (left : ℕ) (x : Option ℕ) → set (told_front front (suc left)) (length front) (Some x) ≡ told_front (front ++ x ∷ []) left
  set_next [] left x = refl
  set_next (y ∷ front) left x = ap (λ (xs : List (Option (Option ℕ))). Some y ∷ xs) (set_next front left x)

  place_next : (front back : Places) (x : Option ℕ) → get_or (front ++ x ∷ back) (length front) None ≡ x
  place_next [] back x = refl
  place_next (y ∷ front) back x = place_next front back x

  one_applicant : (front back : Places) (x : Option ℕ) (counts : List Counted) (i : ℕ) (rest : List (List Bytes)) → front ++ x ∷ back ≡ places
      → all_read names (record { places = told_front front (suc (length back)); counts = counts; aside = [] }) (numbered_from i (applicant_fields names places (length front) ∷ rest))
      ≡ all_read names (record { places = told_front (front ++ x ∷ []) (length back); counts = counts; aside = [] }) (numbered_from (i + 1) rest)
  one_applicant front back x counts i rest whole =
      let here : length front < length names.applicants = omega (arith, t.applicant_each, t.one_each, ap length whole, length-append front (x ∷ back)) in
      let place : place_of places (length front) ≡ x = ap (λ (ps : Places). place_of ps (length front)) (sym whole) ∙ place_next front back x in
      rw (
        position_own names.applicants (length front) applicants_differ here,
        here_untold front (length back),
        named_back (place_of places (length front)) (t.within (length front)),
        place,
        set_next front (length back) x,
      ) refl

  all_applicants : (front back : Places) (counts : List Counted) (i : ℕ) (rest : List (List Bytes)) → front ++ back ≡ places
      → all_read names (record { places = told_front front (length back); counts = counts; aside = [] }) (numbered_from i (map (applicant_fields names places) (range_with_len (length front) (length back)) ++ rest))
      ≡ all_read names (record { places = map Some places; counts = counts; aside = [] }) (numbered_from (i + length back) rest)
  all_applicants front [] counts i rest whole =
      let same : front ≡ places = sym (append-nil front) ∙ whole in
      let zero_more : i + 0 ≡ i = omega arith in
      rw (zero_more, append-nil (map Some front), same) refl
  all_applicants front (x ∷ back) counts i rest whole =
      let longer : length front + 1 ≡ length (front ++ x ∷ []) = omega (arith, length-append front (x ∷ [])) in
      let further : i + suc (length back) ≡ i + 1 + length back = omega arith in
      one_applicant front back x counts i (map (applicant_fields names places) (range_with_len (length front + 1) (length back)) ++ rest) whole
      ∙ rw (longer, further) (all_applicants (front ++ x ∷ []) back counts (i + 1) rest (append_assoc front (x ∷ []) back ∙ whole))

  one_program : (submitted : List (Option (Option ℕ))) (counts : List Counted) (i p : ℕ) (rest : List (List Bytes)) → p < length m.programs
      → all_read names (record { places = submitted; counts = counts; aside = [] }) (numbered_from i (program_fields m names places received p ∷ rest))
      ≡ all_read names (record { places = submitted; counts = counts ++ record { row = i; count = count.Program p (program_of m p).quota (filled places p) } ∷ []; aside = [] }) (numbered_from (i + 1) rest)
  one_program submitted counts i p rest lt =
      rw (
        (t.quota p).is_number,
        (t.placed p).is_number,
        (t.proposed p).is_number,
        position_own names.programs p programs_differ (omega (arith, t.program_each)),
        (t.quota p).same,
        (t.placed p).same,
      ) refl

  all_programs : (submitted : List (Option (Option ℕ))) (counts : List Counted) (i p k : ℕ) (rest : List (List Bytes)) → p + k ≤ length m.programs
      → all_read names (record { places = submitted; counts = counts; aside = [] }) (numbered_from i (map (program_fields m names places received) (range_with_len p k) ++ rest))
      ≡ all_read names (record { places = submitted; counts = counts ++ counts_from m places i p k; aside = [] }) (numbered_from (i + k) rest)
  all_programs submitted counts i p zero rest le =
      let zero_more : i + 0 ≡ i = omega arith in
      rw (zero_more, append-nil counts) refl
  all_programs submitted counts i p (suc k) rest le =
      let further : i + suc k ≡ i + 1 + k = omega arith in
      one_program submitted counts i p (map (program_fields m names places received) (range_with_len (p + 1) k) ++ rest) (omega arith)
      ∙ all_programs submitted (counts ++ record { row = i; count = count.Program p (program_of m p).quota (filled places p) } ∷ []) (i + 1) (p + 1) k rest (omega arith)
      ∙ rw (further, append_assoc counts (record { row = i; count = count.Program p (program_of m p).quota (filled places p) } ∷ []) (counts_from m places (i + 1) (p + 1) k)) refl

  one_couple : (submitted : List (Option (Option ℕ))) (counts : List Counted) (front : List ℕ) (i c : ℕ) (rest : List (List Bytes))
      → c < length names.couples → has front c ≡ false → all_differ bytes_eq names.couples ≡ true
      → all_read names (record { places = submitted; counts = counts; aside = front }) (numbered_from i (aside_fields names c ∷ rest))
      ≡ all_read names (record { places = submitted; counts = counts; aside = front ++ c ∷ [] }) (numbered_from (i + 1) rest)
  one_couple submitted counts front i c rest lt new differ = rw (position_own names.couples c differ lt, new) refl

  all_couples : (submitted : List (Option (Option ℕ))) (counts : List Counted) (front back : List ℕ) (i : ℕ) (rest : List (List Bytes))
      → AreTellable names (front ++ back)
      → all_read names (record { places = submitted; counts = counts; aside = front }) (numbered_from i (map (aside_fields names) back ++ rest))
      ≡ all_read names (record { places = submitted; counts = counts; aside = front ++ back }) (numbered_from (i + length back) rest)
  all_couples submitted counts front [] i rest are =
      let zero_more : i + 0 ≡ i = omega arith in
      rw (zero_more, append-nil front) refl
  all_couples submitted counts front (c ∷ back) i rest are =
      let further : i + suc (length back) ≡ i + 1 + length back = omega arith in
      let whole : (front ++ c ∷ []) ++ back ≡ front ++ c ∷ back = append_assoc front (c ∷ []) back in
      one_couple submitted counts front i c (map (aside_fields names) back ++ rest) (are.within c (there front c back)) (new_in front c back are.distinct) are.couples_differ
      ∙ all_couples submitted counts (front ++ c ∷ []) back (i + 1) rest (rw whole are)
      ∙ rw (further, whole) refl

  the_totals : (submitted : List (Option (Option ℕ))) (counts : List Counted) (aside : List ℕ) (i : ℕ)
      → all_read names (record { places = submitted; counts = counts; aside = aside }) (numbered_from i (totals_fields m places ∷ []))
      ≡ Ok (record { places = submitted; counts = counts ++ totals_count m places i ∷ []; aside = aside })
  the_totals submitted counts aside i =
      rw (t.all.is_number, t.unmatched.is_number, t.posts.is_number, t.free.is_number, t.all.same, t.unmatched.same, t.posts.same, t.free.same) refl

  the_head : (version : Bytes) (s : SoFar) (rest : List (List Bytes)) → (bytes_eq version (codes "1") || bytes_eq version (codes "2")) ≡ true
      → all_read names s (numbered_from 1 (head_fields version ∷ rest)) ≡ all_read names s (numbered_from 2 rest)
  the_head version s rest is = rw is refl

  all_rows : (version : Bytes) (aside : List ℕ) → (bytes_eq version (codes "1") || bytes_eq version (codes "2")) ≡ true → AreTellable names aside
      → all_read names (nothing_read (applicants m)) (numbered_from 1 (rows_with version m names places received aside))
      ≡ Ok (record { places = map Some places; counts = counts_aside m places (length aside); aside = aside })
  all_rows version aside is are =
      let couples : List (List Bytes) = map (aside_fields names) aside ++ totals_fields m places ∷ [] in
      let ends : List (List Bytes) = map (program_fields m names places received) (below (length m.programs)) ++ couples in
      let counts : List Counted = counts_from m places (2 + applicants m) 0 (length m.programs) in
      let applicants_told = rw t.one_each at (all_applicants [] places [] 2 ends refl) in
      the_head version (nothing_read (applicants m)) (map (applicant_fields names places) (below (applicants m)) ++ ends) is
      ∙ applicants_told
      ∙ all_programs (map Some places) [] (2 + applicants m) 0 (length m.programs) couples (omega arith)
      ∙ all_couples (map Some places) counts [] aside (2 + applicants m + length m.programs) (totals_fields m places ∷ []) are
      ∙ the_totals (map Some places) counts aside (2 + applicants m + length m.programs + length aside)

  none_found : (ps : Places) → position_or_len (λ place. not (is_some place)) (map Some ps) ≡ length (map Some ps)
  none_found [] = refl
  none_found (p ∷ ps) = omega (arith, none_found ps)

  none_unplaced : (ps : Places) → position (λ place. not (is_some place)) (map Some ps) ≡ None
  none_unplaced ps = rw (none_found ps, le-ltb (length (map Some ps)) (length (map Some ps)) (omega arith)) refl

  whole_places : (ps : Places) → map (λ place. unwrap_or place None) (map Some ps) ≡ ps
  whole_places [] = refl
  whole_places (p ∷ ps) = ap (λ (qs : Places). p ∷ qs) (whole_places ps)

  pub read_back : (version : Bytes) (aside : List ℕ) → (bytes_eq version (codes "1") || bytes_eq version (codes "2")) ≡ true → AreTellable names aside
      → submitted_by (record { market = m; names = names }) (rows_with version m names places received aside)
      ≡ Ok (record { places = places; counts = counts_aside m places (length aside); aside = aside })
  read_back version aside is are = rw (all_rows version aside is are, none_unplaced places, whole_places places) refl
