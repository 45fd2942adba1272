-- The numbers of a published text have ten digits at most, and the text has fewer bytes than a file may have.
use Rattle.std.proofs.Common.{◌≡◌, ℕ, zero, suc, ◌+◌, ◌-◌, ◌*◌, ◌<◌, ◌≤◌, List, [], ◌∷◌, ◌++◌, length, map, Bool, true, not, ◌||◌, refl, ap, ◌∙◌, arith, length-append, eq-eqb}
use Rattle.std.specs.Prelude.{◌==◌, codes, decimal, slice_index_or, is_some}
use Rattle.std.specs.List.{range_with_len}
use Rattle.std.proofs.lemmas.Bool.{or_right}
use Rattle.std.proofs.lemmas.Bool.Decides.{nat_tests}
use Rattle.std.proofs.lemmas.List.Concat.{flat_map-append}
use Rattle.mt_terms.specs.Lists.{below, has, total_below}
use Rattle.mt_terms.specs.Market.{Market, Names, Registered, applicants, program_of}
use Rattle.mt_terms.specs.Matching.{Places, filled, is_program, place_of}
use Rattle.mt_terms.specs.Places.{ArePlaces}
use Rattle.mt_terms.specs.Registration.Accepted.{IsRegistration}
use Rattle.mt_terms.specs.Registration.Ids.{Bytes}
use Rattle.mt_terms.specs.Text.{all_filled, line, name_of, place_text, positions, unmatched}
use Rattle.mt_terms.proofs.ListFacts.{count-le-length}
use Rattle.mt_terms.proofs.IdFacts.{id_short}
use Rattle.mt_text_laws.proofs.LineTexts.{text_of}
use Rattle.mt_text_laws.proofs.PublishedRows.{AreTellable, IsTellable, applicant_fields, aside_fields, head_fields, id_at, is_told, place_plain, program_fields, rows_with, totals_fields}

-- a sum of terms that are at most so much
pub total_at_most : (f : ℕ → ℕ) (most n : ℕ) → ((k : ℕ) → f k ≤ most) → total_below f n ≤ n * most
total_at_most f most zero h = omega arith
total_at_most f most (suc n) h =
    let rest = total_at_most f most n h in
    let here = h n in
    omega arith

-- a match of a registered market can be told
pub is_tellable : (r : Registered) → IsRegistration r → (received : List ℕ) → ((p : ℕ) → slice_index_or received p 0 ≤ applicants r.market)
    → (places : Places) → ArePlaces r.market places → IsTellable r.market r.names places received
is_tellable r h received few_received places are =
    let few : applicants r.market ≤ 100000 = h.few_applicants in
    let each : length places ≡ applicants r.market = are.one_each in
    let some_programs : length r.market.programs ≤ 20000 = h.few_programs in
    let posts : positions r.market ≤ length r.market.programs * 9999 = total_at_most (λ p. (program_of r.market p).quota) 9999 (length r.market.programs) h.quotas in
    let none : unmatched places ≤ length places = count-le-length (λ place. not (is_some place)) places in
    record {
      one_each = are.one_each;
      within = λ a p is. are.within a p (rw is (eq-eqb p p refl));
      applicant_each = h.applicant_names.one_each;
      program_each = h.program_names.one_each;
      applicant_ids = h.applicant_names.are_ids;
      program_ids = h.program_names.are_ids;
      quota = λ p. let quota : (program_of r.market p).quota ≤ 9999 = h.quotas p in is_told (program_of r.market p).quota (omega arith);
      placed = λ p. let here : filled places p ≤ length places = count-le-length (is_program p) places in is_told (filled places p) (omega arith);
      proposed = λ p. let here = few_received p in is_told (slice_index_or received p 0) (omega arith);
      all = is_told (applicants r.market) (omega arith);
      unmatched = is_told (unmatched places) (omega arith);
      posts = is_told (positions r.market) (omega arith);
      free = is_told (positions r.market - all_filled r.market places) (omega arith);
    }

-- how long the lines are
length-three : (x y z : Bytes) → length (line (x ∷ y ∷ z ∷ [])) ≡ length x + length y + length z + 3
length-three x y z =
    omega (arith, length-append (x ++ 44 ∷ (y ++ 44 ∷ z)) (10 ∷ []), length-append x (44 ∷ (y ++ 44 ∷ z)), length-append y (44 ∷ z))

length-two : (x y : Bytes) → length (line (x ∷ y ∷ [])) ≡ length x + length y + 2
length-two x y = omega (arith, length-append (x ++ 44 ∷ y) (10 ∷ []), length-append x (44 ∷ y))

length-five : (x y z v w : Bytes) → length (line (x ∷ y ∷ z ∷ v ∷ w ∷ [])) ≡ length x + length y + length z + length v + length w + 5
length-five x y z v w =
    omega (
      arith,
      length-append (x ++ 44 ∷ (y ++ 44 ∷ (z ++ 44 ∷ (v ++ 44 ∷ w)))) (10 ∷ []),
      length-append x (44 ∷ (y ++ 44 ∷ (z ++ 44 ∷ (v ++ 44 ∷ w)))),
      length-append y (44 ∷ (z ++ 44 ∷ (v ++ 44 ∷ w))),
      length-append z (44 ∷ (v ++ 44 ∷ w)),
      length-append v (44 ∷ w),
    )

lines_at_most : (f : ℕ → List Bytes) (most a n end : ℕ) → a + n ≤ end → ((k : ℕ) → k < end → length (line (f k)) ≤ most)
    → length (text_of (map f (range_with_len a n))) ≤ n * most
lines_at_most f most a zero end le h = omega arith
lines_at_most f most a (suc n) end le h =
    let rest = lines_at_most f most (a + 1) n end (omega arith) h in
    let here = h a (omega arith) in
    omega (arith, length-append (line (f a)) (text_of (map f (range_with_len (a + 1) n))))

module _ (m : Market) (names : Names) (places : Places) (received : List ℕ) (t : IsTellable m names places received) where
  applicant_line_short : (a : ℕ) → a < applicants m → length (line (applicant_fields names places a)) ≤ 140
  applicant_line_short a lt =
      let id = id_short 64 (name_of names.applicants a) (id_at names.applicants a t.applicant_ids (omega (arith, t.applicant_each))) in
      let place = (place_plain m names places received t (place_of places a) (t.within a)).1 in
      omega (arith, length-three (codes "applicant") (name_of names.applicants a) (place_text names (place_of places a)))

  program_line_short : (p : ℕ) → p < length m.programs → length (line (program_fields m names places received p)) ≤ 106
  program_line_short p lt =
      let id = id_short 64 (name_of names.programs p) (id_at names.programs p t.program_ids (omega (arith, t.program_each))) in
      let quota = (t.quota p).short in
      let placed = (t.placed p).short in
      let proposed = (t.proposed p).short in
      omega (
        arith,
        length-five (codes "program") (name_of names.programs p) (decimal (program_of m p).quota) (decimal (filled places p)) (decimal (slice_index_or received p 0)),
      )

  totals_short : length (text_of (totals_fields m places ∷ [])) ≤ 51
  totals_short =
      let all = t.all.short in
      let none = t.unmatched.short in
      let posts = t.posts.short in
      let free = t.free.short in
      omega (
        arith,
        length-append (line (totals_fields m places)) [],
        length-five (codes "totals") (decimal (applicants m)) (decimal (unmatched places)) (decimal (positions m)) (decimal (positions m - all_filled m places)),
      )

  couple_lines_short : (aside : List ℕ) → AreTellable names aside → (cs : List ℕ) → ((c : ℕ) → has cs c ≡ true → has aside c ≡ true)
      → length (text_of (map (aside_fields names) cs)) ≤ length cs * 71
  couple_lines_short aside are [] h = omega arith
  couple_lines_short aside are (c ∷ cs) h =
      let rest = couple_lines_short aside are cs (λ d is. h d (or_right (c == d) (has cs d) is)) in
      let id = id_short 64 (name_of names.couples c) (id_at names.couples c are.couple_ids (are.within c (h c (here c (has cs c))))) in
      omega (arith, length-append (line (aside_fields names c)) (text_of (map (aside_fields names) cs)), length-two (codes "aside") (name_of names.couples c))
    where
      here : (c : ℕ) (b : Bool) → (c == c || b) ≡ true
      here c b = grind (arith, nat_tests)

  pub text_short : (version : Bytes) (aside : List ℕ) → length version ≡ 1 → AreTellable names aside
      → length (text_of (rows_with version m names places received aside)) ≤ 69 + applicants m * 140 + length m.programs * 106 + length aside * 71
  text_short version aside one are =
      let first : List (List Bytes) = map (applicant_fields names places) (below (applicants m)) in
      let second : List (List Bytes) = map (program_fields m names places received) (below (length m.programs)) in
      let third : List (List Bytes) = map (aside_fields names) aside in
      let last : List (List Bytes) = totals_fields m places ∷ [] in
      let head : length (line (head_fields version)) ≡ 18 = omega (arith, one, length-three (codes "match") version (codes "published")) in
      let of_first : length (text_of first) ≤ applicants m * 140 = lines_at_most (applicant_fields names places) 140 0 (applicants m) (applicants m) (omega arith) applicant_line_short in
      let of_second : length (text_of second) ≤ length m.programs * 106 =
      lines_at_most (program_fields m names places received) 106 0 (length m.programs) (length m.programs) (omega arith) program_line_short in
      let of_third : length (text_of third) ≤ length aside * 71 = couple_lines_short aside are aside (λ c is. is) in
      let of_last : length (text_of last) ≤ 51 = totals_short in
      let whole : text_of (first ++ (second ++ (third ++ last))) ≡ text_of first ++ (text_of second ++ (text_of third ++ text_of last)) =
      flat_map-append line first (second ++ (third ++ last))
      ∙ ap (λ (rest : List ℕ). text_of first ++ rest)
      (flat_map-append line second (third ++ last) ∙ ap (λ (rest : List ℕ). text_of second ++ rest) (flat_map-append line third last)) in
      let rows : List (List Bytes) = first ++ (second ++ (third ++ last)) in
      let all : length (text_of rows) ≡ length (text_of first) + (length (text_of second) + (length (text_of third) + length (text_of last))) =
      ap length whole ∙ length-append (text_of first) (text_of second ++ (text_of third ++ text_of last))
      ∙ ap (λ (n : ℕ). length (text_of first) + n)
      (length-append (text_of second) (text_of third ++ text_of last) ∙ ap (λ (n : ℕ). length (text_of second) + n) (length-append (text_of third) (text_of last))) in
      omega (arith, length-append (line (head_fields version)) (text_of rows))
