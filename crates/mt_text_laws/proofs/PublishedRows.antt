-- A published text is the text of these rows: the head, a row for each applicant, a row for each program, a row for each
-- couple that is set aside, the totals.
-- Each of their fields has the bytes of ids alone, and a published number has ten digits at most.
use Rattle.std.proofs.Common.{◌≡◌, ℕ, zero, suc, ◌+◌, ◌-◌, ◌^◌, ◌<◌, ◌≤◌, List, [], ◌∷◌, ◌++◌, length, map, get_or, Bool, true, false, not, ◌==◌, ◌&&◌, ◌||◌, nat_lt, nat_le, Option, Some, None, refl, sym, ap, ◌∙◌, append_assoc, arith, append-nil, lt-ltb}
use Rattle.std.specs.Prelude.{bytes_eq, codes, decimal, slice_index_or}
use Rattle.std.specs.Char.{is_ascii_digit}
use Rattle.std.specs.List.{list_all, range_with_len}
use Rattle.std.specs.Str.Parse.{AllDigits}
use Rattle.std.proofs.lemmas.Bool.{and_parts, and_from, false≢true, le-leb, or_right}
use Rattle.std.proofs.lemmas.Bool.Decides.{nat_tests}
use Rattle.std.proofs.lemmas.Fmt.{decimal_digit, decimal_is_IsNumeral, first_decimal, length-decimal-le}
use Rattle.std.proofs.lemmas.Str.Parse.{digit_from_value}
use Rattle.std.proofs.lemmas.List.Concat.{flat_map-append}
use Rattle.std.proofs.lemmas.List.Folds.{flat_map-map, list_all-append}
use Rattle.mt_terms.proofs.IdFacts.{id_short}
use Rattle.mt_match_file.specs.Submitted.{has_leading_zero, is_number, number}
use Rattle.mt_terms.specs.Lists.{below, has, is_distinct}
use Rattle.mt_terms.specs.Market.{Market, Names, applicants, program_of}
use Rattle.mt_terms.specs.Matching.{Places, filled, place_of}
use Rattle.mt_terms.specs.Registration.Ids.{Bytes, all_differ, is_dash, is_id, is_id_byte}
use Rattle.mt_terms.specs.Text.{all_filled, applicant_lines, line, program_lines, totals_line, name_of, place_text, positions, published, unmatched}
use Rattle.mt_report.specs.Aside.{aside_lines}
use Rattle.mt_text_laws.proofs.LineTexts.{is_plain, is_plain_row, text_of}

-- the digits of a number stand in ids
digits_plain : (ds : List ℕ) → AllDigits 10 ds → (list_all is_ascii_digit ds ≡ true) × (list_all is_id_byte ds ≡ true)
digits_plain [] h = (refl, refl)
digits_plain (c ∷ ds) h =
    let range = digit_from_value c h.0 in
    let low : nat_le 48 c ≡ true = le-leb 48 c (omega arith) in
    let high : nat_le c 57 ≡ true = le-leb c 57 (omega arith) in
    let rest = digits_plain ds h.1 in
    (rw (low, high) rest.0, rw (low, high) rest.1)

-- only zero itself begins with a zero
no_zero_first : (n : ℕ) → n < 2 ^ 64 → has_leading_zero (decimal n) ≡ false
no_zero_first zero h = rw (decimal_digit 0 (omega arith)) refl
no_zero_first (suc n) h =
    let first : 48 < get_or (decimal (suc n)) 0 0 = first_decimal (suc n) (omega arith) h in
    by (decimal (suc n)) first
  where
    by : (ds : List ℕ) → 48 < get_or ds 0 0 → has_leading_zero ds ≡ false
    by [] k = refl
    by (c ∷ ds) k = let other : (c == 48) ≡ false = grind (arith, nat_tests) in and_false (nat_lt 1 (length (c ∷ ds))) (c == 48) other
      where
        and_false : (a b : Bool) → b ≡ false → (a && b) ≡ false
        and_false true b e = e
        and_false false b e = refl

-- a published number is read as itself
pub record IsTold (n : ℕ) : Type 0 where
  pub plain : is_plain (decimal n) ≡ true
  pub is_number : is_number (decimal n) ≡ true
  pub same : number (decimal n) ≡ n
  pub short : length (decimal n) ≤ 10

pub is_told : (n : ℕ) → n < 10 ^ 10 → IsTold n
is_told n h =
    let small : n < 2 ^ 64 = omega arith in
    let numeral = decimal_is_IsNumeral n small in
    let digits = digits_plain (decimal n) numeral.0.1 in
    let some : nat_lt 0 (length (decimal n)) ≡ true = lt-ltb 0 (length (decimal n)) numeral.0.0 in
    let short : length (decimal n) ≤ 10 = length-decimal-le 10 n (omega arith) h small in
    record {
      plain = and_from _ _ some digits.1;
      is_number = rw (some, le-leb (length (decimal n)) 10 short, digits.0, no_zero_first n small) refl;
      same = numeral.1;
      short = short;
    }

-- the rows of a published text
abbrev pub applicant_fields : Names → Places → ℕ → List Bytes
applicant_fields names places a = codes "applicant" ∷ name_of names.applicants a ∷ place_text names (place_of places a) ∷ []

abbrev pub program_fields : Market → Names → Places → List ℕ → ℕ → List Bytes
program_fields m names places received p =
    codes "program" ∷ name_of names.programs p ∷ decimal (program_of m p).quota ∷ decimal (filled places p) ∷ decimal (slice_index_or received p 0) ∷ []

abbrev pub totals_fields : Market → Places → List Bytes
totals_fields m places =
    codes "totals" ∷ decimal (applicants m) ∷ decimal (unmatched places) ∷ decimal (positions m) ∷ decimal (positions m - all_filled m places) ∷ []

abbrev pub aside_fields : Names → ℕ → List Bytes
aside_fields names c = codes "aside" ∷ name_of names.couples c ∷ []

abbrev pub head_fields : Bytes → List Bytes
head_fields version = codes "match" ∷ version ∷ codes "published" ∷ []

-- the rows of a text of this version that sets these couples aside
abbrev pub rows_with : Bytes → Market → Names → Places → List ℕ → List ℕ → List (List Bytes)
rows_with version m names places received aside =
    head_fields version
    ∷ (map (applicant_fields names places) (below (applicants m))
    ++ (map (program_fields m names places received) (below (length m.programs)) ++ (map (aside_fields names) aside ++ totals_fields m places ∷ [])))

-- the text, whose rows these are
abbrev pub text_with : Bytes → Market → Names → Places → List ℕ → List ℕ → List ℕ
text_with version m names places received aside =
    line (head_fields version)
    ++ applicant_lines m names places ++ program_lines m names places received ++ aside_lines names aside ++ totals_line m places

regrouped : (h a p s t b q u v : List ℕ) → a ≡ b → p ≡ q → s ≡ u → t ≡ v → h ++ a ++ p ++ s ++ t ≡ h ++ (b ++ (q ++ (u ++ v)))
regrouped h a p s t b q u v first second third last = rw (first, second, third, last) (simp append_assoc)

pub text_is_rows : (version : Bytes) (m : Market) (names : Names) (places : Places) (received aside : List ℕ)
    → text_with version m names places received aside ≡ text_of (rows_with version m names places received aside)
text_is_rows version m names places received aside =
    let first : List (List Bytes) = map (applicant_fields names places) (below (applicants m)) in
    let second : List (List Bytes) = map (program_fields m names places received) (below (length m.programs)) in
    let third : List (List Bytes) = map (aside_fields names) aside in
    let last : List (List Bytes) = totals_fields m places ∷ [] in
    let applicants_are : applicant_lines m names places ≡ text_of first = sym (flat_map-map line (applicant_fields names places) (below (applicants m))) in
    let programs_are : program_lines m names places received ≡ text_of second = sym (flat_map-map line (program_fields m names places received) (below (length m.programs))) in
    let aside_are : aside_lines names aside ≡ text_of third = sym (flat_map-map line (aside_fields names) aside) in
    let totals_are : totals_line m places ≡ text_of last = sym (append-nil (line (totals_fields m places))) in
    let whole : text_of (first ++ (second ++ (third ++ last))) ≡ text_of first ++ (text_of second ++ (text_of third ++ text_of last)) =
    flat_map-append line first (second ++ (third ++ last))
    ∙ ap (λ (rest : List ℕ). text_of first ++ rest)
    (flat_map-append line second (third ++ last) ∙ ap (λ (rest : List ℕ). text_of second ++ rest) (flat_map-append line third last)) in
    regrouped (line (head_fields version)) (applicant_lines m names places) (program_lines m names places received) (aside_lines names aside) (totals_line m places)
    (text_of first) (text_of second) (text_of third) (text_of last) applicants_are programs_are aside_are totals_are
    ∙ ap (λ (rest : List ℕ). line (head_fields version) ++ rest) (sym whole)

-- a text without such couples is that of version 1
pub published_is_text : (m : Market) (names : Names) (places : Places) (received : List ℕ)
    → published m names places received ≡ text_with (codes "1") m names places received []
published_is_text m names places received =
    ap (λ (front : List ℕ). front ++ totals_line m places)
    (sym (append-nil (line (head_fields (codes "1")) ++ applicant_lines m names places ++ program_lines m names places received)))

-- ids, dashes and such numbers are plain
id_parts : (id : Bytes) → is_id 64 id ≡ true
    → (nat_lt 0 (length id) ≡ true) × (nat_le (length id) 64 ≡ true) × (list_all is_id_byte id ≡ true) × (not (is_dash id) ≡ true)
id_parts id h =
    let some = nat_lt 0 (length id) in
    let short = nat_le (length id) 64 in
    let bytes = list_all is_id_byte id in
    let all = and_parts (some && short && bytes) (not (is_dash id)) h in
    let three = and_parts (some && short) bytes all.0 in
    let two = and_parts some short three.0 in
    (two.0, two.1, three.1, all.1)

pub id_plain : (id : Bytes) → is_id 64 id ≡ true → is_plain id ≡ true
id_plain id h = let parts = id_parts id h in and_from (nat_lt 0 (length id)) (list_all is_id_byte id) parts.0 parts.2

pub id_no_dash : (id : Bytes) → is_id 64 id ≡ true → is_dash id ≡ false
id_no_dash id h = by (is_dash id) (id_parts id h).3
  where
    by : (b : Bool) → not b ≡ true → b ≡ false
    by true k = cc
    by false k = refl

pub id_at : (ids : List Bytes) (i : ℕ) → list_all (is_id 64) ids ≡ true → i < length ids → is_id 64 (get_or ids i []) ≡ true
id_at [] i h lt = absurd (omega arith)
id_at (id ∷ ids) zero h lt = (and_parts (is_id 64 id) _ h).0
id_at (id ∷ ids) (suc i) h lt = id_at ids i (and_parts (is_id 64 id) _ h).1 (omega arith)

-- What is asked of a match so that its text can be read back.
pub record IsTellable (m : Market) (names : Names) (places : Places) (received : List ℕ) : Type 0 where
  pub one_each : length places ≡ applicants m
  pub within : (a p : ℕ) → place_of places a ≡ Some p → p < length m.programs
  pub applicant_each : length names.applicants ≡ applicants m
  pub program_each : length names.programs ≡ length m.programs
  pub applicant_ids : list_all (is_id 64) names.applicants ≡ true
  pub program_ids : list_all (is_id 64) names.programs ≡ true
  pub quota : (p : ℕ) → IsTold (program_of m p).quota
  pub placed : (p : ℕ) → IsTold (filled places p)
  pub proposed : (p : ℕ) → IsTold (slice_index_or received p 0)
  pub all : IsTold (applicants m)
  pub unmatched : IsTold (unmatched places)
  pub posts : IsTold (positions m)
  pub free : IsTold (positions m - all_filled m places)

-- What is asked of couples that are set aside, so that they can be read back.
pub record AreTellable (names : Names) (aside : List ℕ) : Type 0 where
  pub distinct : is_distinct aside ≡ true
  pub within : (c : ℕ) → has aside c ≡ true → c < length names.couples
  pub couple_ids : list_all (is_id 64) names.couples ≡ true
  pub couples_differ : all_differ bytes_eq names.couples ≡ true

-- no couple is set aside
pub none_tellable : (names : Names) → list_all (is_id 64) names.couples ≡ true → all_differ bytes_eq names.couples ≡ true → AreTellable names []
none_tellable names ids differ = record { distinct = refl; within = λ c is. absurd (false≢true is); couple_ids = ids; couples_differ = differ }

couples_plain : (names : Names) (aside : List ℕ) → AreTellable names aside → (cs : List ℕ) → ((c : ℕ) → has cs c ≡ true → has aside c ≡ true)
    → list_all is_plain_row (map (aside_fields names) cs) ≡ true
couples_plain names aside are [] h = refl
couples_plain names aside are (c ∷ cs) h =
    let id = id_plain (name_of names.couples c) (id_at names.couples c are.couple_ids (are.within c (h c (here c (has cs c))))) in
    rw id (couples_plain names aside are cs (λ d is. h d (or_right (c == d) (has cs d) is)))
  where
    here : (c : ℕ) (b : Bool) → (c == c || b) ≡ true
    here c b = grind (arith, nat_tests)

module _ (m : Market) (names : Names) (places : Places) (received : List ℕ) (t : IsTellable m names places received) where
  pub place_plain : (o : Option ℕ) → ((p : ℕ) → o ≡ Some p → p < length m.programs) → (is_plain (place_text names o) ≡ true) × (length (place_text names o) ≤ 64)
  place_plain None h = (refl, omega arith)
  place_plain (Some p) h =
      let lt : p < length names.programs = omega (arith, h p refl, t.program_each) in
      let id = id_at names.programs p t.program_ids lt in
      (id_plain (name_of names.programs p) id, id_short 64 (name_of names.programs p) id)

  applicant_plain : (a : ℕ) → a < applicants m → is_plain_row (applicant_fields names places a) ≡ true
  applicant_plain a lt =
      let id = id_plain (name_of names.applicants a) (id_at names.applicants a t.applicant_ids (omega (arith, t.applicant_each))) in
      let place = (place_plain (place_of places a) (t.within a)).0 in
      rw (id, place) refl

  program_plain : (p : ℕ) → p < length m.programs → is_plain_row (program_fields m names places received p) ≡ true
  program_plain p lt =
      let id = id_plain (name_of names.programs p) (id_at names.programs p t.program_ids (omega (arith, t.program_each))) in
      rw (id, (t.quota p).plain, (t.placed p).plain, (t.proposed p).plain) refl

  each_plain : (f : ℕ → List Bytes) (a n end : ℕ) → a + n ≤ end → ((k : ℕ) → k < end → is_plain_row (f k) ≡ true) → list_all is_plain_row (map f (range_with_len a n)) ≡ true
  each_plain f a zero end le h = refl
  each_plain f a (suc n) end le h = rw (h a (omega arith)) (each_plain f (a + 1) n end (omega arith) h)

  pub rows_plain : (version : Bytes) (aside : List ℕ) → is_plain version ≡ true → AreTellable names aside
      → list_all is_plain_row (rows_with version m names places received aside) ≡ true
  rows_plain version aside plain are =
      let first : List (List Bytes) = map (applicant_fields names places) (below (applicants m)) in
      let second : List (List Bytes) = map (program_fields m names places received) (below (length m.programs)) in
      let third : List (List Bytes) = map (aside_fields names) aside in
      let last : List (List Bytes) = totals_fields m places ∷ [] in
      let ends : list_all is_plain_row last ≡ true = rw (t.all.plain, t.unmatched.plain, t.posts.plain, t.free.plain) refl in
      let couples : list_all is_plain_row (third ++ last) ≡ true =
      list_all-append is_plain_row third last ∙ and_from _ _ (couples_plain names aside are aside (λ c is. is)) ends in
      let programs : list_all is_plain_row (second ++ (third ++ last)) ≡ true =
      list_all-append is_plain_row second (third ++ last)
      ∙ and_from _ _ (each_plain (program_fields m names places received) 0 (length m.programs) (length m.programs) (omega arith) program_plain) couples in
      let all : list_all is_plain_row (first ++ (second ++ (third ++ last))) ≡ true =
      list_all-append is_plain_row first (second ++ (third ++ last))
      ∙ and_from _ _ (each_plain (applicant_fields names places) 0 (applicants m) (applicants m) (omega arith) applicant_plain) programs in
      rw plain all
