-- Fields of a list that are looked up together, and their places.
use Rattle.std.proofs.Common.{◌≡◌, ℕ, ◌+◌, ◌-◌, ◌<◌, ◌≤◌, List, [], ◌∷◌, ◌++◌, length, map, take, drop, get_or, set, Option, None, ap, ap₂, sym, ◌∙◌, arith}
use Rattle.std.specs.Borrow.{Bor}
use Rattle.std.proofs.lemmas.List.{append_assoc, map-append, take_more, take_more_set, drop_more, get_or-take, get_or-map, length-map, length-take-le}
use Rattle.std.proofs.Math.Seq.{take-append-add}
use Rattle.mt_terms.specs.Registration.Ids.{Bytes}
use Rattle.mt_numbered.specs.Batches.{place_among}

-- what is left of fields from a place on, and after them
abbrev pub left_from : ℕ → ℕ → List (Bor Bytes) → List Bytes → List Bytes
left_from i count fields rest = map (λ f. f.now) (drop i (take count fields)) ++ rest

-- the first of what is left, before some fields were taken and after
pub first_left : (fields : List (Bor Bytes)) (count left : ℕ) (all rest : List Bytes) → count ≤ left → count ≤ length fields → all ≡ map (λ f. f.now) (take count fields) ++ rest
    → take left all ≡ left_from 0 count fields (take (left - count) rest)
first_left fields count left all rest h long is =
    let taken = map (λ (f : Bor Bytes). f.now) (take count fields) in
    let same : left ≡ length taken + (left - count) = omega (arith, h, length-map (take count fields) (λ (f : Bor Bytes). f.now), length-take-le count fields long) in
    ap (take left) is ∙ ap (λ (n : ℕ). take n (taken ++ rest)) same ∙ take-append-add taken rest (left - count)

-- fields with one more
pub fields-more : (fields : List (Bor Bytes)) (count : ℕ) (field : Bor Bytes) (left rest : List Bytes) → count < length fields → left ≡ field.now ∷ rest
    → map (λ f. f.now) (take count fields) ++ left ≡ map (λ f. f.now) (take (count + 1) (set fields count field)) ++ rest
fields-more fields count field left rest h is =
    ap (λ (l : List Bytes). map (λ (f : Bor Bytes). f.now) (take count fields) ++ l) is
    ∙ sym (append_assoc (map (λ (f : Bor Bytes). f.now) (take count fields)) (field.now ∷ []) rest)
    ∙ ap (λ (l : List Bytes). l ++ rest) (sym (map-append (λ (f : Bor Bytes). f.now) (take count fields) (field ∷ [])))
    ∙ ap (λ (l : List (Bor Bytes)). map (λ (f : Bor Bytes). f.now) l ++ rest) (sym (take_more_set fields count field h))

-- places with one more
pub places-more : (ids : List Bytes) (fields : List (Bor Bytes)) (places : List (Option ℕ)) (i : ℕ) (d : Bor Bytes) (place : Option ℕ) → i < length fields → i < length places
    → place ≡ place_among ids (get_or fields i d).now → take i places ≡ map (λ f. place_among ids f.now) (take i fields) → take (i + 1) (set places i place) ≡ map (λ f. place_among ids f.now) (take (i + 1) fields)
places-more ids fields places i d place h k found is =
    take_more_set places i place k
    ∙ ap₂ (λ (l : List (Option ℕ)) (p : Option ℕ). l ++ p ∷ []) is found
    ∙ sym (ap (map (λ (f : Bor Bytes). place_among ids f.now)) (take_more fields i d h) ∙ map-append (λ (f : Bor Bytes). place_among ids f.now) (take i fields) (get_or fields i d ∷ []))

-- The next of some fields that were looked up, and its place.
pub record NextField (ids : List Bytes) (fields : List (Bor Bytes)) (places : List (Option ℕ)) (i count : ℕ) (rest : List Bytes) : Type 0 where
  pub field : Bytes
  pub steps : left_from i count fields rest ≡ field ∷ left_from (i + 1) count fields rest
  pub found : get_or places i None ≡ place_among ids field

pub next_field : {ids : List Bytes} {fields : List (Bor Bytes)} {places : List (Option ℕ)} {i count : ℕ} (rest : List Bytes) → i < count → count ≤ 16 → length fields ≡ 16
    → take (length (take count fields)) places ≡ map (λ f. place_among ids f.now) (take count fields) → NextField ids fields places i count rest
next_field {fields = []} rest h few wide is = absurd (omega (arith, wide))
next_field {ids} {fields = f ∷ fs} {places} {i} {count} rest h few wide is =
    let fields = f ∷ fs in
    let long = length-take-le count fields (omega (arith, few, wide)) in
    let at = get_or-take count fields i f h in record {
      field = (get_or fields i f).now;
      steps = ap (λ (l : List (Bor Bytes)). map (λ (f : Bor Bytes). f.now) l ++ rest) (drop_more (take count fields) i f (omega (arith, h, long)))
          ∙ ap (λ (f : Bor Bytes). f.now ∷ left_from (i + 1) count fields rest) at;
      found = sym (get_or-take count places i None h)
          ∙ ap (λ (n : ℕ). get_or (take n places) i None) (sym long)
          ∙ ap (λ (l : List (Option ℕ)). get_or l i None) is
          ∙ get_or-map (λ (f : Bor Bytes). place_among ids f.now) (take count fields) i f None (omega (arith, h, long))
          ∙ ap (λ (f : Bor Bytes). place_among ids f.now) at;
    }
