-- Rows in one list, as elements and spans change.
use Rattle.std.proofs.Common.{◌≡◌, ◌≢◌, ◌∙◌, ℕ, zero, suc, ◌+◌, ◌-◌, ◌<◌, ◌≤◌, ◌⊎◌, inl, inr, List, [], ◌∷◌, ◌++◌, map, take, drop, length, get_or, set, refl, ap, ap₂, sym, subst, arith, length-append, replicate, Result, Ok, Err, OnErr}
use Rattle.std.specs.Prelude.{slice_range}
use Rattle.std.proofs.lemmas.Bool.{cases_eq, cases_lt}
use Rattle.std.proofs.lemmas.Grind.{common_steps}
use Rattle.std.proofs.lemmas.List.{drop_at, drop-set-add, drop-set-lt, get_or-map, get_or-set_other, get_or-set_same, get_or_append_left, get_or_push, length-map, length-set, length_push, map_push, same_lists, take_all, take-set-le}
use Rattle.std.proofs.lemmas.List.Edits.{between_more}
use Rattle.std.proofs.lemmas.Slice.{between_to_end}
use Rattle.mt_flat.specs.GrowingLists.{row_in, span_at, AreApart, AreSpans, IsSpan}
use Rattle.mt_flat.specs.declared.growing_lists.Span.{Span}

-- what holds in any case holds if nothing was added
pub on_err : {T E : Type 0} {P : Type 0} (r : Result T E) → P → OnErr r P
on_err (Ok x) holds = tt
on_err (Err e) holds = holds

-- a part is as it was after elements were added behind it
pub range_append : {X : Type 0} (xs ys : List X) (a b : ℕ) → a ≤ b → b ≤ length xs → slice_range (xs ++ ys) a b ≡ slice_range xs a b
range_append xs ys a b h i = grind (arith, common_steps)

-- and after one was written outside it
pub range_set_other : {X : Type 0} (xs : List X) (i : ℕ) (x : X) (a b : ℕ) → a ≤ b → (i < a) ⊎ (b ≤ i) → slice_range (set xs i x) a b ≡ slice_range xs a b
range_set_other xs i x a b h (inl before) = ap (take (b - a)) (drop-set-lt a xs i x before)
range_set_other xs i x a b h (inr after) =
    let place : a + (i - a) ≡ i = omega arith in
    ap (λ j. take (b - a) (drop a (set xs j x))) (sym place) ∙ ap (take (b - a)) (drop-set-add a xs (i - a) x) ∙ take-set-le (b - a) (drop a xs) (i - a) x (omega arith)

take_set : {X : Type 0} (n : ℕ) (xs : List X) (i : ℕ) (x : X) → i < n → take n (set xs i x) ≡ set (take n xs) i x
take_set zero xs i x h = absurd (omega arith)
take_set (suc n) [] i x h = refl
take_set (suc n) (y ∷ ys) zero x h = refl
take_set (suc n) (y ∷ ys) (suc i) x h = ap (λ zs. y ∷ zs) (take_set n ys i x (omega arith))

pub range_set_here : {X : Type 0} (xs : List X) (i : ℕ) (x : X) (a b : ℕ) → a + i < b → slice_range (set xs (a + i) x) a b ≡ set (slice_range xs a b) i x
range_set_here xs i x a b h = ap (take (b - a)) (drop-set-add a xs i x) ∙ take_set (b - a) (drop a xs) i x (omega arith)

-- a part with the element behind it, which was written
pub range_push : {X : Type 0} (xs : List X) (x : X) (a b : ℕ) → a ≤ b → b < length xs → slice_range (set xs b x) a (b + 1) ≡ slice_range xs a b ++ x ∷ []
range_push xs x a b h within =
    between_more (set xs b x) a b x h (omega (arith, length-set xs b x))
    ∙ ap (λ ys. ys ++ get_or (set xs b x) b x ∷ []) (range_set_other xs b x a b h (inr (omega arith)))
    ∙ ap (λ y. slice_range xs a b ++ y ∷ []) (get_or-set_same xs b x x within)

-- the elements at the end
pub range_last : {X : Type 0} (xs ys : List X) (a b : ℕ) → a ≡ length xs → b ≡ length (xs ++ ys) → slice_range (xs ++ ys) a b ≡ ys
range_last xs ys a b start end = between_to_end (xs ++ ys) a b (omega arith) ∙ drop_at xs ys a (sym start)

-- the same before others
pub range_end : {X : Type 0} (xs ys zs : List X) (a b : ℕ) → a ≡ length xs → b ≡ length (xs ++ ys) → slice_range ((xs ++ ys) ++ zs) a b ≡ ys
range_end xs ys zs a b start end =
    range_append (xs ++ ys) zs a b (omega (arith, length-append xs ys)) (omega arith) ∙ range_last xs ys a b start end

-- a row among all
pub row_at : {X : Type 0} (xs : List X) (spans : List Span) (k : ℕ) → k < length spans → get_or (map (row_in xs) spans) k [] ≡ row_in xs (span_at spans k)
row_at xs spans k h = get_or-map (row_in xs) spans k _ [] h

pub row_count : {X : Type 0} (xs : List X) (spans : List Span) (rows : List (List X)) → map (row_in xs) spans ≡ rows → length spans ≡ length rows
row_count {X} xs spans rows are = sym (length-map spans (row_in xs)) ∙ ap (λ (rs : List (List X)). length rs) are

-- what is in the room of one row isn't in another row
pub clear_of : (n : ℕ) (spans : List Span) (j k i : ℕ) → AreSpans n spans → j < length spans → k < length spans → j ≢ k → (span_at spans k).start ≤ i → i < (span_at spans k).limit
    → (i < (span_at spans j).start) ⊎ ((span_at spans j).end ≤ i)
clear_of n spans j k i are h within ne low high =
    let is = are.each j h in
    elim (are.apart j k h within ne) [
      | inl before ↦ inr (let a = is.roomy in omega arith)
      | inr after ↦ inl (omega arith)
    ]

-- one row changes
pub rows_changed : {X : Type 0} (xs ys : List X) (spans : List Span) (k : ℕ) (w : Span) (row : List X) → k < length spans → row_in ys w ≡ row
    → ((j : ℕ) → j < length spans → j ≢ k → row_in ys (span_at spans j) ≡ row_in xs (span_at spans j)) → map (row_in ys) (set spans k w) ≡ set (map (row_in xs) spans) k row
rows_changed {X} xs ys spans k w row within is others =
    same_lists (map (row_in ys) (set spans k w)) (set (map (row_in xs) spans) k row) lengths at
  where
    lengths : length (map (row_in ys) (set spans k w)) ≡ length (set (map (row_in xs) spans) k row)
    lengths = length-map (set spans k w) (row_in ys) ∙ length-set spans k w ∙ sym (length-set (map (row_in xs) spans) k row ∙ length-map spans (row_in xs))

    at : (j : ℕ) (d : List X) → j < length (map (row_in ys) (set spans k w)) → get_or (map (row_in ys) (set spans k w)) j d ≡ get_or (set (map (row_in xs) spans) k row) j d
    at j d h =
        let none : Span = record { start = 0; end = 0; limit = 0 } in
        let low : j < length spans = omega (arith, length-map (set spans k w) (row_in ys), length-set spans k w) in
        let low_set : j < length (set spans k w) = omega (arith, length-set spans k w) in
        get_or-map (row_in ys) (set spans k w) j none d low_set ∙ elim (cases_eq j k) [
          | inl same ↦
              ap (λ i. row_in ys (get_or (set spans k w) i none)) same ∙ ap (row_in ys) (get_or-set_same spans k w none within) ∙ is
              ∙ sym (get_or-set_same (map (row_in xs) spans) k row d (omega (arith, length-map spans (row_in xs)))) ∙ ap (λ i. get_or (set (map (row_in xs) spans) k row) i d) (sym same)
          | inr other ↦
              ap (row_in ys) (get_or-set_other spans k j w none other) ∙ others j low other
              ∙ sym (get_or-map (row_in xs) spans j none d low) ∙ sym (get_or-set_other (map (row_in xs) spans) k j row d other)
        ]

-- all rows are as they were
pub rows_kept : {X : Type 0} (xs ys : List X) (spans : List Span) → ((j : ℕ) → j < length spans → row_in ys (span_at spans j) ≡ row_in xs (span_at spans j))
    → map (row_in ys) spans ≡ map (row_in xs) spans
rows_kept {X} xs ys spans same =
    same_lists (map (row_in ys) spans) (map (row_in xs) spans) (length-map spans (row_in ys) ∙ sym (length-map spans (row_in xs))) (λ j d h.
    let none : Span = record { start = 0; end = 0; limit = 0 } in
    let low : j < length spans = omega (arith, length-map spans (row_in ys)) in
    get_or-map (row_in ys) spans j none d low ∙ same j low ∙ sym (get_or-map (row_in xs) spans j none d low))

-- spans, as there are more elements
pub span_grown : (n m : ℕ) (w : Span) → IsSpan n w → n ≤ m → IsSpan m w
span_grown n m w is more = record { ordered = is.ordered; roomy = is.roomy; within = (let h = is.within in omega arith) }

pub spans_grown : (n m : ℕ) (spans : List Span) → AreSpans n spans → n ≤ m → AreSpans m spans
spans_grown n m spans are more = record { each = λ k h. span_grown n m (span_at spans k) (are.each k h) more; apart = are.apart }

-- one span changes
pub spans_changed : (n m : ℕ) (spans : List Span) (k : ℕ) (w : Span) → AreSpans n spans → n ≤ m → k < length spans → IsSpan m w
    → ((j : ℕ) → j < length spans → j ≢ k → AreApart (span_at spans j) w) → AreSpans m (set spans k w)
spans_changed n m spans k w are more within is clear = record {
  each = λ j h. elim (cases_eq j k) [
    | inl same ↦ subst (IsSpan m) (sym (at_same j same)) is
    | inr other ↦ subst (IsSpan m) (sym (at_other j other)) (span_grown n m (span_at spans j) (are.each j (low j h)) more)
  ];
  apart = λ i j h l ne. elim (cases_eq i k) [
    | inl i_is ↦
        (let other : j ≢ k = (λ j_is. ne (i_is ∙ sym j_is)) in
        subst (λ v. AreApart v (span_at (set spans k w) j)) (sym (at_same i i_is)) (subst (AreApart w) (sym (at_other j other)) (turned (span_at spans j) w (clear j (low j l) other))))
    | inr i_other ↦ subst (λ v. AreApart v (span_at (set spans k w) j)) (sym (at_other i i_other)) (elim (cases_eq j k) [
      | inl j_is ↦ subst (AreApart (span_at spans i)) (sym (at_same j j_is)) (clear i (low i h) i_other)
      | inr j_other ↦ subst (AreApart (span_at spans i)) (sym (at_other j j_other)) (are.apart i j (low i h) (low j l) ne)
    ])
  ];
}
  where
    low : (j : ℕ) → j < length (set spans k w) → j < length spans
    low j h = omega (arith, length-set spans k w)

    at_same : (j : ℕ) → j ≡ k → span_at (set spans k w) j ≡ w
    at_same j same = ap (span_at (set spans k w)) same ∙ get_or-set_same spans k w _ within

    at_other : (j : ℕ) → j ≢ k → span_at (set spans k w) j ≡ span_at spans j
    at_other j other = get_or-set_other spans k j w _ other

    turned : (u v : Span) → AreApart u v → AreApart v u
    turned u v (inl h) = inr h
    turned u v (inr h) = inl h

-- a span more, behind all
pub spans_more : (n m : ℕ) (spans : List Span) (w : Span) → AreSpans n spans → n ≤ w.start → IsSpan m w → AreSpans m (spans ++ w ∷ [])
spans_more n m spans w are behind is = record {
  each = λ j h. elim (cases_lt j (length spans)) [
    | inl low ↦ subst (IsSpan m) (sym (at_low j low)) (span_grown n m (span_at spans j) (are.each j low) more)
    | inr high ↦ subst (IsSpan m) (sym (at_end j h high)) is
  ];
  apart = λ i j h l ne. elim (cases_lt i (length spans)) [
    | inl i_low ↦ subst (λ v. AreApart v (span_at (spans ++ w ∷ []) j)) (sym (at_low i i_low)) (elim (cases_lt j (length spans)) [
      | inl j_low ↦ subst (AreApart (span_at spans i)) (sym (at_low j j_low)) (are.apart i j i_low j_low ne)
      | inr j_high ↦ subst (AreApart (span_at spans i)) (sym (at_end j l j_high)) (inl (before i i_low))
    ])
    | inr i_high ↦ subst (λ v. AreApart v (span_at (spans ++ w ∷ []) j)) (sym (at_end i h i_high)) (elim (cases_lt j (length spans)) [
      | inl j_low ↦ subst (AreApart w) (sym (at_low j j_low)) (inr (before j j_low))
      | inr j_high ↦ (let same : i ≡ j = omega (arith, length_push spans w) in absurd (ne same))
    ])
  ];
}
  where
    more : n ≤ m
    more = (let a = is.ordered in let b = is.roomy in let c = is.within in omega arith)

    before : (j : ℕ) → j < length spans → (span_at spans j).limit ≤ w.start
    before j low = (let h = (are.each j low).within in omega arith)

    at_low : (j : ℕ) → j < length spans → span_at (spans ++ w ∷ []) j ≡ span_at spans j
    at_low j low = get_or_append_left spans (w ∷ []) _ j low

    at_end : (j : ℕ) → j < length (spans ++ w ∷ []) → length spans ≤ j → span_at (spans ++ w ∷ []) j ≡ w
    at_end j h high = get_or_push spans w _ j (omega (arith, length_push spans w))

-- copies of an element were added
pub resized : {X : Type 0} (xs ys : List X) (x : X) (size end count : ℕ) → ys ≡ take end xs ++ replicate (end - size) x → size ≡ length xs → end ≡ size + count → ys ≡ xs ++ replicate count x
resized {X} xs ys x size end count is size_is end_is =
    let many : end - size ≡ count = omega arith in
    is ∙ ap₂ (λ (zs : List X) n. zs ++ replicate n x) (take_all end xs (omega arith)) many

-- Below, elements were added behind all rows.
module _ {X : Type 0} (xs new ys : List X) (spans : List Span) (are : AreSpans (length xs) spans) (is : ys ≡ xs ++ new) where
  pub row_more : (j : ℕ) → j < length spans → row_in ys (span_at spans j) ≡ row_in xs (span_at spans j)
  row_more j h =
      let here = are.each j h in
      ap (λ zs. row_in zs (span_at spans j)) is
      ∙ range_append xs new (span_at spans j).start (span_at spans j).end here.ordered (let a = here.roomy in let b = here.within in omega arith)

  rows_more : map (row_in ys) spans ≡ map (row_in xs) spans
  rows_more = rows_kept xs ys spans row_more

  pub rows_as_before : (all : List Span) (rows : List (List X)) → map (row_in xs) spans ≡ rows → all ≡ spans → map (row_in ys) all ≡ rows
  rows_as_before all rows seen same = ap (map (row_in ys)) same ∙ rows_more ∙ seen

  -- They are a row of their own.
  pub row_pushed : (w : Span) (all : List Span) (rows : List (List X)) → map (row_in xs) spans ≡ rows → all ≡ spans ++ w ∷ [] → w.start ≡ length xs → w.end ≡ length ys
      → map (row_in ys) all ≡ rows ++ new ∷ []
  row_pushed w all rows seen more start end =
      ap (map (row_in ys)) more ∙ map_push (row_in ys) spans w
      ∙ ap₂ (λ (rs : List (List X)) (r : List X). rs ++ r ∷ []) (rows_more ∙ seen) (ap (λ zs. row_in zs w) is ∙ range_last xs new w.start w.end start (end ∙ ap length is))

  more : length xs ≤ length ys
  more = omega (arith, ap length is, length-append xs new)

  pub spans_as_before : (all : List Span) → all ≡ spans → AreSpans (length ys) all
  spans_as_before all same = subst (AreSpans (length ys)) (sym same) (spans_grown (length xs) (length ys) spans are more)

  pub spans_pushed : (w : Span) (all : List Span) → all ≡ spans ++ w ∷ [] → w.start ≡ length xs → w.end ≡ length ys → w.limit ≡ w.end → AreSpans (length ys) all
  spans_pushed w all added start end limit =
      subst (AreSpans (length ys)) (sym added)
      (spans_more (length xs) (length ys) spans w are (omega arith) (record { ordered = omega (arith, more); roomy = omega arith; within = omega arith }))

-- a row within its room has one element more
pub row_grown : {X : Type 0} (xs : List X) (spans : List Span) (rows : List (List X)) (k : ℕ) (x : X) (old w : Span) (end : ℕ)
    → map (row_in xs) spans ≡ rows → AreSpans (length xs) spans → k < length spans → old ≡ span_at spans k → w ≡ span_at spans k → old.end < old.limit → end ≡ old.end + 1
    → map (row_in (set xs old.end x)) (set spans k (record { start = w.start; end = end; limit = w.limit })) ≡ set rows k (get_or rows k [] ++ x ∷ [])
row_grown {X} xs spans rows k x old w end seen are many read again room next =
    let is = are.each k many in
    let row = get_or rows k [] ++ x ∷ [] in
    let row_is : get_or rows k [] ≡ row_in xs old = sym (ap (λ (rs : List (List X)). get_or rs k []) seen) ∙ row_at xs spans k many ∙ ap (row_in xs) (sym read) in
    let low : (span_at spans k).start ≤ old.end = omega (arith, is.ordered, ap Span.end read) in
    let high : old.end < (span_at spans k).limit = omega (arith, ap Span.limit read) in
    ap (λ n. map (row_in (set xs old.end x)) (set spans k (record { start = w.start; end = n; limit = w.limit }))) next
    ∙ ap (λ (v : Span). map (row_in (set xs old.end x)) (set spans k (record { start = v.start; end = old.end + 1; limit = v.limit }))) (again ∙ sym read)
    ∙ rows_changed xs (set xs old.end x) spans k (record { start = old.start; end = old.end + 1; limit = old.limit }) row many
    (range_push xs x old.start old.end (omega (arith, ap Span.start read)) (omega (arith, is.within)) ∙ ap (λ r. r ++ x ∷ []) (sym row_is))
    (λ j h ne.
    range_set_other xs old.end x (span_at spans j).start (span_at spans j).end (are.each j h).ordered (clear_of (length xs) spans j k old.end are h many ne low high))
    ∙ ap (λ (rs : List (List X)). set rs k row) seen
