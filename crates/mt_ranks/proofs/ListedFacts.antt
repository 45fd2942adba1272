-- How often programs list an applicant, and at what ranks.
use Rattle.std.proofs.Common.{◌≡◌, ◌≢◌, ℕ, suc, ◌+◌, ◌<◌, ◌≤◌, List, [], ◌∷◌, ◌++◌, true, false, eqb, IsTrue, not, length, get_or, set, map, drop, refl, sym, inl, inr, zero-add, ap, ◌∙◌, arith, length-append}
use Rattle.std.proofs.lemmas.Bool.{cases_Bool, eqb-true, eq-eqb, ne_eqb, cases_eq, or_parts, and_parts, not-true}
use Rattle.std.proofs.lemmas.Bool.Decides.{nat_tests}
use Rattle.std.proofs.lemmas.List.{drop_more, get_or-set_same, get_or-set_other, append_assoc, drop_all, get_or_read, length-set, at_drop_more, at_drop_all, append-nil, get_or-replicate, length-replicate}
use Rattle.std.proofs.lemmas.List.FromFn.{fill_by_all, get_or-map-range_with_len}
use Rattle.mt_terms.specs.Lists.{has, below, count, is_distinct}
use Rattle.mt_ranks.specs.Entries.{entries_in, entries_from, times_listed, IsCounted}
use Rattle.mt_ranks.specs.Rows.{Filling, empty_rows, row_of, HasRoom, IsEnteredFor, with_entry}
use Rattle.mt_ranks.specs.declared.entries.Live.{Live}

-- lists that name nobody twice
abbrev pub AreDistinct : List (List ℕ) → Type 0
AreDistinct lists = (p : ℕ) → IsTrue (is_distinct (get_or lists p []))

pub length-entries_in : (p rank : ℕ) (xs : List ℕ) (a : ℕ) → length (entries_in p rank xs a) ≡ count (λ x. eqb x a) xs
length-entries_in p rank [] a = refl
length-entries_in p rank (x ∷ xs) a = grind (arith, nat_tests, length-entries_in p (rank + 1) xs a)

pub length-entries_from : (p : ℕ) (rs : List (List ℕ)) (a : ℕ) → length (entries_from p rs a) ≡ times_listed rs a
length-entries_from p [] a = refl
length-entries_from p (r ∷ rs) a = omega (arith, length-append (entries_in p 0 r a) (entries_from (p + 1) rs a), length-entries_in p 0 r a, length-entries_from (p + 1) rs a)

-- what the rest of a list has of a number, with its first element and without
pub count_here : (xs : List ℕ) (i a : ℕ) → i < length xs → get_or xs i 0 ≡ a → count (λ x. eqb x a) (drop i xs) ≡ 1 + count (λ x. eqb x a) (drop (i + 1) xs)
count_here xs i a h e =
    let front : drop i xs ≡ get_or xs i 0 ∷ drop (i + 1) xs = drop_more xs i 0 h in
    rw front (rw (eq-eqb (get_or xs i 0) a e) refl)

pub count_elsewhere : (xs : List ℕ) (i a : ℕ) → i < length xs → (get_or xs i 0 ≡ a → ⊥) → count (λ x. eqb x a) (drop i xs) ≡ count (λ x. eqb x a) (drop (i + 1) xs)
count_elsewhere xs i a h e =
    let front : drop i xs ≡ get_or xs i 0 ∷ drop (i + 1) xs = drop_more xs i 0 h in
    rw front (rw (ne_eqb (get_or xs i 0) a e) (zero-add (count (λ x. eqb x a) (drop (i + 1) xs))))

-- Below, the element at i of a list of numbers is counted.
abbrev pub AreCounted : List ℕ → List ℕ → List ℕ → ℕ → Type 0
AreCounted counts start xs i = (a : ℕ) → a < length counts → get_or counts a 0 + count (λ x. eqb x a) (drop i xs) ≡ get_or start a 0 + count (λ x. eqb x a) xs

pub counted_here : (counts start xs : List ℕ) (i x : ℕ) → AreCounted counts start xs i → i < length xs → x ≡ get_or xs i x → x < length counts
    → get_or counts x 0 + 1 + count (λ y. eqb y x) (drop (i + 1) xs) ≡ get_or start x 0 + count (λ y. eqb y x) xs
counted_here counts start xs i x inv h at w = omega (arith, inv x w, count_here xs i x h (sym (get_or_read xs i x h at 0)))

pub counted_more : (counts start xs : List ℕ) (i x : ℕ) → AreCounted counts start xs i → i < length xs → x ≡ get_or xs i x → x < length counts
    → AreCounted (set counts x (get_or counts x 0 + 1)) start xs (i + 1)
counted_more counts start xs i x inv h at w a v =
    elim (cases_eq a x) as (λ o. get_or (set counts x (get_or counts x 0 + 1)) a 0 + count (λ y. eqb y a) (drop (i + 1) xs) ≡ get_or start a 0 + count (λ y. eqb y a) xs) [
      | inl e ↦ rw (e, get_or-set_same counts x (get_or counts x 0 + 1) 0 w) (counted_here counts start xs i x inv h at w)
      | inr ne ↦
          let within : a < length counts = omega (arith, length-set counts x (get_or counts x 0 + 1)) in
          omega (arith, inv a within, get_or-set_other counts x a (get_or counts x 0 + 1) 0 ne, count_elsewhere xs i a h (λ e. ne (sym e ∙ sym (get_or_read xs i x h at 0))))
    ]

-- the number of a list's elements that equal a is one at most if they are distinct
no_more : (xs : List ℕ) (a : ℕ) → has xs a ≡ false → count (λ x. eqb x a) xs ≡ 0
no_more [] a h = refl
no_more (x ∷ xs) a h =
    let parts : (eqb x a ≡ false) × (has xs a ≡ false) = or_parts (eqb x a) (has xs a) h in
    let rest : count (λ y. eqb y a) xs ≡ 0 = no_more xs a parts.1 in
    rw (parts.0, rest) refl

pub listed_once : (xs : List ℕ) (a : ℕ) → IsTrue (is_distinct xs) → count (λ x. eqb x a) xs ≤ 1
listed_once [] a h = omega arith
listed_once (x ∷ xs) a h =
    let parts : (not (has xs x) ≡ true) × (is_distinct xs ≡ true) = and_parts (not (has xs x)) (is_distinct xs) h in
    elim (cases_Bool (eqb x a)) as (λ o. count (λ y. eqb y a) (x ∷ xs) ≤ 1) [
      | inl is_a ↦
          let same : x ≡ a = eqb-true x a is_a in
          let rest : count (λ y. eqb y a) xs ≡ 0 = no_more xs a (rw same at (not-true (has xs x) parts.0)) in
          rw (is_a, rest) (omega arith)
      | inr other ↦ rw other (omega (arith, listed_once xs a parts.1))
    ]

pub times_listed_few : (rs : List (List ℕ)) (a : ℕ) → AreDistinct rs → times_listed rs a ≤ length rs
times_listed_few [] a h = omega arith
times_listed_few (r ∷ rs) a h = omega (arith, listed_once r a (h 0), times_listed_few rs a (λ p. h (suc p)))

pub times_listed-drop : (rs : List (List ℕ)) (p a : ℕ) → p < length rs → times_listed (drop p rs) a ≡ count (λ x. eqb x a) (get_or rs p []) + times_listed (drop (p + 1) rs) a
times_listed-drop rs p a h = at_drop_more (λ ls. times_listed ls a) rs p [] h

-- Below, the lists up to p are counted.
abbrev pub AreListed : List ℕ → List (List ℕ) → ℕ → Type 0
AreListed counts rs p = (a : ℕ) → a < length counts → get_or counts a 0 + times_listed (drop p rs) a ≡ times_listed rs a

pub listed_fits : (counts : List ℕ) (rs : List (List ℕ)) (p a : ℕ) → AreListed counts rs p → AreDistinct rs → p < length rs → a < length counts
    → get_or counts a 0 + count (λ x. eqb x a) (get_or rs p []) ≤ length rs
listed_fits counts rs p a inv d h i = omega (arith, inv a i, times_listed-drop rs p a h, times_listed_few rs a d)

pub listed_more : (counts new : List ℕ) (rs : List (List ℕ)) (p : ℕ) (ranking : List ℕ) → AreListed counts rs p → p < length rs → ranking ≡ get_or rs p []
    → length new ≡ length counts → IsCounted counts new ranking → AreListed new rs (p + 1)
listed_more counts new rs p ranking inv h at len counted a i =
    let within : a < length counts = omega arith in
    let here : count (λ x. eqb x a) ranking ≡ count (λ x. eqb x a) (get_or rs p []) = ap (count (λ x. eqb x a)) at in
    omega (arith, inv a within, counted a within, here, times_listed-drop rs p a h)

pub listed_all : (counts : List ℕ) (rs : List (List ℕ)) (p n : ℕ) → AreListed counts rs p → length rs ≤ p → length counts ≡ n → counts ≡ map (times_listed rs) (below n)
listed_all counts rs p n inv h e =
    fill_by_all (times_listed rs) counts n 0 e (λ a i. omega (arith, inv a (omega arith), at_drop_all (λ ls. times_listed ls a) rs p h))

-- Below, rows are of applicants from a number on. The entry at i of a program's list goes into the row of its applicant.
abbrev pub AreAdded : ℕ → Filling → Filling → ℕ → List ℕ → ℕ → Type 0
AreAdded from rows start p xs i = (k : ℕ) → k < length rows.lists → row_of rows k ++ entries_in p i (drop i xs) (from + k) ≡ row_of start k ++ entries_in p 0 xs (from + k)

entries_here : (p : ℕ) (xs : List ℕ) (i a : ℕ) → i < length xs → get_or xs i 0 ≡ a
    → entries_in p i (drop i xs) a ≡ record { program = p; rank = i } ∷ entries_in p (i + 1) (drop (i + 1) xs) a
entries_here p xs i a h e =
    let front : drop i xs ≡ get_or xs i 0 ∷ drop (i + 1) xs = drop_more xs i 0 h in
    rw front (rw (eq-eqb (get_or xs i 0) a e) refl)

entries_elsewhere : (p : ℕ) (xs : List ℕ) (i a : ℕ) → i < length xs → (get_or xs i 0 ≡ a → ⊥)
    → entries_in p i (drop i xs) a ≡ entries_in p (i + 1) (drop (i + 1) xs) a
entries_elsewhere p xs i a h e =
    let front : drop i xs ≡ get_or xs i 0 ∷ drop (i + 1) xs = drop_more xs i 0 h in
    rw front (rw (ne_eqb (get_or xs i 0) a e) refl)

-- Below, the applicant x at i is the one at j of the rows.
pub added_room : (from : ℕ) (rows start : Filling) (p : ℕ) (xs : List ℕ) (i x j : ℕ) → AreAdded from rows start p xs i → rows.sizes ≡ start.sizes → i < length xs → x ≡ get_or xs i x
    → from + j ≡ x → j < length rows.lists → HasRoom start j (count (λ y. eqb y (from + j)) xs) → HasRoom rows j 1
added_room from rows start p xs i x j inv s h at is w room =
    let read : get_or xs i 0 ≡ from + j = sym (get_or_read xs i x h at 0) ∙ sym is in
    let front : entries_in p i (drop i xs) (from + j) ≡ record { program = p; rank = i } ∷ entries_in p (i + 1) (drop (i + 1) xs) (from + j) = entries_here p xs i (from + j) h read in
    let all : length (row_of rows j ++ entries_in p i (drop i xs) (from + j)) ≡ length (row_of start j ++ entries_in p 0 xs (from + j)) = ap length (inv j w) in
    let same : get_or rows.sizes j 0 ≡ get_or start.sizes j 0 = ap (λ (l : List ℕ). get_or l j 0) s in
    omega (arith, room, all, same, ap length front, length-append (row_of rows j) (entries_in p i (drop i xs) (from + j)), length-append (row_of start j) (entries_in p 0 xs (from + j)), length-entries_in p 0 xs (from + j))

pub added_more : (from : ℕ) (rows start : Filling) (p : ℕ) (xs : List ℕ) (i x j : ℕ) → AreAdded from rows start p xs i → i < length xs → x ≡ get_or xs i x → from + j ≡ x → j < length rows.lists
    → AreAdded from (with_entry rows j (record { program = p; rank = i })) start p xs (i + 1)
added_more from rows start p xs i x j inv h at is w k v =
    let read : x ≡ get_or xs i 0 = get_or_read xs i x h at 0 in
    let within : k < length rows.lists = omega (arith, length-set rows.lists j (row_of rows j ++ record { program = p; rank = i } ∷ [])) in
    elim (cases_eq k j) as (λ o. row_of (with_entry rows j (record { program = p; rank = i })) k ++ entries_in p (i + 1) (drop (i + 1) xs) (from + k) ≡ row_of start k ++ entries_in p 0 xs (from + k)) [
      | inl e ↦
          let here : entries_in p i (drop i xs) (from + k) ≡ record { program = p; rank = i } ∷ entries_in p (i + 1) (drop (i + 1) xs) (from + k) =
          entries_here p xs i (from + k) h (omega (arith, read)) in
          let row : row_of (with_entry rows j (record { program = p; rank = i })) k ≡ row_of rows k ++ record { program = p; rank = i } ∷ [] =
          rw e (get_or-set_same rows.lists j (row_of rows j ++ record { program = p; rank = i } ∷ []) [] w) in
          rw row (append_assoc (row_of rows k) (record { program = p; rank = i } ∷ []) (entries_in p (i + 1) (drop (i + 1) xs) (from + k)) ∙ ap (λ es. row_of rows k ++ es) (sym here) ∙ inv k within)
      | inr ne ↦
          let elsewhere : entries_in p i (drop i xs) (from + k) ≡ entries_in p (i + 1) (drop (i + 1) xs) (from + k) =
          entries_elsewhere p xs i (from + k) h (λ e. ne (omega (arith, read, e))) in
          let row : row_of (with_entry rows j (record { program = p; rank = i })) k ≡ row_of rows k = get_or-set_other rows.lists j k (row_of rows j ++ record { program = p; rank = i } ∷ []) [] ne in
          rw row (ap (λ es. row_of rows k ++ es) (sym elsewhere) ∙ inv k within)
    ]

-- the applicant at i has no row here
pub added_none : (from : ℕ) (rows start : Filling) (p : ℕ) (xs : List ℕ) (i x n : ℕ) → AreAdded from rows start p xs i → i < length xs → x ≡ get_or xs i x → length rows.lists ≡ n
    → ((k : ℕ) → k < n → from + k ≢ x) → AreAdded from rows start p xs (i + 1)
added_none from rows start p xs i x n inv h at long past k w =
    let read : x ≡ get_or xs i 0 = get_or_read xs i x h at 0 in
    ap (λ es. row_of rows k ++ es) (sym (entries_elsewhere p xs i (from + k) h (λ e. past k (omega arith) (sym e ∙ sym read)))) ∙ inv k w

pub added_all : (from : ℕ) (rows start : Filling) (p : ℕ) (xs : List ℕ) (i k : ℕ) → AreAdded from rows start p xs i → length xs ≤ i → k < length rows.lists
    → row_of rows k ≡ row_of start k ++ entries_in p 0 xs (from + k)
added_all from rows start p xs i k inv h w =
    let none : drop i xs ≡ [] = drop_all i xs h in
    sym (append-nil (row_of rows k)) ∙ (rw none at (inv k w))

-- Below, the entries of the first p programs' lists are in the rows.
abbrev pub AreEntered : ℕ → Filling → List (List ℕ) → ℕ → Type 0
AreEntered from rows rs p = (k : ℕ) → k < length rows.lists → row_of rows k ++ entries_from p (drop p rs) (from + k) ≡ entries_from 0 rs (from + k)

entries_front : (rs : List (List ℕ)) (p a : ℕ) → p < length rs → entries_from p (drop p rs) a ≡ entries_in p 0 (get_or rs p []) a ++ entries_from (p + 1) (drop (p + 1) rs) a
entries_front rs p a h = at_drop_more (λ ls. entries_from p ls a) rs p [] h

pub entered_more : (from : ℕ) (rows new : Filling) (rs : List (List ℕ)) (p : ℕ) (ranking : List ℕ) → AreEntered from rows rs p → p < length rs → ranking ≡ get_or rs p []
    → length new.lists ≡ length rows.lists → IsEnteredFor from rows new p ranking → AreEntered from new rs (p + 1)
entered_more from rows new rs p ranking inv h at len entered k w =
    let within : k < length rows.lists = omega arith in
    let here : row_of new k ≡ row_of rows k ++ entries_in p 0 (get_or rs p []) (from + k) = entered k within ∙ ap (λ xs. row_of rows k ++ entries_in p 0 xs (from + k)) at in
    rw here
    (append_assoc (row_of rows k) (entries_in p 0 (get_or rs p []) (from + k)) (entries_from (p + 1) (drop (p + 1) rs) (from + k))
    ∙ ap (λ es. row_of rows k ++ es) (sym (entries_front rs p (from + k) h)) ∙ inv k within)

pub entered_room : (from : ℕ) (rows : Filling) (rs : List (List ℕ)) (p k n : ℕ) → AreEntered from rows rs p → rows.sizes ≡ map (λ j. times_listed rs (from + j)) (below n) → p < length rs → length rows.lists ≡ n
    → k < length rows.lists → HasRoom rows k (count (λ x. eqb x (from + k)) (get_or rs p []))
entered_room from rows rs p k n inv s h l w =
    let a = from + k in
    let size : get_or rows.sizes k 0 ≡ times_listed rs a = rw s (get_or-map-range_with_len (λ j. times_listed rs (from + j)) 0 n k k 0 (omega arith) (omega arith)) in
    let all : length (row_of rows k ++ entries_from p (drop p rs) a) ≡ length (entries_from 0 rs a) = ap length (inv k w) in
    omega (
      arith,
      size,
      all,
      ap length (entries_front rs p a h),
      length-append (row_of rows k) (entries_from p (drop p rs) a),
      length-append (entries_in p 0 (get_or rs p []) a) (entries_from (p + 1) (drop (p + 1) rs) a),
      length-entries_in p 0 (get_or rs p []) a,
      length-entries_from 0 rs a,
    )

pub entered_all : (from : ℕ) (rows : Filling) (rs : List (List ℕ)) (p n : ℕ) → AreEntered from rows rs p → length rs ≤ p → length rows.lists ≡ n
    → rows.lists ≡ map (λ k. entries_from 0 rs (from + k)) (below n)
entered_all from rows rs p n inv h l =
    let none : drop p rs ≡ [] = drop_all p rs h in
    fill_by_all (λ k. entries_from 0 rs (from + k)) rows.lists n [] l (λ k i. sym (append-nil (row_of rows k)) ∙ (rw none at (inv k (omega arith))))

-- with fresh rows nothing is entered
pub entered_none : (from : ℕ) (rows : Filling) (rs : List (List ℕ)) (sizes : List ℕ) → rows ≡ empty_rows sizes → AreEntered from rows rs 0
entered_none from rows rs sizes h k w =
    let row : row_of rows k ≡ [] = rw h (get_or-replicate (length sizes) k [] [] (omega (arith, ap (λ (f : Filling). length f.lists) h, length-replicate {A = List Live} (length sizes) []))) in
    rw row refl
