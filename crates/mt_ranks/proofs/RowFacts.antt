-- Parts of a list that begin and end at given places, each with room up to the next.
use Rattle.std.proofs.Common.{◌≡◌, ℕ, zero, suc, ◌+◌, ◌-◌, ◌<◌, ◌≤◌, List, [], ◌∷◌, ◌++◌, length, get_or, set, take, drop, sum, replicate, refl, sym, ap, ◌∙◌, arith}
use Rattle.std.specs.Prelude.{slice_range}
use Rattle.std.proofs.lemmas.Grind.{common_steps}
use Rattle.std.proofs.lemmas.List.{drop-set-lt, take-set-le, length-set, get_or_read}
use Rattle.std.proofs.lemmas.Slice.{between_is}
use Rattle.std.proofs.lemmas.List.Sums.{sum_by-cons}
use Rattle.mt_ranks.specs.Rows.{parts, next_start, sizes_between, ArePartsOf, starts_from, Filling, empty_rows, HasRoom, with_entry}
use Rattle.mt_ranks.specs.declared.entries.Live.{Live}
use Rattle.mt_flat.proofs.RowFacts.{range_push}

-- Below, the parts of a list of this size begin at ss and end at es.
pub start_within : (size : ℕ) (ss es : List ℕ) → ArePartsOf size ss es → next_start ss size ≤ size
start_within size [] es h = omega arith
start_within size (s ∷ ss) [] h = absurd h
start_within size (s ∷ ss) (e ∷ es) h = omega (arith, start_within size ss es h.2)

pub length_ends : (size : ℕ) (ss es : List ℕ) → ArePartsOf size ss es → length es ≡ length ss
length_ends size [] [] h = refl
length_ends size [] (e ∷ es) h = absurd h
length_ends size (s ∷ ss) [] h = absurd h
length_ends size (s ∷ ss) (e ∷ es) h = ap suc (length_ends size ss es h.2)

-- as many elements as all parts may have fit
more_fit : (size : ℕ) (ss es : List ℕ) → ArePartsOf size ss es → next_start ss size + sum (sizes_between ss size) ≤ size
more_fit size [] es h = omega arith
more_fit size (s ∷ ss) [] h = absurd h
more_fit size (s ∷ ss) (e ∷ es) h =
    let all : sum (sizes_between (s ∷ ss) size) ≡ next_start ss size - s + sum (sizes_between ss size) = sum_by-cons (λ n. n) (next_start ss size - s) (sizes_between ss size) in
    omega (arith, all, more_fit size ss es h.2, h.0, h.1)

pub sizes_fit : (size : ℕ) (ss es : List ℕ) → ArePartsOf size ss es → sum (sizes_between ss size) ≤ size
sizes_fit size ss es h = omega (arith, more_fit size ss es h)

pub length-parts : {X : Type 0} (ss es : List ℕ) (xs : List X) → ArePartsOf (length xs) ss es → length (parts ss es xs) ≡ length ss
length-parts [] es xs h = refl
length-parts (s ∷ ss) [] xs h = absurd h
length-parts (s ∷ ss) (e ∷ es) xs h = ap suc (length-parts ss es xs h.2)

pub part_bounds : (size : ℕ) (ss es : List ℕ) (k : ℕ) → ArePartsOf size ss es → k < length ss → (get_or ss k 0 ≤ get_or es k 0) × (get_or es k 0 ≤ size)
part_bounds size [] es k h i = absurd (omega arith)
part_bounds size (s ∷ ss) [] k h i = absurd h
part_bounds size (s ∷ ss) (e ∷ es) zero h i = (h.0, omega (arith, h.1, start_within size ss es h.2))
part_bounds size (s ∷ ss) (e ∷ es) (suc k) h i = part_bounds size ss es k h.2 (omega arith)

pub part_at : {X : Type 0} (ss es : List ℕ) (xs : List X) (k : ℕ) → ArePartsOf (length xs) ss es → k < length ss
    → get_or (parts ss es xs) k [] ≡ slice_range xs (get_or ss k 0) (get_or es k 0)
part_at [] es xs k h i = absurd (omega arith)
part_at (s ∷ ss) [] xs k h i = absurd h
part_at (s ∷ ss) (e ∷ es) xs zero h i = refl
part_at (s ∷ ss) (e ∷ es) xs (suc k) h i = part_at ss es xs k h.2 (omega arith)

-- every part ends behind where the first one begins
end_after : (size : ℕ) (ss es : List ℕ) (k : ℕ) → ArePartsOf size ss es → k < length ss → next_start ss size ≤ get_or es k 0
end_after size [] es k h i = absurd (omega arith)
end_after size (s ∷ ss) [] k h i = absurd h
end_after size (s ∷ ss) (e ∷ es) zero h i = h.0
end_after size (s ∷ ss) (e ∷ es) (suc k) h i = omega (arith, h.0, h.1, end_after size ss es k h.2 (omega arith))

pub length-range : {X : Type 0} (xs : List X) (a b : ℕ) → b ≤ length xs → length (slice_range xs a b) ≡ b - a
length-range xs a b h = grind (arith, common_steps)

pub length_part : {X : Type 0} (ss es : List ℕ) (xs : List X) (k : ℕ) → ArePartsOf (length xs) ss es → k < length ss
    → length (get_or (parts ss es xs) k []) ≡ get_or es k 0 - get_or ss k 0
length_part ss es xs k h i = ap length (part_at ss es xs k h i) ∙ length-range xs (get_or ss k 0) (get_or es k 0) (part_bounds (length xs) ss es k h i).1

-- a part with room ends before the next one begins
pub room_at : (size : ℕ) (ss es : List ℕ) (k : ℕ) → ArePartsOf size ss es → k < length ss
    → (get_or es k 0 - get_or ss k 0) + 1 ≤ get_or (sizes_between ss size) k 0 → get_or es k 0 < size
room_at size [] es k h i r = absurd (omega arith)
room_at size (s ∷ ss) [] k h i r = absurd h
room_at size (s ∷ ss) (e ∷ es) zero h i r = omega (arith, h.0, h.1, start_within size ss es h.2)
room_at size (s ∷ ss) (e ∷ es) (suc k) h i r = room_at size ss es k h.2 (omega arith) r

pub ArePartsOf-push : (size : ℕ) (ss es : List ℕ) (k : ℕ) → ArePartsOf size ss es → k < length ss
    → (get_or es k 0 - get_or ss k 0) + 1 ≤ get_or (sizes_between ss size) k 0 → ArePartsOf size ss (set es k (get_or es k 0 + 1))
ArePartsOf-push size [] es k h i r = absurd (omega arith)
ArePartsOf-push size (s ∷ ss) [] k h i r = absurd h
ArePartsOf-push size (s ∷ ss) (e ∷ es) zero h i r = (omega (arith, h.0), omega (arith, h.0, h.1), h.2)
ArePartsOf-push size (s ∷ ss) (e ∷ es) (suc k) h i r = (h.0, h.1, ArePartsOf-push size ss es k h.2 (omega arith) r)

range-set_below : {X : Type 0} (xs : List X) (k : ℕ) (x : X) (a b : ℕ) → k < a → slice_range (set xs k x) a b ≡ slice_range xs a b
range-set_below xs k x a b h = ap (take (b - a)) (drop-set-lt a xs k x h)

range-set_above : {X : Type 0} (xs : List X) (k : ℕ) (x : X) (a b : ℕ) → b ≤ k → slice_range (set xs k x) a b ≡ slice_range xs a b
range-set_above xs k x a b h = between_is (set xs k x) a b ∙ ap (drop a) (take-set-le b xs k x h) ∙ sym (between_is xs a b)

-- a write before the first part changes none
parts-set_below : {X : Type 0} (ss es : List ℕ) (xs : List X) (k : ℕ) (x : X) (size : ℕ) → ArePartsOf size ss es → k < next_start ss size
    → parts ss es (set xs k x) ≡ parts ss es xs
parts-set_below [] es xs k x size h i = refl
parts-set_below (s ∷ ss) [] xs k x size h i = absurd h
parts-set_below (s ∷ ss) (e ∷ es) xs k x size h i =
    let first : slice_range (set xs k x) s e ≡ slice_range xs s e = range-set_below xs k x s e i in
    let rest : parts ss es (set xs k x) ≡ parts ss es xs = parts-set_below ss es xs k x size h.2 (omega (arith, h.0, h.1)) in
    cc

-- a write behind a part with room adds to that part alone
pub parts-push : {X : Type 0} (ss es : List ℕ) (xs : List X) (k : ℕ) (x : X) → ArePartsOf (length xs) ss es → k < length ss
    → (get_or es k 0 - get_or ss k 0) + 1 ≤ get_or (sizes_between ss (length xs)) k 0
    → parts ss (set es k (get_or es k 0 + 1)) (set xs (get_or es k 0) x) ≡ set (parts ss es xs) k (get_or (parts ss es xs) k [] ++ x ∷ [])
parts-push [] es xs k x h i r = absurd (omega arith)
parts-push (s ∷ ss) [] xs k x h i r = absurd h
parts-push (s ∷ ss) (e ∷ es) xs zero x h i r =
    let within : e < length xs = omega (arith, h.0, h.1, start_within (length xs) ss es h.2) in
    let first : slice_range (set xs e x) s (e + 1) ≡ slice_range xs s e ++ x ∷ [] = range_push xs x s e h.0 within in
    let rest : parts ss es (set xs e x) ≡ parts ss es xs = parts-set_below ss es xs e x (length xs) h.2 (omega (arith, h.0, h.1)) in
    cc
parts-push (s ∷ ss) (e ∷ es) xs (suc k) x h i r =
    let after : e ≤ get_or es k 0 = omega (arith, h.1, end_after (length xs) ss es k h.2 (omega arith)) in
    let first : slice_range (set xs (get_or es k 0) x) s e ≡ slice_range xs s e = range-set_above xs (get_or es k 0) x s e after in
    let rest : parts ss (set es k (get_or es k 0 + 1)) (set xs (get_or es k 0) x) ≡ set (parts ss es xs) k (get_or (parts ss es xs) k [] ++ x ∷ []) = parts-push ss es xs k x h.2 (omega arith) r in
    cc

-- Below, parts of these sizes are laid out from a place on.
next_start-starts : (at size : ℕ) (ns : List ℕ) → size ≡ at + sum ns → next_start (starts_from at ns) size ≡ at
next_start-starts at size [] h = omega arith
next_start-starts at size (n ∷ ns) h = refl

pub length-starts_from : (at : ℕ) (ns : List ℕ) → length (starts_from at ns) ≡ length ns
length-starts_from at [] = refl
length-starts_from at (n ∷ ns) = ap suc (length-starts_from (at + n) ns)

pub sizes_between-starts : (at size : ℕ) (ns : List ℕ) → size ≡ at + sum ns → sizes_between (starts_from at ns) size ≡ ns
sizes_between-starts at size [] h = refl
sizes_between-starts at size (n ∷ ns) h =
    let total : sum (n ∷ ns) ≡ n + sum ns = sum_by-cons (λ x. x) n ns in
    let next : next_start (starts_from (at + n) ns) size ≡ at + n = next_start-starts (at + n) size ns (omega arith) in
    let rest : sizes_between (starts_from (at + n) ns) size ≡ ns = sizes_between-starts (at + n) size ns (omega arith) in
    let first : next_start (starts_from (at + n) ns) size - at ≡ n = omega arith in
    cc

pub ArePartsOf-starts : (at size : ℕ) (ns : List ℕ) → size ≡ at + sum ns → ArePartsOf size (starts_from at ns) (starts_from at ns)
ArePartsOf-starts at size [] h = tt
ArePartsOf-starts at size (n ∷ ns) h =
    let total : sum (n ∷ ns) ≡ n + sum ns = sum_by-cons (λ x. x) n ns in
    let next : next_start (starts_from (at + n) ns) size ≡ at + n = next_start-starts (at + n) size ns (omega arith) in
    (omega arith, omega arith, ArePartsOf-starts (at + n) size ns (omega arith))

-- parts that end where they begin are empty
pub empty_parts : {X : Type 0} (ss : List ℕ) (xs : List X) → parts ss ss xs ≡ replicate (length ss) []
empty_parts [] xs = refl
empty_parts (s ∷ ss) xs =
    let none : s - s ≡ 0 = omega arith in
    let first : slice_range xs s s ≡ [] = rw none refl in
    let rest : parts ss ss xs ≡ replicate (length ss) [] = empty_parts ss xs in
    cc

-- Rows in one vector, as they are seen.
abbrev pub seen : List ℕ → List ℕ → List Live → Filling
seen ss es xs = record { lists = parts ss es xs; sizes = sizes_between ss (length xs) }

pub new_rows_parts : (ss es : List ℕ) (xs : List Live) (sizes : List ℕ) → ss ≡ starts_from 0 sizes → es ≡ ss → length xs ≡ sum sizes → ArePartsOf (length xs) ss es
new_rows_parts ss es xs sizes h i n = rw (i, h) (ArePartsOf-starts 0 (length xs) sizes (omega arith))

pub new_rows_seen : (ss es : List ℕ) (xs : List Live) (sizes : List ℕ) → ss ≡ starts_from 0 sizes → es ≡ ss → length xs ≡ sum sizes → seen ss es xs ≡ empty_rows sizes
new_rows_seen ss es xs sizes h i n =
    let lists : parts ss es xs ≡ replicate (length sizes) [] = rw i (empty_parts ss xs ∙ ap (λ m. replicate m []) (ap length h ∙ length-starts_from 0 sizes)) in
    let room : sizes_between ss (length xs) ≡ sizes = rw h (sizes_between-starts 0 (length xs) sizes (omega arith)) in
    cc

-- Below, an entry goes behind the end of row k, which has room.
pub row_exists : (ss es : List ℕ) (xs : List Live) (f : Filling) (k : ℕ) → ArePartsOf (length xs) ss es → seen ss es xs ≡ f → k < length f.lists → (k < length ss) × (k < length es)
row_exists ss es xs f k h v i =
    let n : k < length ss = omega (arith, ap (λ (f : Filling). length f.lists) v, length-parts ss es xs h) in
    (n, omega (arith, length_ends (length xs) ss es h))

has_room : (ss es : List ℕ) (xs : List Live) (f : Filling) (k : ℕ) → ArePartsOf (length xs) ss es → seen ss es xs ≡ f → k < length f.lists → HasRoom f k 1
    → (get_or es k 0 - get_or ss k 0) + 1 ≤ get_or (sizes_between ss (length xs)) k 0
has_room ss es xs f k h v i r =
    let own : HasRoom (seen ss es xs) k 1 = rw (← v) at r in
    omega (arith, own, length_part ss es xs k h (row_exists ss es xs f k h v i).0)

pub end_within : (ss es : List ℕ) (xs : List Live) (f : Filling) (k e : ℕ) → ArePartsOf (length xs) ss es → seen ss es xs ≡ f → k < length f.lists → HasRoom f k 1
    → e ≡ get_or es k e → e < length xs
end_within ss es xs f k e h v i r at =
    let n = row_exists ss es xs f k h v i in
    omega (arith, get_or_read es k e n.1 at 0, room_at (length xs) ss es k h n.0 (has_room ss es xs f k h v i r))

pub pushed_parts : (ss es : List ℕ) (xs : List Live) (f : Filling) (k e : ℕ) (x : Live) → ArePartsOf (length xs) ss es → seen ss es xs ≡ f → k < length f.lists → HasRoom f k 1
    → e ≡ get_or es k e → ArePartsOf (length (set xs e x)) ss (set es k (e + 1))
pushed_parts ss es xs f k e x h v i r at =
    let n = row_exists ss es xs f k h v i in
    let is : e ≡ get_or es k 0 = get_or_read es k e n.1 at 0 in
    rw (length-set xs e x, is) (ArePartsOf-push (length xs) ss es k h n.0 (has_room ss es xs f k h v i r))

pub pushed_seen : (ss es : List ℕ) (xs : List Live) (f : Filling) (k e : ℕ) (x : Live) → ArePartsOf (length xs) ss es → seen ss es xs ≡ f → k < length f.lists → HasRoom f k 1
    → e ≡ get_or es k e → seen ss (set es k (e + 1)) (set xs e x) ≡ with_entry f k x
pushed_seen ss es xs f k e x h v i r at =
    let n = row_exists ss es xs f k h v i in
    let is : e ≡ get_or es k 0 = get_or_read es k e n.1 at 0 in
    let lists : parts ss (set es k (get_or es k 0 + 1)) (set xs (get_or es k 0) x) ≡ set (parts ss es xs) k (get_or (parts ss es xs) k [] ++ x ∷ []) =
    parts-push ss es xs k x h n.0 (has_room ss es xs f k h v i r) in
    let size : length (set xs (get_or es k 0) x) ≡ length xs = length-set xs (get_or es k 0) x in
    rw (← v, is, lists, size) refl
