-- What the ends of lists held one after another say of them.
use Rattle.std.proofs.Common.{◌≡◌, ℕ, zero, suc, ◌+◌, ◌-◌, ◌<◌, ◌≤◌, List, [], ◌∷◌, ◌++◌, length, get_or, set, refl, sym, ap, ◌∙◌, arith}
use Rattle.std.specs.Prelude.{slice_range}
use Rattle.std.proofs.lemmas.Grind.{common_steps}
use Rattle.std.proofs.lemmas.List.{drop_at}
use Rattle.std.proofs.lemmas.Slice.{between_to_end}
use Rattle.mt_flat.specs.FlatLists.{pieces, start_of, AreEnds, with_last}
use Rattle.mt_flat.proofs.RowFacts.{range_append}

pub length-pieces : {X : Type 0} (from : ℕ) (ends : List ℕ) (xs : List X) → length (pieces from ends xs) ≡ length ends
length-pieces from [] xs = refl
length-pieces from (e ∷ es) xs = ap suc (length-pieces e es xs)

-- the ends go no further than the length
pub ends_within : (from : ℕ) (ends : List ℕ) (n : ℕ) → AreEnds from ends n → from ≤ n
ends_within from [] n h = omega arith
ends_within from (e ∷ es) n h = omega (arith, ends_within e es n h.1)

pub AreEnds-push : (from : ℕ) (ends : List ℕ) (n : ℕ) → AreEnds from ends n → AreEnds from (ends ++ n ∷ []) n
AreEnds-push from [] n h = (omega arith, refl)
AreEnds-push from (e ∷ es) n h = (h.0, AreEnds-push e es n h.1)

-- a part that ends where it begins is empty
empty_range : {X : Type 0} (xs : List X) (a b : ℕ) → a ≡ b → slice_range xs a b ≡ []
empty_range xs a b h = let e : b - a ≡ 0 = omega arith in rw e refl

pub pieces-begin : {X : Type 0} (from : ℕ) (ends : List ℕ) (xs : List X) → AreEnds from ends (length xs) → pieces from (ends ++ length xs ∷ []) xs ≡ pieces from ends xs ++ [] ∷ []
pieces-begin from [] xs h = ap (λ p. p ∷ []) (empty_range xs from (length xs) h)
pieces-begin from (e ∷ es) xs h = ap (λ ps. slice_range xs from e ∷ ps) (pieces-begin e es xs h.1)

pub start_before_end : (from : ℕ) (ends : List ℕ) (n k : ℕ) → AreEnds from ends n → k < length ends → (start_of from ends k ≤ get_or ends k 0) × (get_or ends k 0 ≤ n)
start_before_end from [] n k h i = absurd (omega arith)
start_before_end from (e ∷ es) n zero h i = (h.0, ends_within e es n h.1)
start_before_end from (e ∷ es) n (suc zero) h i = start_before_end e es n zero h.1 (omega arith)
start_before_end from (e ∷ es) n (suc (suc k)) h i = start_before_end e es n (suc k) h.1 (omega arith)

pub piece_at : {X : Type 0} (from : ℕ) (ends : List ℕ) (xs : List X) (k : ℕ) → k < length ends → get_or (pieces from ends xs) k [] ≡ slice_range xs (start_of from ends k) (get_or ends k 0)
piece_at from [] xs k i = absurd (omega arith)
piece_at from (e ∷ es) xs zero i = refl
piece_at from (e ∷ es) xs (suc zero) i = piece_at e es xs zero (omega arith)
piece_at from (e ∷ es) xs (suc (suc k)) i = piece_at e es xs (suc k) (omega arith)

-- a part is as it was after an element was added behind it
range-push : {X : Type 0} (xs : List X) (x : X) (a b : ℕ) → a ≤ b → b ≤ length xs → slice_range (xs ++ x ∷ []) a b ≡ slice_range xs a b
range-push xs x a b h i = grind (arith, common_steps)

last_range : {X : Type 0} (xs : List X) (x : X) (a : ℕ) → a ≤ length xs → slice_range (xs ++ x ∷ []) a (length xs + 1) ≡ slice_range xs a (length xs) ++ x ∷ []
last_range xs x a h = grind (arith, common_steps)

-- Below, j is the number of the last list.
pub AreEnds-last : (from : ℕ) (ends : List ℕ) (n j : ℕ) → AreEnds from ends n → suc j ≡ length ends → AreEnds from (set ends j (n + 1)) (n + 1)
AreEnds-last from [] n j h i = absurd (omega arith)
AreEnds-last from (e ∷ []) n zero h i = (omega arith, refl)
AreEnds-last from (e ∷ []) n (suc j) h i = absurd (omega arith)
AreEnds-last from (e ∷ d ∷ es) n zero h i = absurd (omega arith)
AreEnds-last from (e ∷ d ∷ es) n (suc j) h i = (h.0, AreEnds-last e (d ∷ es) n j h.1 (omega arith))

pub pieces-push : {X : Type 0} (from : ℕ) (ends : List ℕ) (xs : List X) (x : X) (j : ℕ) → AreEnds from ends (length xs) → suc j ≡ length ends
    → pieces from (set ends j (length xs + 1)) (xs ++ x ∷ []) ≡ with_last (pieces from ends xs) x
pieces-push from [] xs x j h i = absurd (omega arith)
pieces-push from (e ∷ []) xs x zero h i = ap (λ p. p ∷ []) (last_range xs x from (omega arith) ∙ ap (λ k. slice_range xs from k ++ x ∷ []) (sym h.1))
pieces-push from (e ∷ []) xs x (suc j) h i = absurd (omega arith)
pieces-push from (e ∷ d ∷ es) xs x zero h i = absurd (omega arith)
pieces-push from (e ∷ d ∷ es) xs x (suc j) h i =
    let first : slice_range (xs ++ x ∷ []) from e ≡ slice_range xs from e = range-push xs x from e h.0 (ends_within e (d ∷ es) (length xs) h.1) in
    let rest : pieces e (set (d ∷ es) j (length xs + 1)) (xs ++ x ∷ []) ≡ with_last (pieces e (d ∷ es) xs) x = pieces-push e (d ∷ es) xs x j h.1 (omega arith) in
    cc

-- an element more at the end of the last list
pub with_last-append : {X : Type 0} (lists : List (List X)) (xs : List X) (x : X) → with_last (lists ++ xs ∷ []) x ≡ lists ++ (xs ++ x ∷ []) ∷ []
with_last-append [] xs x = refl
with_last-append (l ∷ []) xs x = refl
with_last-append (l ∷ m ∷ ls) xs x = ap (λ rest. l ∷ rest) (with_last-append (m ∷ ls) xs x)

-- Below, a whole list is added at the end.
pub AreEnds-append : (from : ℕ) (ends : List ℕ) (n m : ℕ) → AreEnds from ends n → n ≤ m → AreEnds from (ends ++ m ∷ []) m
AreEnds-append from [] n m h i = (omega arith, refl)
AreEnds-append from (e ∷ es) n m h i = (h.0, AreEnds-append e es n m h.1 i)

rest_range : {X : Type 0} (xs ys : List X) (a : ℕ) → a ≡ length xs → slice_range (xs ++ ys) a (length (xs ++ ys)) ≡ ys
rest_range xs ys a h = between_to_end (xs ++ ys) a (length (xs ++ ys)) (omega arith) ∙ drop_at xs ys a (sym h)

pub pieces-append : {X : Type 0} (from : ℕ) (ends : List ℕ) (xs ys : List X) → AreEnds from ends (length xs)
    → pieces from (ends ++ length (xs ++ ys) ∷ []) (xs ++ ys) ≡ pieces from ends xs ++ ys ∷ []
pieces-append from [] xs ys h = ap (λ p. p ∷ []) (rest_range xs ys from h)
pieces-append from (e ∷ es) xs ys h =
    let first : slice_range (xs ++ ys) from e ≡ slice_range xs from e = range_append xs ys from e h.0 (ends_within e es (length xs) h.1) in
    let rest : pieces e (es ++ length (xs ++ ys) ∷ []) (xs ++ ys) ≡ pieces e es xs ++ ys ∷ [] = pieces-append e es xs ys h.1 in
    cc
