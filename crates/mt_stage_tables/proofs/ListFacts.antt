-- Lists that are searched, up to the first element that passes.
use Rattle.std.proofs.Common.{◌≡◌, ◌∙◌, ℕ, zero, suc, ◌+◌, ◌<◌, ◌≤◌, Bool, true, false, List, [], ◌∷◌, ◌++◌, take, drop, length, get_or, Option, Some, None, is_some, refl, ap, sym, inl, inr, arith}
use Rattle.std.specs.List.{find, list_any}
use Rattle.std.specs.Option.{option_map}
use Rattle.std.proofs.lemmas.Bool.{cases_Bool}
use Rattle.std.proofs.lemmas.List.{take_all, take_more, drop_more}
use Rattle.mt_terms.specs.Lists.{until}

-- so far none does
pub going_more : {X : Type 0} (test : X → Bool) (xs : List X) (i : ℕ) (x : X) → i < length xs → x ≡ get_or xs i x → take i xs ++ until test (drop i xs) ≡ until test xs
    → test x ≡ false → take (i + 1) xs ++ until test (drop (i + 1) xs) ≡ until test xs
going_more {X} test xs i x within read so_far fails =
    ap (λ ys. ys ++ until test (drop (i + 1) xs)) (take_more xs i x within) ∙ append_three (take i xs) (get_or xs i x) (until test (drop (i + 1) xs))
    ∙ ap (λ ys. take i xs ++ ys) (sym (ap (until test) (drop_more xs i x within) ∙ passed (get_or xs i x) (ap test (sym read) ∙ fails)))
    ∙ so_far
  where
    append_three : (ys : List X) (b : X) (cs : List X) → (ys ++ b ∷ []) ++ cs ≡ ys ++ (b ∷ cs)
    append_three [] b cs = refl
    append_three (y ∷ ys) b cs = ap (λ zs. y ∷ zs) (append_three ys b cs)

    passed : (y : X) → test y ≡ false → until test (y ∷ drop (i + 1) xs) ≡ y ∷ until test (drop (i + 1) xs)
    passed y fails = rw fails refl

-- this one does
pub going_stops : {X : Type 0} (test : X → Bool) (xs : List X) (i : ℕ) (x : X) → i < length xs → x ≡ get_or xs i x → take i xs ++ until test (drop i xs) ≡ until test xs
    → test x ≡ true → take i xs ≡ until test xs
going_stops {X} test xs i x within read so_far passes =
    sym (append_none (take i xs)) ∙ ap (λ ys. take i xs ++ ys) (sym (ap (until test) (drop_more xs i x within) ∙ stopped (get_or xs i x) (ap test (sym read) ∙ passes))) ∙ so_far
  where
    append_none : (ys : List X) → ys ++ [] ≡ ys
    append_none [] = refl
    append_none (y ∷ ys) = ap (λ zs. y ∷ zs) (append_none ys)

    stopped : (y : X) → test y ≡ true → until test (y ∷ drop (i + 1) xs) ≡ []
    stopped y passes = rw passes refl

pub drop_past : {X : Type 0} (xs : List X) (n : ℕ) → length xs ≤ n → drop n xs ≡ []
drop_past [] zero h = refl
drop_past [] (suc n) h = refl
drop_past (x ∷ xs) zero h = absurd (omega arith)
drop_past (x ∷ xs) (suc n) h = drop_past xs n (omega arith)

-- nothing passes, so nothing is cut off
pub until_never : {X : Type 0} (test : X → Bool) (xs : List X) → ((x : X) → test x ≡ false) → until test xs ≡ xs
until_never test [] never = refl
until_never test (x ∷ xs) never = rw (never x) (ap (λ ys. x ∷ ys) (until_never test xs never))

-- none did
pub going_all : {X : Type 0} (test : X → Bool) (xs : List X) (i : ℕ) → length xs ≤ i → take i xs ++ until test (drop i xs) ≡ until test xs → xs ≡ until test xs
going_all {X} test xs i past so_far =
    sym (append_none xs) ∙ sym (ap (λ ys. ys ++ []) (take_all i xs past)) ∙ ap (λ ys. take i xs ++ ys) (sym (ap (until test) (drop_past xs i past))) ∙ so_far
  where
    append_none : (ys : List X) → ys ++ [] ≡ ys
    append_none [] = refl
    append_none (y ∷ ys) = ap (λ zs. y ∷ zs) (append_none ys)

-- the first element that passes, and whether there is one
pub is_some-find : {X : Type 0} (test : X → Bool) (xs : List X) → list_any test xs ≡ is_some (find test xs)
is_some-find test [] = refl
is_some-find test (x ∷ xs) = elim (cases_Bool (test x)) [ inl t ↦ rw t refl | inr t ↦ rw t (is_some-find test xs) ]

pub is_some-option_map : {X Y : Type 0} (f : X → Y) (o : Option X) → is_some o ≡ is_some (option_map f o)
is_some-option_map f None = refl
is_some-option_map f (Some x) = refl
