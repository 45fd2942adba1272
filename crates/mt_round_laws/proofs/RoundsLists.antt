-- What stands on a list, and what tests find on it.
use Rattle.std.proofs.Common.{◌≡◌, ℕ, zero, suc, ◌+◌, ◌<◌, ◌≤◌, Bool, true, false, ◌&&◌, ◌||◌, ◌==◌, cond, List, [], ◌∷◌, ◌++◌, map, filter, ◌⊎◌, inl, inr, refl, ap, sym, ◌∙◌, subst, arith, flat_map, eqb-true, eq-eqb, ap₂}
use Rattle.std.specs.List.{list_any, list_all, range_with_len}
use Rattle.std.proofs.lemmas.Bool.{cases_Bool, cases_eq, and_parts, or_cases, and_from, or_left, or_right, and_cases, false≢true}
use Rattle.mt_terms.specs.Lists.{has, until, below}

-- an element stands on a list
abbrev pub In : {X : Type 0} → X → List X → Type 0
In x [] = ⊥
In x (y ∷ ys) = (y ≡ x) ⊎ In x ys

-- a test that finds something finds an element that passes
pub found : {X : Type 0} (p : X → Bool) (xs : List X) → list_any p xs ≡ true → (x : X) × In x xs × (p x ≡ true)
found p [] h = absurd (false≢true h)
found {X} p (x ∷ xs) h =
    let in_rest = λ (r : list_any p xs ≡ true). let w = found p xs r in (let t : (y : X) × In y (x ∷ xs) × (p y ≡ true) = (w.0, inr w.1, w.2) in t) in
    elim (or_cases (p x) (list_any p xs) h) [ inl here ↦ (x, inl refl, here) | inr r ↦ in_rest r ]

-- an element that passes is found
pub finds : {X : Type 0} (p : X → Bool) (x : X) (xs : List X) → In x xs → p x ≡ true → list_any p xs ≡ true
finds p x [] h e = absurd h
finds p x (y ∷ ys) (inl same) e = or_left (p y) (list_any p ys) (ap p same ∙ e)
finds p x (y ∷ ys) (inr h) e = or_right (p y) (list_any p ys) (finds p x ys h e)

-- if every element passes, each does
pub each : {X : Type 0} (p : X → Bool) (x : X) (xs : List X) → list_all p xs ≡ true → In x xs → p x ≡ true
each p x [] h i = absurd i
each p x (y ∷ ys) h (inl same) = ap p (sym same) ∙ (and_parts (p y) (list_all p ys) h).0
each p x (y ∷ ys) h (inr i) = each p x ys (and_parts (p y) (list_all p ys) h).1 i

-- if each element passes, every element does
pub all_pass : {X : Type 0} (p : X → Bool) (xs : List X) → ((x : X) → In x xs → p x ≡ true) → list_all p xs ≡ true
all_pass p [] h = refl
all_pass p (x ∷ xs) h = and_from (p x) (list_all p xs) (h x (inl refl)) (all_pass p xs (λ y i. h y (inr i)))

-- if not every element passes, one fails
pub fails_at : {X : Type 0} (p : X → Bool) (xs : List X) → list_all p xs ≡ false → (x : X) × In x xs × (p x ≡ false)
fails_at p [] h = absurd (false≢true (sym h))
fails_at {X} p (x ∷ xs) h =
    let in_rest = λ (r : list_all p xs ≡ false). let w = fails_at p xs r in (let t : (y : X) × In y (x ∷ xs) × (p y ≡ false) = (w.0, inr w.1, w.2) in t) in
    elim (and_cases (p x) (list_all p xs) h) [ inl here ↦ (x, inl refl, here) | inr r ↦ in_rest r ]

-- what a list of numbers has stands on it
pub has_in : (a : ℕ) (xs : List ℕ) → has xs a ≡ true → In a xs
has_in a [] h = absurd (false≢true h)
has_in a (x ∷ xs) h = elim (or_cases (x == a) (has xs a) h) [ inl e ↦ inl (eqb-true x a e) | inr r ↦ inr (has_in a xs r) ]

-- and a list of numbers has what stands on it
pub in_has : (a : ℕ) (xs : List ℕ) → In a xs → has xs a ≡ true
in_has a xs i = finds (λ x. x == a) a xs i (eq-eqb a a refl)

-- standing on the first of two lists joined
pub in_left : {X : Type 0} (x : X) (xs ys : List X) → In x xs → In x (xs ++ ys)
in_left x [] ys i = absurd i
in_left x (y ∷ xs) ys (inl e) = inl e
in_left x (y ∷ xs) ys (inr i) = inr (in_left x xs ys i)

-- standing on the second of two lists joined
pub in_right : {X : Type 0} (x : X) (xs ys : List X) → In x ys → In x (xs ++ ys)
in_right x [] ys i = i
in_right x (y ∷ xs) ys i = inr (in_right x xs ys i)

-- what stands on two lists joined stands on one of them
pub in_either : {X : Type 0} (x : X) (xs ys : List X) → In x (xs ++ ys) → In x xs ⊎ In x ys
in_either x [] ys i = inr i
in_either x (y ∷ xs) ys (inl e) = inl (inl e)
in_either x (y ∷ xs) ys (inr i) = elim (in_either x xs ys i) [ inl l ↦ inl (inr l) | inr r ↦ inr r ]

-- standing on a list's image
pub in_image : {X Y : Type 0} (f : X → Y) (x : X) (xs : List X) → In x xs → In (f x) (map f xs)
in_image f x [] i = i
in_image f x (y ∷ xs) (inl e) = inl (ap f e)
in_image f x (y ∷ xs) (inr i) = inr (in_image f x xs i)

-- what stands on a list's image is an image
pub of_image : {X Y : Type 0} (f : X → Y) (y : Y) (xs : List X) → In y (map f xs) → (x : X) × In x xs × (f x ≡ y)
of_image f y [] i = absurd i
of_image f y (x ∷ xs) (inl e) = (x, inl refl, e)
of_image f y (x ∷ xs) (inr i) = let w = of_image f y xs i in (w.0, inr w.1, w.2)

-- standing on what a filter keeps
pub in_kept : {X : Type 0} (p : X → Bool) (x : X) (xs : List X) → In x xs → p x ≡ true → In x (filter p xs)
in_kept p x [] i e = i
in_kept p x (y ∷ xs) (inl same) e = let t : p y ≡ true = ap p same ∙ e in rw t (inl same)
in_kept p x (y ∷ xs) (inr i) e =
    let kept = in_kept p x xs i e in
    elim (cases_Bool (p y)) [ inl t ↦ rw t (inr kept) | inr t ↦ rw t kept ]

-- what a filter keeps stands on the list and passes
pub of_kept : {X : Type 0} (p : X → Bool) (x : X) (xs : List X) → In x (filter p xs) → In x xs × (p x ≡ true)
of_kept p x [] i = absurd i
of_kept {X} p x (y ∷ xs) i =
    let rest = λ (j : In x (filter p xs)). of_kept p x xs j in
    elim (cases_Bool (p y)) [ inl t ↦ at_true t rest (rw t at i) | inr t ↦ later (rest (rw t at i)) ]
  where
    later : In x xs × (p x ≡ true) → In x (y ∷ xs) × (p x ≡ true)
    later w = (inr w.0, w.1)

    at_true : p y ≡ true → (In x (filter p xs) → In x xs × (p x ≡ true)) → In x (y ∷ filter p xs) → In x (y ∷ xs) × (p x ≡ true)
    at_true t rest (inl e) = (inl e, ap p (sym e) ∙ t)
    at_true t rest (inr j) = later (rest j)

-- standing on lists joined end to end
pub in_joined : {X Y : Type 0} (f : X → List Y) (x : X) (y : Y) (xs : List X) → In x xs → In y (f x) → In y (flat_map f xs)
in_joined f x y [] i j = absurd i
in_joined f x y (z ∷ xs) (inl e) j = in_left y (f z) (flat_map f xs) (subst (λ w. In y (f w)) (sym e) j)
in_joined f x y (z ∷ xs) (inr i) j = in_right y (f z) (flat_map f xs) (in_joined f x y xs i j)

-- what stands on lists joined end to end stands on one of them
pub of_joined : {X Y : Type 0} (f : X → List Y) (y : Y) (xs : List X) → In y (flat_map f xs) → (x : X) × In x xs × In y (f x)
of_joined f y [] i = absurd i
of_joined {X} f y (z ∷ xs) i =
    let in_rest = λ (r : In y (flat_map f xs)). let w = of_joined f y xs r in (let t : (x : X) × In x (z ∷ xs) × In y (f x) = (w.0, inr w.1, w.2) in t) in
    elim (in_either y (f z) (flat_map f xs) i) [ inl l ↦ (z, inl refl, l) | inr r ↦ in_rest r ]

-- what stands before the first that passes stands on the list
pub of_until : {X : Type 0} (p : X → Bool) (x : X) (xs : List X) → In x (until p xs) → In x xs
of_until p x [] i = i
of_until p x (y ∷ xs) i =
    let after = λ (j : In x (y ∷ until p xs)). (let r : In x (y ∷ xs) = elim j [ inl e ↦ inl e | inr k ↦ inr (of_until p x xs k) ] in r) in
    elim (cases_Bool (p y)) [ inl t ↦ absurd (rw t at i) | inr t ↦ after (rw t at i) ]

-- tests that agree on a list find alike
pub same_any : {X : Type 0} (p q : X → Bool) (xs : List X) → ((x : X) → In x xs → p x ≡ q x) → list_any p xs ≡ list_any q xs
same_any p q [] h = refl
same_any p q (x ∷ xs) h = ap₂ ◌||◌ (h x (inl refl)) (same_any p q xs (λ y i. h y (inr i)))

-- tests that agree on a list pass alike
pub same_all : {X : Type 0} (p q : X → Bool) (xs : List X) → ((x : X) → In x xs → p x ≡ q x) → list_all p xs ≡ list_all q xs
same_all p q [] h = refl
same_all p q (x ∷ xs) h = ap₂ ◌&&◌ (h x (inl refl)) (same_all p q xs (λ y i. h y (inr i)))

-- and stop alike
pub same_until : {X : Type 0} (p q : X → Bool) (xs : List X) → ((x : X) → In x xs → p x ≡ q x) → until p xs ≡ until q xs
same_until p q [] h = refl
same_until p q (x ∷ xs) h = ap₂ (λ b ys. cond b [] (x ∷ ys)) (h x (inl refl)) (same_until p q xs (λ y i. h y (inr i)))

-- the numbers below a bound
in_range : (a start n : ℕ) → start ≤ a → a < start + n → In a (range_with_len start n)
in_range a start zero l u = absurd (omega arith)
in_range a start (suc n) l u =
    elim (cases_eq start a) [ inl e ↦ inl e | inr d ↦ inr (in_range a (start + 1) n (omega arith) (omega arith)) ]

-- and the other way round
of_range : (a start n : ℕ) → In a (range_with_len start n) → (start ≤ a) × (a < start + n)
of_range a start zero i = absurd i
of_range a start (suc n) (inl e) = (omega arith, omega arith)
of_range a start (suc n) (inr i) = let w = of_range a (start + 1) n i in (omega arith, omega arith)

-- a number below a bound
pub in_below : (a n : ℕ) → a < n → In a (below n)
in_below a n h = in_range a 0 n (omega arith) (omega arith)

-- and the other way round
pub of_below : (a n : ℕ) → In a (below n) → a < n
of_below a n i = let w = of_range a 0 n i in omega arith
