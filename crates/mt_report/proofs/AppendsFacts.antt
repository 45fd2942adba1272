-- Bytes appended in turns.
use Rattle.std.proofs.Common.{◌≡◌, ℕ, ◌+◌, ◌-◌, ◌≤◌, List, ◌++◌, length, take, drop, Option, None, Some, ap, ◌∙◌, append_assoc, arith, length-drop}
use Rattle.std.proofs.lemmas.List.{take-append-drop, take-take, drop-take, take_all}
use Rattle.std.specs.Io.KnownBytes.{Appends}

pub Appends-then : (a b c : Option (List ℕ)) (xs ys : List ℕ) → Appends a b xs → Appends b c ys → Appends a c (xs ++ ys)
Appends-then None b c xs ys h k = tt
Appends-then (Some x) None c xs ys h k = absurd h
Appends-then (Some x) (Some y) None xs ys h k = absurd k
Appends-then (Some x) (Some y) (Some z) xs ys h k = k ∙ ap (λ w. w ++ ys) h ∙ append_assoc x xs ys

-- a front is a shorter front and the front of what is left
pub take-front : (xs : List ℕ) (w r : ℕ) → w + r ≤ length xs → take w xs ++ take r (take (length xs - w) (drop w xs)) ≡ take (w + r) xs
take-front xs w r h =
    let rest : take (length xs - w) (drop w xs) ≡ drop w xs = take_all (length xs - w) (drop w xs) (omega (arith, length-drop w xs)) in
    let front : take w (take (w + r) xs) ≡ take w xs = take-take w (w + r) xs (omega arith) in
    rw (rest, ← drop-take w r xs, ← front) (take-append-drop w (take (w + r) xs))
