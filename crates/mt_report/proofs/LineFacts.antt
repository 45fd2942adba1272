-- Lines made piece by piece. A line that is made of a first field and of those after it is what was pushed so far, and
-- what is left to push: so there is room for each field.
use Rattle.std.proofs.Common.{◌≡◌, ℕ, ◌+◌, ◌<◌, ◌≤◌, List, [], ◌∷◌, ◌++◌, length, map, drop, get_or, Bor, sym, ap, ◌∙◌, append_assoc, arith, length-append}
use Rattle.std.specs.Prelude.{codes}
use Rattle.std.specs.List.{flat_map, join_with_byte}
use Rattle.std.proofs.lemmas.List.{append-nil, drop_all, drop_more}
use Rattle.mt_terms.specs.Text.{line}

-- a field after a comma
abbrev pub after_comma : List ℕ → List ℕ
after_comma field = 44 ∷ field

-- the texts of borrowed fields
abbrev pub texts : List (Bor (List ℕ)) → List (List ℕ)
texts fields = map (λ (f : Bor (List ℕ)). f.now) fields

pub joined : (x : List ℕ) (xs : List (List ℕ)) → join_with_byte 44 (x ∷ xs) ≡ x ++ flat_map after_comma xs
joined x [] = sym (append-nil x)
joined x (y ∷ ys) = ap (λ (rest : List ℕ). x ++ (44 ∷ rest)) (joined y ys)

-- what was pushed, with the fields from one on, is the whole line
abbrev pub Completes : List ℕ → List (Bor (List ℕ)) → ℕ → List ℕ → Type 0
Completes at_hand fields i whole = (at_hand ++ flat_map after_comma (texts (drop i fields))) ++ 10 ∷ [] ≡ whole

pub begins : (first : List ℕ) (fields : List (Bor (List ℕ))) → Completes first fields 0 (line (first ∷ texts fields))
begins first fields = ap (λ (text : List ℕ). text ++ 10 ∷ []) (sym (joined first (texts fields)))

pub first_within : (first : List ℕ) (fields : List (Bor (List ℕ))) → length first ≤ length (line (first ∷ texts fields))
first_within first fields =
    let rest : List ℕ = flat_map after_comma (texts (drop 0 fields)) in
    omega (arith, ap length (begins first fields), length-append (first ++ rest) (10 ∷ []), length-append first rest)

module _ (at_hand : List ℕ) (fields : List (Bor (List ℕ))) (i : ℕ) (x : Bor (List ℕ)) (whole : List ℕ)
    (within : i < length fields) (is : x ≡ get_or fields i x) (left : Completes at_hand fields i whole) where
  here : drop i fields ≡ x ∷ drop (i + 1) fields
  here = drop_more fields i x within ∙ ap (λ (y : Bor (List ℕ)). y ∷ drop (i + 1) fields) (sym is)

  pub one_less : Completes ((at_hand ++ 44 ∷ []) ++ x.now) fields (i + 1) whole
  one_less =
      let rest : List ℕ = flat_map after_comma (texts (drop (i + 1) fields)) in
      let moved : ((at_hand ++ 44 ∷ []) ++ x.now) ++ rest ≡ at_hand ++ ((44 ∷ x.now) ++ rest) =
      append_assoc (at_hand ++ 44 ∷ []) x.now rest ∙ append_assoc at_hand (44 ∷ []) (x.now ++ rest) in
      ap (λ (text : List ℕ). text ++ 10 ∷ []) moved
      ∙ ap (λ (fs : List (Bor (List ℕ))). (at_hand ++ flat_map after_comma (texts fs)) ++ 10 ∷ []) (sym here) ∙ left

  pub room : length at_hand + length x.now + 2 ≤ length whole
  room =
      let rest : List ℕ = flat_map after_comma (texts (drop (i + 1) fields)) in
      let text : List ℕ = (at_hand ++ 44 ∷ []) ++ x.now in
      let all : length ((text ++ rest) ++ 10 ∷ []) ≡ length whole = ap length one_less in
      omega (
        arith,
        length-append (text ++ rest) (10 ∷ []),
        length-append text rest,
        length-append (at_hand ++ 44 ∷ []) x.now,
        length-append at_hand (44 ∷ []),
      )

-- after the last field its end is left
pub ends : (at_hand : List ℕ) (fields : List (Bor (List ℕ))) (i : ℕ) (whole : List ℕ) → length fields ≤ i
    → Completes at_hand fields i whole → at_hand ++ 10 ∷ [] ≡ whole
ends at_hand fields i whole past left =
    let none : drop i fields ≡ [] = drop_all i fields past in
    sym (ap (λ (text : List ℕ). text ++ 10 ∷ []) (ap (λ (fs : List (Bor (List ℕ))). at_hand ++ flat_map after_comma (texts fs)) none ∙ append-nil at_hand)) ∙ left

-- the pieces of the totals
pub totals_pieces : (text applicants unmatched positions unfilled : List ℕ)
    → (((((((((text ++ codes "totals") ++ codes ",") ++ applicants) ++ codes ",") ++ unmatched) ++ codes ",") ++ positions) ++ codes ",") ++ unfilled) ++ codes "\n"
    ≡ text ++ line (codes "totals" ∷ applicants ∷ unmatched ∷ positions ∷ unfilled ∷ [])
totals_pieces text applicants unmatched positions unfilled = simp append_assoc

-- the pieces of a program's line
pub program_pieces : (text id quota filled received : List ℕ)
    → ((((((((text ++ codes "program,") ++ id) ++ codes ",") ++ quota) ++ codes ",") ++ filled) ++ codes ",") ++ received) ++ codes "\n"
    ≡ text ++ line (codes "program" ∷ id ∷ quota ∷ filled ∷ received ∷ [])
program_pieces text id quota filled received = simp append_assoc
