-- Lines made piece by piece.
use Rattle.std.proofs.Common.{◌≡◌, ℕ, ◌+◌, ◌<◌, List, [], ◌∷◌, ◌++◌, length, map, take, get_or, ap, sym, ◌∙◌, append_assoc}
use Rattle.std.specs.Prelude.{codes, decimal}
use Rattle.std.specs.List.{flat_map}
use Rattle.std.proofs.lemmas.Grind.{flat_map-append}
use Rattle.std.proofs.lemmas.List.{append-nil, map-append, take_more}
use Rattle.mt_terms.specs.Text.{line}
use Rattle.mt_report.proofs.LineFacts.{after_comma, joined}

-- the digits of some numbers, each after a comma
abbrev pub after_commas : List ℕ → List ℕ
after_commas numbers = flat_map after_comma (map decimal numbers)

-- one number more
numbers_more : (numbers : List ℕ) (i : ℕ) → i < length numbers
    → after_commas (take (i + 1) numbers) ≡ after_commas (take i numbers) ++ (44 ∷ decimal (get_or numbers i 0))
numbers_more numbers i within =
    ap after_commas (take_more numbers i 0 within)
    ∙ ap (flat_map after_comma) (map-append decimal (take i numbers) (get_or numbers i 0 ∷ []))
    ∙ flat_map-append after_comma (map decimal (take i numbers)) (decimal (get_or numbers i 0) ∷ [])
    ∙ ap (λ (text : List ℕ). after_commas (take i numbers) ++ text) (append-nil (44 ∷ decimal (get_or numbers i 0)))

move : (text word rest digits : List ℕ) → (text ++ (word ++ rest)) ++ codes "," ++ digits ≡ text ++ (word ++ (rest ++ (44 ∷ digits)))
move text word rest digits = simp append_assoc

pub one_number : (text word numbers : List ℕ) (i : ℕ) → i < length numbers
    → (text ++ (word ++ after_commas (take i numbers))) ++ codes "," ++ decimal (get_or numbers i 0) ≡ text ++ (word ++ after_commas (take (i + 1) numbers))
one_number text word numbers i within =
    move text word (after_commas (take i numbers)) (decimal (get_or numbers i 0))
    ∙ ap (λ (rest : List ℕ). text ++ (word ++ rest)) (sym (numbers_more numbers i within))

-- all numbers
pub whole_line : (text word numbers : List ℕ) → (text ++ (word ++ after_commas numbers)) ++ 10 ∷ [] ≡ text ++ line (word ∷ map decimal numbers)
whole_line text word numbers =
    append_assoc text (word ++ after_commas numbers) (10 ∷ [])
    ∙ ap (λ (all : List ℕ). text ++ (all ++ 10 ∷ [])) (sym (joined word (map decimal numbers)))

-- the pieces of a program's line
pub standing_pieces : (text id quota filled listed last : List ℕ)
    → ((((((((((text ++ codes "program,") ++ id) ++ codes ",") ++ quota) ++ codes ",") ++ filled) ++ codes ",") ++ listed) ++ codes ",") ++ last) ++ codes "\n"
    ≡ text ++ line (codes "program" ∷ id ∷ quota ∷ filled ∷ listed ∷ last ∷ [])
standing_pieces text id quota filled listed last = simp append_assoc
