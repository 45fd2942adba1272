-- A line of a check, field by field, each after a comma.
use Rattle.std.proofs.Common.{◌≡◌, ℕ, ◌+◌, ◌<◌, List, [], ◌∷◌, ◌++◌, length, map, take, get_or, Bor, ap, sym, ◌∙◌}
use Rattle.std.specs.Prelude.{codes}
use Rattle.std.specs.List.{flat_map}
use Rattle.std.proofs.lemmas.Grind.{flat_map-append}
use Rattle.std.proofs.lemmas.List.{append-nil, map-append, take_more}
use Rattle.mt_first_finding.specs.Text.{check_line}
use Rattle.mt_report.proofs.LineFacts.{after_comma, joined}

-- a line by its fields, each after a comma
pub by_commas : (fields : List (List ℕ)) → (codes "check,1" ++ flat_map after_comma fields) ++ 10 ∷ [] ≡ check_line fields
by_commas fields = ap (λ text. text ++ 10 ∷ []) (sym (joined (codes "check") (codes "1" ∷ fields)))

pub one_more : (fields : List (Bor (List ℕ))) (i : ℕ) (x : Bor (List ℕ)) → i < length fields → x ≡ get_or fields i x
    → flat_map after_comma (map (λ (f : Bor (List ℕ)). f.now) (take (i + 1) fields)) ≡ flat_map after_comma (map (λ (f : Bor (List ℕ)). f.now) (take i fields)) ++ (44 ∷ x.now)
one_more fields i x within is =
    ap (λ (fs : List (Bor (List ℕ))). flat_map after_comma (map (λ (f : Bor (List ℕ)). f.now) fs)) (take_more fields i x within ∙ ap (λ y. take i fields ++ y ∷ []) (sym is))
    ∙ ap (flat_map after_comma) (map-append (λ (f : Bor (List ℕ)). f.now) (take i fields) (x ∷ []))
    ∙ flat_map-append after_comma (map (λ (f : Bor (List ℕ)). f.now) (take i fields)) (x.now ∷ [])
    ∙ ap (λ text. flat_map after_comma (map (λ (f : Bor (List ℕ)). f.now) (take i fields)) ++ text) (append-nil (44 ∷ x.now))
