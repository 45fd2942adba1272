-- The pieces of the lines of explanations.
use Rattle.std.proofs.Common.{◌≡◌, ℕ, List, [], ◌∷◌, ◌++◌, append_assoc, refl}
use Rattle.std.specs.Prelude.{codes}
use Rattle.mt_terms.specs.Text.{line}

pub single_pieces : (text id place choice rank : List ℕ)
    → (((((((((text ++ codes "applicant") ++ codes ",") ++ id) ++ codes ",") ++ place) ++ codes ",") ++ choice) ++ codes ",") ++ rank) ++ codes ",,,,\n"
    ≡ text ++ line (codes "applicant" ∷ id ∷ place ∷ choice ∷ rank ∷ [] ∷ [] ∷ [] ∷ [] ∷ [])
single_pieces text id place choice rank = simp append_assoc

pub couple_pieces : (text id first second choice : List ℕ)
    → (((((((((text ++ codes "couple") ++ codes ",") ++ id) ++ codes ",") ++ first) ++ codes ",") ++ second) ++ codes ",") ++ choice) ++ codes ",,,,\n"
    ≡ text ++ line (codes "couple" ∷ id ∷ first ∷ second ∷ choice ∷ [] ∷ [] ∷ [] ∷ [] ∷ [])
couple_pieces text id first second choice = simp append_assoc

-- the front of the line of an option's place
abbrev pub above_front : (text id choice program member : List ℕ) → List ℕ
above_front text id choice program member =
    ((((((((text ++ codes "above") ++ codes ",") ++ id) ++ codes ",") ++ choice) ++ codes ",") ++ program) ++ codes ",") ++ member

pub above_pieces : (text id choice program member rank quota ahead why : List ℕ)
    → ((((((((above_front text id choice program member ++ codes ",") ++ rank) ++ codes ",") ++ quota) ++ codes ",") ++ ahead) ++ codes ",") ++ why) ++ codes "\n"
    ≡ text ++ line (codes "above" ∷ id ∷ choice ∷ program ∷ member ∷ rank ∷ quota ∷ ahead ∷ why ∷ [])
above_pieces text id choice program member rank quota ahead why = simp append_assoc

-- the same line with the same fields
module _ (text id choice program member rank quota ahead why id' choice' program' member' rank' quota' ahead' why' : List ℕ) where
  pub above_same : id ≡ id' → choice ≡ choice' → program ≡ program' → member ≡ member' → rank ≡ rank' → quota ≡ quota' → ahead ≡ ahead' → why ≡ why'
      → text ++ line (codes "above" ∷ id ∷ choice ∷ program ∷ member ∷ rank ∷ quota ∷ ahead ∷ why ∷ [])
      ≡ text ++ line (codes "above" ∷ id' ∷ choice' ∷ program' ∷ member' ∷ rank' ∷ quota' ∷ ahead' ∷ why' ∷ [])
  above_same a b c d e f g h = rw (a, b, c, d, e, f, g, h) refl
