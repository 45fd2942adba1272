-- The pieces of a fault's line, as they are put on a page, are the line.
use Rattle.std.proofs.Common.{◌≡◌, ℕ, List, [], ◌∷◌, ◌++◌, append_assoc, false, length, nat_eq, refl}
use Rattle.std.specs.Prelude.{codes}
use Rattle.std.specs.List.{join_with_byte}
use Rattle.mt_terms.specs.Registration.Ids.{Bytes}
use Rattle.mt_terms.specs.Text.{comma, id_text, line}

-- the front of a code's lines by its fields
abbrev pub code_front_by : (code name : Bytes) → Bytes
code_front_by code name = join_with_byte comma (codes "check" ∷ codes "1" ∷ codes "fault" ∷ code ∷ name ∷ []) ++ codes ","

-- the page as far as the id, the rest of the line, and an id that is shown as it is
pub head_pieces : (page one two three front field : List ℕ) → one ≡ page ++ front → two ≡ one ++ field → three ≡ two ++ codes "," → three ≡ page ++ ((front ++ field) ++ codes ",")
head_pieces page one two three front field a b c = rw (c, b, a) (simp append_assoc)

pub id_pieces : (front field id : List ℕ) → ((front ++ field) ++ codes ",") ++ (id ++ codes "\n") ≡ front ++ line (field ∷ id ∷ [])
id_pieces front field id = simp append_assoc

pub shown_id : (id : List ℕ) → nat_eq (length id) 0 ≡ false → id ≡ id_text id
shown_id [] h = cc
shown_id (x ∷ xs) h = refl

pub line_pieces : (code name number begins_on field id : List ℕ)
    → (code_front_by code name ++ (join_with_byte comma (number ∷ begins_on ∷ []) ++ codes ",")) ++ line (field ∷ id ∷ [])
    ≡ line (codes "check" ∷ codes "1" ∷ codes "fault" ∷ code ∷ name ∷ number ∷ begins_on ∷ field ∷ id ∷ [])
line_pieces code name number begins_on field id = simp append_assoc

pub count_pieces : (page count : List ℕ)
    → (((page ++ codes "check,1,faults") ++ codes ",") ++ count) ++ codes "\n" ≡ page ++ line (codes "check" ∷ codes "1" ∷ codes "faults" ∷ count ∷ [])
count_pieces page count = simp append_assoc

pub accepted_pieces : (page applicants programs couples entries wanted : List ℕ)
    → (((((((((((page ++ codes "check,1,accepted") ++ codes ",") ++ applicants) ++ codes ",") ++ programs) ++ codes ",") ++ couples) ++ codes ",") ++ entries) ++ codes ",") ++ wanted) ++ codes "\n"
    ≡ page ++ line (codes "check" ∷ codes "1" ∷ codes "accepted" ∷ applicants ∷ programs ∷ couples ∷ entries ∷ wanted ∷ [])
accepted_pieces page applicants programs couples entries wanted = simp append_assoc
