-- Lists that are looked up in pieces. A list is its pieces one after another, so its places are those of its pieces. A list
-- whose places are known stands if no place is met twice.
use Rattle.std.proofs.Common.{◌≡◌, ℕ, zero, suc, ◌+◌, ◌-◌, ◌<◌, Bool, true, false, not, ◌&&◌, List, [], ◌∷◌, ◌++◌, length, map, take, drop, get_or, set, Option, Some, None, refl, ap, sym, subst, ◌∙◌, arith, if◌then◌else◌}
use Rattle.std.specs.Prelude.{filter_map, flat_map, option_to_list, All}
use Rattle.std.specs.List.{list_all, cons_option}
use Rattle.std.proofs.lemmas.List.{append_assoc, append-nil, take-append-drop, take_more, map-append}
use Rattle.std.proofs.lemmas.List.Folds.{list_all-append}
use Rattle.std.proofs.lemmas.Grind.{flat_map-append}
use Rattle.mt_terms.proofs.IdFacts.{number_below}
use Rattle.mt_terms.specs.Registration.Ids.{Bytes, has_id, number_of, stands_once}
use Rattle.mt_id_lists.specs.Met.{IsNoneMet}
use Rattle.mt_id_lists.specs.Numbering.{Numbering, number_by, numbers_by}
use Rattle.mt_id_lists.proofs.MetFacts.{stands_from, stands_from-once}
use Rattle.mt_id_lists.proofs.ReadingSteps.{both, ids_are_read, one_seen}
use Rattle.mt_id_lists.specs.Reading.{with_more, with_kept, ids_stand, ids_read, ReadsOne}
use Rattle.mt_flat.specs.FlatLists.{with_last}
use Rattle.std.specs.Borrow.{Bor}
use Rattle.mt_lists.specs.declared.row.Fields.{Fields}
use Rattle.mt_numbered.specs.IdLists.{ids_in, list_seen}
use Rattle.mt_numbered.specs.declared.pieces.Piece.{Piece}
use Rattle.mt_numbered.specs.Pieces.{piece_ids, piece_stands, piece_read}
use Rattle.mt_numbered.specs.Places.{ArePlaces, ReadsPlaces}

-- a list one step on, and its first elements
module _ {X : Type 0} where
  pub take-none : (k : ℕ) (left : List X) → left ≡ [] → take k left ≡ []
  take-none zero left is = refl
  take-none (suc k) left is = rw is refl

  pub take-first : (k : ℕ) (left : List X) (x : X) (rest : List X) → left ≡ x ∷ rest → 0 < k → take k left ≡ x ∷ take (k - 1) rest
  take-first zero left x rest is some = absurd (omega (arith, some))
  take-first (suc k) left x rest is some = let one : suc k - 1 ≡ k = omega arith in rw (is, one) refl

-- a list with a piece more
pub one_piece-more : (pieces : List Piece) (piece : Piece) (left all : List Bytes) → piece_ids piece ≡ take piece.count left
    → flat_map piece_ids pieces ++ left ≡ all → flat_map piece_ids (pieces ++ piece ∷ []) ++ drop piece.count left ≡ all
one_piece-more pieces piece left all is whole =
    ap (λ (l : List Bytes). l ++ drop piece.count left)
    (flat_map-append piece_ids pieces (piece ∷ []) ∙ ap (λ (l : List Bytes). flat_map piece_ids pieces ++ l) (append-nil (piece_ids piece) ∙ is))
    ∙ append_assoc (flat_map piece_ids pieces) (take piece.count left) (drop piece.count left)
    ∙ ap (λ (l : List Bytes). flat_map piece_ids pieces ++ l) (take-append-drop piece.count left)
    ∙ whole

module _ (ids : List Bytes) where
  -- a list by its pieces
  pub pieces_stand : (pieces : List Piece) → list_all (piece_stands ids) pieces ≡ list_all (has_id ids) (flat_map piece_ids pieces)
  pieces_stand [] = refl
  pieces_stand (p ∷ ps) = ap (λ (b : Bool). piece_stands ids p && b) (pieces_stand ps) ∙ sym (list_all-append (has_id ids) (piece_ids p) (flat_map piece_ids ps))

  pub length-pieces_read : (pieces : List Piece) → length (flat_map (piece_read ids) pieces) ≡ length pieces
  length-pieces_read [] = refl
  length-pieces_read (p ∷ ps) = ap suc (length-pieces_read ps)

  pub pieces_read : (pieces : List Piece) → flat_map (λ (l : List ℕ). l) (flat_map (piece_read ids) pieces) ≡ map (number_of ids) (flat_map piece_ids pieces)
  pieces_read [] = refl
  pieces_read (p ∷ ps) =
      ap (λ (l : List ℕ). map (number_of ids) (piece_ids p) ++ l) (pieces_read ps)
      ∙ sym (map-append (number_of ids) (piece_ids p) (flat_map piece_ids ps))

  -- a piece was read, of which these ids are left: none, an unknown one, and a known one
  pub piece_done : (taken : List Bytes) (stands : Bool) (lists new : List (List ℕ)) → taken ≡ [] → list_all (has_id ids) taken ≡ stands
      → with_more lists (map (number_of ids) taken) ≡ new → (stands ≡ true) × (lists ≡ new)
  piece_done taken stands lists new none all rest =
      (sym all ∙ ap (list_all (has_id ids)) none, ap (λ (l : List Bytes). with_more lists (map (number_of ids) l)) (sym none) ∙ rest)

  module _ (taken : List Bytes) (id : Bytes) (more : List Bytes) (is : taken ≡ id ∷ more) where
    pub piece_unknown : (stands : Bool) → has_id ids id ≡ false → list_all (has_id ids) taken ≡ stands → stands ≡ false
    piece_unknown stands missing all = sym all ∙ ap (list_all (has_id ids)) is ∙ ap (λ (b : Bool). b && list_all (has_id ids) more) missing

    pub piece_known : (stands : Bool) → has_id ids id ≡ true → list_all (has_id ids) taken ≡ stands → list_all (has_id ids) more ≡ stands
    piece_known stands known all = sym (ap (list_all (has_id ids)) is ∙ ap (λ (b : Bool). b && list_all (has_id ids) more) known) ∙ all

    pub piece_more : (place : ℕ) (lists grown new : List (List ℕ)) → number_of ids id ≡ place → grown ≡ with_last lists place
        → with_more lists (map (number_of ids) taken) ≡ new → with_more grown (map (number_of ids) more) ≡ new
    piece_more place lists grown new at grows rest =
        ap (λ (l : List (List ℕ)). with_more l (map (number_of ids) more)) grows
        ∙ ap (λ (p : ℕ). with_more (with_last lists p) (map (number_of ids) more)) (sym at)
        ∙ sym (ap (λ (l : List Bytes). with_more lists (map (number_of ids) l)) is)
        ∙ rest

  -- the places of ids are within these
  each_within : (list : List Bytes) → list_all (has_id ids) list ≡ true → All (λ place. place < length ids) (map (number_of ids) list)
  each_within [] all k d low = absurd (omega (arith, low))
  each_within (x ∷ xs) all zero d low = number_below ids x (both (has_id ids x) (list_all (has_id ids) xs) all).0
  each_within (x ∷ xs) all (suc k) d low = each_within xs (both (has_id ids x) (list_all (has_id ids) xs) all).1 k d (omega (arith, low))

  pub places_within : (list : List Bytes) (places : List ℕ) → ArePlaces ids list places → All (λ place. place < length ids) places
  places_within list places are = subst (All (λ place. place < length ids)) (sym are.1) (each_within list are.0)

-- lists of places one after another, and one list more
pub joined-more : (lists : List (List ℕ)) (k : ℕ) (items list new : List ℕ) → k < length lists → items ≡ flat_map (λ l. l) (take k lists)
    → list ≡ get_or lists k [] → new ≡ items ++ list → new ≡ flat_map (λ l. l) (take (k + 1) lists)
joined-more lists k items list new within are is grows =
    grows
    ∙ ap (λ (l : List ℕ). l ++ list) are
    ∙ ap (λ (l : List ℕ). flat_map (λ m. m) (take k lists) ++ l) (is ∙ sym (append-nil (get_or lists k [])))
    ∙ sym (flat_map-append (λ (m : List ℕ). m) (take k lists) (get_or lists k [] ∷ []))
    ∙ ap (flat_map (λ (m : List ℕ). m)) (sym (take_more lists k [] within))

-- whether no place is met twice, nor was met before
abbrev pub meets : List Bool → List ℕ → Bool
meets met [] = true
meets met (place ∷ places) = not (get_or met place false) && meets (set met place true) places

-- the new numbers of the ids at places, of those that have one
abbrev pub numbers_at : {X : Type 0} → Numbering X → List ℕ → List X
numbers_at n places = filter_map (λ place. get_or n.numbers place None) places

module _ (ids : List Bytes) where
  meets-from : (met : List Bool) (list : List Bytes) → list_all (has_id ids) list ≡ true → meets met (map (number_of ids) list) ≡ stands_from ids met list
  meets-from met [] all = refl
  meets-from met (x ∷ xs) all =
      let parts = both (has_id ids x) (list_all (has_id ids) xs) all in
      rw (parts.0, meets-from (set met (number_of ids x) true) xs parts.1) refl

  pub meets-once : (met : List Bool) (list : List Bytes) (places : List ℕ) → length met ≡ length ids → IsNoneMet met → ArePlaces ids list places
      → meets met places ≡ stands_once ids list
  meets-once met list places long none are = ap (meets met) are.1 ∙ meets-from met list are.0 ∙ stands_from-once ids met list long none

module _ {X : Type 0} (n : Numbering X) where
  numbers_at-by : (list : List Bytes) → numbers_at n (map (number_of n.ids) list) ≡ numbers_by n list
  numbers_at-by [] = refl
  numbers_at-by (x ∷ xs) = ap (cons_option (number_by n x)) (numbers_at-by xs)

  pub numbers_at-more : (kept : Bool) (left : List ℕ) (k : ℕ) (rest : List ℕ) (lists new : List (List X)) → left ≡ k ∷ rest
      → new ≡ with_kept kept lists (option_to_list (get_or n.numbers k None)) → with_kept kept new (numbers_at n rest) ≡ with_kept kept lists (numbers_at n left)
  numbers_at-more false left k rest lists new is grown = grown
  numbers_at-more true left k rest lists new is grown = rw (is, grown) (by (get_or n.numbers k None))
    where
      by : (o : Option X) → with_more (with_more lists (option_to_list o)) (numbers_at n rest) ≡ with_more lists (cons_option o (numbers_at n rest))
      by None = refl
      by (Some x) = refl

  pub numbers_at-none : (kept : Bool) (left : List ℕ) (lists : List (List X)) → left ≡ [] → lists ≡ with_kept kept lists (numbers_at n left)
  numbers_at-none false left lists none = refl
  numbers_at-none true left lists none = rw none refl

  -- a list whose places are known is read
  pub list_is_read : (list : Option (Bor Fields) × Bool) (places : List ℕ) (old begun new : List (List X)) (found : Bool) → ArePlaces n.ids (ids_in list.0) places
      → begun ≡ old ++ (if list.1 then [] ∷ [] else []) → ReadsPlaces n list.1 places begun new found
      → ReadsOne (λ l. ids_stand n (list_seen l)) (λ l. ids_read n (list_seen l)) list old new found
  list_is_read list places old begun new found are begins reads =
      one_seen list_seen (ids_stand n) (ids_read n) list (list.1, ids_in list.0) old new found refl
      (ids_are_read n list.1 (ids_in list.0) old begun new found begins (reads (ids_in list.0) are))

  pub numbers-by : (list : List Bytes) (places : List ℕ) → ArePlaces n.ids list places → numbers_at n places ≡ numbers_by n list
  numbers-by list places are = ap (numbers_at n) are.1 ∙ numbers_at-by list
