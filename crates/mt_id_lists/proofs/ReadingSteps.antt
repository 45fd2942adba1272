-- Steps of the loops that read lists by numbers.
use Rattle.std.proofs.Common.{◌≡◌, ℕ, Bool, true, false, ◌&&◌, List, [], ◌∷◌, ◌++◌, map, get_or, Option, Some, None, refl, ap, sym, ◌∙◌, if◌then◌else◌}
use Rattle.std.specs.Prelude.{flat_map, option_to_list}
use Rattle.std.specs.List.{list_all, cons_option}
use Rattle.std.proofs.lemmas.List.{append_assoc, append-nil}
use Rattle.mt_terms.specs.Registration.Ids.{Bytes, number_of}
use Rattle.mt_id_lists.specs.Numbering.{Numbering, number_by, numbers_by}
use Rattle.mt_id_lists.specs.Reading.{with_more, with_kept, ids_stand, ids_read, ReadsIds, ReadsOne, ReadsAll}
use Rattle.mt_id_lists.proofs.ListFacts.{with_more-begun}

-- the parts of a test of two
pub both : (a b : Bool) → (a && b) ≡ true → (a ≡ true) × (b ≡ true)
both true b h = (refl, h)
both false b h = cc

module _ {X : Type 0} (n : Numbering X) where
  -- a list by new numbers, one id on
  pub numbers-more : (kept : Bool) (left : List Bytes) (id : Bytes) (rest : List Bytes) (k : ℕ) (lists new : List (List X)) → left ≡ id ∷ rest
      → number_of n.ids id ≡ k → new ≡ with_kept kept lists (option_to_list (get_or n.numbers k None))
      → with_kept kept new (numbers_by n rest) ≡ with_kept kept lists (numbers_by n left)
  numbers-more false left id rest k lists new is at grown = grown
  numbers-more true left id rest k lists new is at grown = rw (is, grown, ← at) (by (number_by n id))
    where
      by : (o : Option X) → with_more (with_more lists (option_to_list o)) (numbers_by n rest) ≡ with_more lists (cons_option o (numbers_by n rest))
      by None = refl
      by (Some x) = refl

  -- a list that was begun is read
  pub ids_are_read : (kept : Bool) (list : List Bytes) (old begun new : List (List X)) (found : Bool) → begun ≡ old ++ (if kept then [] ∷ [] else [])
      → ReadsIds n kept list begun new found → ReadsOne (ids_stand n) (ids_read n) (kept, list) old new found
  ids_are_read kept list old begun new false begins reads = reads
  ids_are_read true list old begun new true begins reads =
      (reads.0, reads.1 ∙ ap (λ (l : List (List X)). with_more l (numbers_by n list)) begins ∙ with_more-begun old (numbers_by n list))
  ids_are_read false list old begun new true begins reads = (reads.0, reads.1 ∙ begins)

-- a list by what it is seen as, and so all lists
module _ {L M X : Type 0} (seen : L → M) (stands : M → Bool) (read : M → List (List X)) where
  pub one_seen : (x : L) (y : M) (old new : List (List X)) (found : Bool) → seen x ≡ y → ReadsOne stands read y old new found
      → ReadsOne (λ l. stands (seen l)) (λ l. read (seen l)) x old new found
  one_seen x y old new false is reads = ap stands is ∙ reads
  one_seen x y old new true is reads = (ap stands is ∙ reads.0, reads.1 ∙ ap (λ (m : M). old ++ read m) (sym is))

  stand_seen : (xs : List L) → list_all (λ l. stands (seen l)) xs ≡ list_all stands (map seen xs)
  stand_seen [] = refl
  stand_seen (x ∷ xs) = ap (λ (b : Bool). stands (seen x) && b) (stand_seen xs)

  read_seen : (xs : List L) → flat_map (λ l. read (seen l)) xs ≡ flat_map read (map seen xs)
  read_seen [] = refl
  read_seen (x ∷ xs) = ap (λ (l : List (List X)). read (seen x) ++ l) (read_seen xs)

  pub all_seen : (xs : List L) (ys : List M) (o : Option (List (List X))) → map seen xs ≡ ys → ReadsAll (λ l. stands (seen l)) (λ l. read (seen l)) xs o
      → ReadsAll stands read ys o
  all_seen xs ys None are reads = sym (stand_seen xs ∙ ap (list_all stands) are) ∙ reads
  all_seen xs ys (Some new) are reads =
      (sym (stand_seen xs ∙ ap (list_all stands) are) ∙ reads.0, reads.1 ∙ read_seen xs ∙ ap (flat_map read) are)

-- Lists are read, of which these are left.
pub record AreReadTo {L X : Type 0} (stands : L → Bool) (read : L → List (List X)) (all : List L) (lists : List (List X)) (left : List L) : Type 0 where
  pub stand : list_all stands left ≡ list_all stands all
  pub rest : lists ++ flat_map read left ≡ flat_map read all

module _ {L X : Type 0} (stands : L → Bool) (read : L → List (List X)) (all : List L) (lists : List (List X)) (left : List L)
    (are : AreReadTo stands read all lists left) where
  -- all are read
  pub read_all : left ≡ [] → ReadsAll stands read all (Some lists)
  read_all none = (
    sym are.stand ∙ ap (list_all stands) none,
    sym (append-nil lists) ∙ ap (λ (l : List L). lists ++ flat_map read l) (sym none) ∙ are.rest,
  )

  module _ (list : L) (rest : List L) (is : left ≡ list ∷ rest) where
    -- a list doesn't stand
    pub read_no_more : stands list ≡ false → list_all stands all ≡ false
    read_no_more fails = sym are.stand ∙ ap (list_all stands) is ∙ ap (λ (b : Bool). b && list_all stands rest) fails

    -- a list is read
    pub read_one : (new : List (List X)) → ReadsOne stands read list lists new true → AreReadTo stands read all new rest
    read_one new reads = record {
      stand = ap (λ (b : Bool). b && list_all stands rest) (sym reads.0) ∙ sym (ap (list_all stands) is) ∙ are.stand;
      rest = ap (λ (l : List (List X)). l ++ flat_map read rest) reads.1
          ∙ append_assoc lists (read list) (flat_map read rest)
          ∙ ap (λ (l : List L). lists ++ flat_map read l) (sym is) ∙ are.rest;
    }
