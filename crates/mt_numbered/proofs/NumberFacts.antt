-- The numbers of ids: those of a vector, or the places of the ids if there is none.
use Rattle.std.proofs.Common.{◌≡◌, ℕ, ◌+◌, ◌<◌, ◌≤◌, ◌^◌, Bool, true, false, not, ◌||◌, List, [], ◌∷◌, length, get_or, Option, Some, None, Vec, ap, sym, subst, ◌∙◌, arith, cond}
use Rattle.std.specs.Prelude.{bytes_eq}
use Rattle.std.specs.Global.{Global}
use Rattle.std.proofs.lemmas.List.{get_or_past}
use Rattle.mt_terms.proofs.BelowFacts.{map_below_at, length-map_below}
use Rattle.mt_terms.specs.Registration.Ids.{Bytes, has_id, number_of}
use Rattle.mt_id_lists.specs.Numbering.{Numbering, number_by}
use Rattle.mt_numbered.specs.IdLists.{numbers_seen, AreFor}

-- the number of an id that is none of these is not below their count
past_all : (ids : List Bytes) (x : Bytes) → has_id ids x ≡ false → length ids ≤ number_of ids x
past_all [] x h = omega arith
past_all (y ∷ ys) x h = by (bytes_eq x y) h (past_all ys x)
  where
    by : (b : Bool) → (b || has_id ys x) ≡ false → (has_id ys x ≡ false → length ys ≤ number_of ys x) → length (y ∷ ys) ≤ cond (not b) (1 + number_of ys x) 0
    by true h ih = cc
    by false h ih = omega (arith, ih h)

module _ {X : Type 0} (at : ℕ → X) (count : ℕ) where
  long : (o : Option (Vec (Option X) Global)) → AreFor count o → length (numbers_seen at count o) ≡ count
  long (Some table) are = are
  long None are = length-map_below (λ k. Some (at k)) count

  -- Below, these are the numbers that are seen.
  module _ (n : Numbering X) (ids : List Bytes) (o : Option (Vec (Option X) Global)) (counted : length ids ≡ count)
      (view : record { ids = ids; numbers = numbers_seen at count o } ≡ n) (are : AreFor count o) where
    seen : numbers_seen at count o ≡ n.numbers
    seen = ap (λ (m : Numbering X). m.numbers) view

    pub all_ids : length n.ids ≡ count
    all_ids = sym (ap (λ (m : Numbering X). length m.ids) view) ∙ counted

    pub in_table : (table : Vec (Option X) Global) → o ≡ Some table → (length table.items ≡ length n.ids) × (table.items ≡ n.numbers)
    in_table table is = (subst (AreFor count) is are ∙ sym all_ids, sym (ap (numbers_seen at count) is) ∙ seen)

    pub few_places : o ≡ None → (place : ℕ) → place < length n.ids → place < 2 ^ 32
    few_places is place low = let few : count < 2 ^ 32 = subst (AreFor count) is are in omega (arith, few, low, all_ids)

    pub at_place : o ≡ None → (place : ℕ) → place < length n.ids → Some (at place) ≡ get_or n.numbers place None
    at_place is place low =
        sym (map_below_at (λ k. Some (at k)) count place None (omega (arith, low, all_ids)))
        ∙ ap (λ (xs : List (Option X)). get_or xs place None) (sym (ap (numbers_seen at count) is) ∙ seen)

    pub no_number : (id : Bytes) → has_id ids id ≡ false → None ≡ number_by n id
    no_number id none =
        let past = past_all n.ids id (ap (λ (m : Numbering X). has_id m.ids id) (sym view) ∙ none) in
        sym (get_or_past n.numbers (number_of n.ids id) None (omega (arith, past, all_ids, sym (ap length seen) ∙ long o are)))
