-- A table's search among its pairs, and among one more.
use Rattle.std.proofs.Common.{◌≡◌, Bool, true, false, ◌&&◌, List, [], ◌∷◌, ◌++◌, length, map, position, Some, None, Option, is_some, not, Bor, refl, ap, sym, ◌∙◌, subst, arith, cond}
use Rattle.std.specs.Prelude.{bytes_eq}
use Rattle.std.specs.Option.{option_copied, option_eq}
use Rattle.std.proofs.lemmas.Grind.{common_steps}
use Rattle.std.proofs.lemmas.List.{map-append}
use Rattle.std.proofs.lemmas.List.Sums.{prefix_len-le-length}
use Rattle.std.proofs.lemmas.List.Folds.{position_or_len_push}
use Rattle.mt_terms.specs.Registration.Ids.{Bytes}
use Rattle.mt_terms.specs.Registration.Records.{IdPair}
use Rattle.mt_terms.specs.Registration.Passes.{is_same_pair}
use Rattle.mt_records.specs.Fields.{pair_seen}
use Rattle.mt_passes.proofs.RepeatFacts.{same_pairs, symmetric}

abbrev Place : Type 0
Place = Option (Bor Bytes)

abbrev place_alike : Place → Place → Bool
place_alike o u = option_eq (λ (x y : Bor Bytes). bytes_eq x.now y.now) o u

place_agree : (o u : Place) → place_alike o u ≡ option_eq bytes_eq (option_copied o) (option_copied u)
place_agree None None = refl
place_agree None (Some y) = refl
place_agree (Some x) None = refl
place_agree (Some x) (Some y) = refl

abbrev pub Same : Type 0
Same = Place × Place → Place × Place → Bool

-- how the table's hash map compares two pairs, and how the definition compares them
abbrev pair_alike : Same
pair_alike p q = place_alike p.0 q.0 && place_alike p.1 q.1

abbrev pub same_seen : Same
same_seen p q = is_same_pair (pair_seen p) (pair_seen q)

pair_agree : (p q : Place × Place) → pair_alike p q ≡ same_seen p q
pair_agree p q = rw (place_agree p.0 q.0, place_agree p.1 q.1) refl

pub agree : pair_alike ≡ same_seen
agree = λ i p q. pair_agree p q i

-- A search for a pair finds a new one at the end, and others where they were.
pub found_with : (pairs : List IdPair) (p q : IdPair) → is_some (position (is_same_pair p) pairs) ≡ false
    → cond (is_same_pair p q) (Some (length pairs)) (position (is_same_pair q) pairs) ≡ position (is_same_pair q) (pairs ++ p ∷ [])
found_with pairs p q new = by (is_same_pair p q) refl
  where
    at_end : position (is_same_pair p) (pairs ++ p ∷ []) ≡ Some (length pairs)
    at_end =
        let same : is_same_pair p p ≡ true = (same_pairs p p).1 refl in
        let within = prefix_len-le-length (λ x. not (is_same_pair p x)) pairs in
        grind (arith, common_steps, position_or_len_push (is_same_pair p) pairs p)

    by : (b : Bool) → is_same_pair p q ≡ b → cond b (Some (length pairs)) (position (is_same_pair q) pairs) ≡ position (is_same_pair q) (pairs ++ p ∷ [])
    by true e = subst (λ r. Some (length pairs) ≡ position (is_same_pair r) (pairs ++ p ∷ [])) ((same_pairs p q).0 e) (sym at_end)
    by false e =
        let other : is_same_pair q p ≡ false = symmetric is_same_pair same_pairs p q e in
        grind (arith, common_steps, position_or_len_push (is_same_pair q) pairs p)

-- the pairs that are held, with one more
pub seen_with : (held held' held'' : List (Place × Place)) (pair : Place × Place) → held' ≡ held → held'' ≡ held' ++ pair ∷ [] → map pair_seen held'' ≡ map pair_seen held ++ pair_seen pair ∷ []
seen_with held held' held'' pair same is = ap (map pair_seen) (is ∙ ap (λ h. h ++ pair ∷ []) same) ∙ map-append pair_seen held (pair ∷ [])
