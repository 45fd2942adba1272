-- Steps of the loops that read couples' lists of pairs by new numbers.
use Rattle.std.proofs.Common.{◌≡◌, ◌<◌, ℕ, Bool, true, false, not, ◌&&◌, List, [], ◌∷◌, ◌++◌, length, map, Option, Some, None, refl, ap, sym, ◌∙◌, arith, if◌then◌else◌}
use Rattle.std.specs.Prelude.{option_map, option_to_list, IfSome, bytes_eq, nat_eq}
use Rattle.std.specs.List.{list_all, list_any, cons_option}
use Rattle.std.specs.Option.{option_eq}
use Rattle.std.proofs.lemmas.Bool.Decides.{nat_tests}
use Rattle.std.proofs.lemmas.List.{append_assoc}
use Rattle.mt_draft_laws.specs.Faultless.{is_allowed, pair_stands}
use Rattle.mt_draft_laws.specs.Staying.{new_pair}
use Rattle.mt_record_laws.proofs.IdFacts.{not_true}
use Rattle.mt_terms.proofs.IdFacts.{number_below, same_number, same_id, is_same}
use Rattle.mt_terms.specs.Market.{Pair}
use Rattle.mt_terms.specs.Registration.Ids.{Bytes, has_id, number_of, all_differ}
use Rattle.mt_terms.specs.Registration.Records.{IdPair}
use Rattle.mt_terms.specs.Registration.Passes.{is_same_pair}
use Rattle.mt_terms.specs.Registration.Numbering.{is_none_or_in, names_only, pair_by_number}
use Rattle.mt_pair_lists.specs.Pairs.{pair_in}
use Rattle.mt_id_lists.specs.Numbering.{Numbering}
use Rattle.mt_id_lists.specs.Reading.{with_more, with_kept}
use Rattle.mt_pair_lists.specs.Pairs.{pairs_by, pairs_read, pairs_stand_in, ReadsPairs}
use Rattle.mt_id_lists.specs.Reading.{ReadsOne}
use Rattle.mt_id_lists.proofs.ListFacts.{with_more-begun}
use Rattle.mt_id_lists.proofs.ReadingSteps.{both}

-- a place by number is within the programs
place_within : (ids : List Bytes) (place : Option Bytes) → is_none_or_in ids place ≡ true → IfSome (option_map (number_of ids) place) (λ n. n < length ids)
place_within ids None h = tt
place_within ids (Some id) h = number_below ids id h

-- pairs that stand name none but these programs
stands_only : (half_pairs : Bool) (ids : List Bytes) (p : IdPair) → pair_stands half_pairs ids p ≡ true → names_only ids p ≡ true
stands_only half_pairs ids p h = (both (is_allowed half_pairs p) (names_only ids p) h).1

pub all_only : (half_pairs : Bool) (ids : List Bytes) (ps : List IdPair) → list_all (pair_stands half_pairs ids) ps ≡ true → list_all (names_only ids) ps ≡ true
all_only half_pairs ids [] h = refl
all_only half_pairs ids (p ∷ ps) h =
    let parts = both (pair_stands half_pairs ids p) (list_all (pair_stands half_pairs ids) ps) h in
    rw (stands_only half_pairs ids p parts.0, all_only half_pairs ids ps parts.1) refl

-- A pair that was looked up: it stands.
pub record IsFound (half_pairs : Bool) (ids : List Bytes) (p : IdPair) (q : Pair) : Type 0 where
  pub stands : pair_stands half_pairs ids p ≡ true
  pub is : pair_by_number ids p ≡ q
  pub first : IfSome q.0 (λ n. n < length ids)
  pub second : IfSome q.1 (λ n. n < length ids)

pub found_pair : (half_pairs : Bool) (ids : List Bytes) (p : IdPair) (q : Pair) → Some q ≡ pair_in half_pairs ids p → IsFound half_pairs ids p q
found_pair half_pairs ids p q h = by (pair_stands half_pairs ids p) refl h
  where
    by : (b : Bool) → pair_stands half_pairs ids p ≡ b → Some q ≡ (if b then Some (pair_by_number ids p) else None) → IsFound half_pairs ids p q
    by true stands e =
        let same : pair_by_number ids p ≡ q = cc in
        let parts = both (is_none_or_in ids p.0) (is_none_or_in ids p.1) (stands_only half_pairs ids p stands) in
        record {
          stands = stands;
          is = same;
          first = rw (← same) (place_within ids p.0 parts.0);
          second = rw (← same) (place_within ids p.1 parts.1);
        }
    by false stands e = cc

-- a list of pairs by new numbers, one pair on
pub pairs_by-more : (n : Numbering ℕ) (kept : Bool) (left : List IdPair) (p : IdPair) (rest : List IdPair) (q : Pair) (lists new : List (List Pair))
    → left ≡ p ∷ rest → pair_by_number n.ids p ≡ q → new ≡ with_kept kept lists (option_to_list (new_pair n.numbers q))
    → with_kept kept new (pairs_by n rest) ≡ with_kept kept lists (pairs_by n left)
pairs_by-more n false left p rest q lists new is at grown = grown
pairs_by-more n true left p rest q lists new is at grown =
    let grown' : new ≡ with_more lists (option_to_list (new_pair n.numbers (pair_by_number n.ids p))) =
    grown ∙ ap (λ (r : Pair). with_more lists (option_to_list (new_pair n.numbers r))) (sym at) in
    rw (is, grown') (by (new_pair n.numbers (pair_by_number n.ids p)))
  where
    by : (o : Option Pair) → with_more (with_more lists (option_to_list o)) (pairs_by n rest) ≡ with_more lists (cons_option o (pairs_by n rest))
    by None = refl
    by (Some x) = refl

-- and by the numbers among all programs
pub numbers-more : (ids : List Bytes) (left : List IdPair) (p : IdPair) (rest : List IdPair) → left ≡ p ∷ rest → (q : Pair) → pair_by_number ids p ≡ q
    → (found new : List Pair) → new ≡ found ++ q ∷ [] → new ++ map (pair_by_number ids) rest ≡ found ++ map (pair_by_number ids) left
numbers-more ids left p rest is q at found new e =
    ap (λ (l : List Pair). l ++ map (pair_by_number ids) rest) e
    ∙ append_assoc found (q ∷ []) (map (pair_by_number ids) rest)
    ∙ ap (λ (x : Pair). found ++ x ∷ map (pair_by_number ids) rest) (sym at)
    ∙ ap (λ (l : List IdPair). found ++ map (pair_by_number ids) l) (sym is)

-- no pairs are added
pub no_pairs-more : (kept : Bool) (lists : List (List Pair)) → with_kept kept lists [] ≡ lists
no_pairs-more true lists = refl
no_pairs-more false lists = refl

-- a list that was begun is read
pub pairs_are_added : (n : Numbering ℕ) (half_pairs kept : Bool) (list : List IdPair) (old begun new : List (List Pair)) (found : Bool)
    → begun ≡ old ++ (if kept then [] ∷ [] else []) → ReadsPairs half_pairs n kept list begun new found
    → ReadsOne (pairs_stand_in half_pairs n) (pairs_read n) (kept, list) old new found
pairs_are_added n half_pairs kept list old begun new false begins reads = reads
pairs_are_added n half_pairs true list old begun new true begins reads =
    (reads.0, reads.1 ∙ ap (λ (l : List (List Pair)). with_more l (pairs_by n list)) begins ∙ with_more-begun old (pairs_by n list))
pairs_are_added n half_pairs false list old begun new true begins reads = (reads.0, reads.1 ∙ begins)

-- whether two pairs of numbers are the same
abbrev pub is_same_numbers : Pair → Pair → Bool
is_same_numbers p q = option_eq nat_eq p.0 q.0 && option_eq nat_eq p.1 q.1

-- elements by what they are seen as, of which two are alike if and only if the elements are the same
module _ {X Y : Type 0} (seen : X → Y) (ok : X → Bool) (same : X → X → Bool) (alike : Y → Y → Bool)
    (agree : (x y : X) → ok x ≡ true → ok y ≡ true → alike (seen x) (seen y) ≡ same x y) where
  any_alike : (x : X) (xs : List X) → ok x ≡ true → list_all ok xs ≡ true → list_any (alike (seen x)) (map seen xs) ≡ list_any (same x) xs
  any_alike x [] h all = refl
  any_alike x (y ∷ ys) h all = let parts = both (ok y) (list_all ok ys) all in rw (agree x y h parts.0, any_alike x ys h parts.1) refl

  differ_alike : (xs : List X) → list_all ok xs ≡ true → all_differ alike (map seen xs) ≡ all_differ same xs
  differ_alike [] all = refl
  differ_alike (x ∷ xs) all = let parts = both (ok x) (list_all ok xs) all in rw (any_alike x xs parts.0 parts.1, differ_alike xs parts.1) refl

-- ids and pairs are the same if their numbers are
module _ (ids : List Bytes) where
  ids_agree : (x y : Bytes) → has_id ids x ≡ true → has_id ids y ≡ true → nat_eq (number_of ids x) (number_of ids y) ≡ bytes_eq x y
  ids_agree x y h k = by (bytes_eq x y) refl
    where
      by : (b : Bool) → bytes_eq x y ≡ b → nat_eq (number_of ids x) (number_of ids y) ≡ b
      by true e = let s : number_of ids x ≡ number_of ids y = ap (number_of ids) (same_id x y e) in grind (arith, nat_tests)
      by false e = not_true _ (λ t. let s : number_of ids x ≡ number_of ids y = grind (arith, nat_tests) in cc (is_same x y (same_number ids x y h k s)))

  places_agree : (o u : Option Bytes) → is_none_or_in ids o ≡ true → is_none_or_in ids u ≡ true
      → option_eq nat_eq (option_map (number_of ids) o) (option_map (number_of ids) u) ≡ option_eq bytes_eq o u
  places_agree None None h k = refl
  places_agree None (Some y) h k = refl
  places_agree (Some x) None h k = refl
  places_agree (Some x) (Some y) h k = ids_agree x y h k

  pairs_agree : (half_pairs : Bool) (p q : IdPair) → pair_stands half_pairs ids p ≡ true → pair_stands half_pairs ids q ≡ true
      → is_same_numbers (pair_by_number ids p) (pair_by_number ids q) ≡ is_same_pair p q
  pairs_agree half_pairs p q h k =
      let a = both (is_none_or_in ids p.0) (is_none_or_in ids p.1) (stands_only half_pairs ids p h) in
      let b = both (is_none_or_in ids q.0) (is_none_or_in ids q.1) (stands_only half_pairs ids q k) in
      rw (places_agree p.0 q.0 a.0 b.0, places_agree p.1 q.1 a.1 b.1) refl

-- all pairs of a list were looked up, of which one stands twice or none does
pub pairs_are_read : (n : Numbering ℕ) (half_pairs kept : Bool) (list : List IdPair) (old new : List (List Pair)) (found : List Pair) (repeats : Bool)
    → list_all (pair_stands half_pairs n.ids) list ≡ true → new ≡ with_kept kept old (pairs_by n list)
    → found ≡ map (pair_by_number n.ids) list → repeats ≡ not (all_differ is_same_numbers found)
    → ReadsPairs half_pairs n kept list old new (not repeats)
pairs_are_read n half_pairs kept list old new found repeats stand rest by_number said =
    let same : all_differ is_same_numbers found ≡ all_differ is_same_pair list =
    ap (all_differ is_same_numbers) by_number
    ∙ differ_alike (pair_by_number n.ids) (pair_stands half_pairs n.ids) is_same_pair is_same_numbers (pairs_agree n.ids half_pairs) list stand
    in
    by repeats (all_differ is_same_pair list) refl (said ∙ ap not same)
  where
    by : (r d : Bool) → all_differ is_same_pair list ≡ d → r ≡ not d → ReadsPairs half_pairs n kept list old new (not r)
    by true true e k = cc
    by true false e k = rw (stand, e) refl
    by false true e k = (rw (stand, e) refl, rest)
    by false false e k = cc
