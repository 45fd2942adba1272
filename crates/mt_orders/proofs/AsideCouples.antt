-- Each couple that is set aside in turn is one of the market, and none of those before it.
use Rattle.std.proofs.Common.{◌≡◌, ℕ, zero, suc, ◌<◌, false, not, ◌==◌, nat_lt, List, [], ◌∷◌, ◌++◌, map, length, get_or, Option, None, Some, inl, inr, refl, sym, ◌∙◌, subst, arith, eqb-true, ltb-true}
use Rattle.std.specs.Option.{option_map_or}
use Rattle.std.proofs.lemmas.Bool.{and_parts, not-true, or_cases}
use Rattle.std.proofs.lemmas.List.{length-map}
use Rattle.std.proofs.lemmas.List.Folds.{list_any-append}
use Rattle.mt_terms.specs.Lists.{has}
use Rattle.mt_terms.specs.Market.{Market, couple_of}
use Rattle.mt_terms.specs.Matching.{Places}
use Rattle.mt_terms.proofs.ListFacts.{has_item, distinct_push}
use Rattle.mt_order_laws.specs.Aside.{aside_after, aside_in_turn, entering_at_end, market_of_others}
use Rattle.mt_order_laws.specs.Reordered.{others, IsOrderOfSome, IsOrderWithout}
use Rattle.mt_order_laws.proofs.EndFacts.{entering_in_words_lem}
use Rattle.mt_order_laws.proofs.FormedFacts.{others_are_order_lem}

-- the couple that is set aside next is one of the others
place_of_entering : (m : Market) (best : Places) (budget : ℕ) (aside : List ℕ) (k : ℕ) → entering_at_end (market_of_others aside m) best budget ≡ Some k
    → k < length (others aside m)
place_of_entering m best budget aside k e =
    let low : k < length (map (couple_of m) (others aside m)) = ((entering_in_words_lem (market_of_others aside m) best budget k).0 e).0 in
    omega (arith, length-map (others aside m) (couple_of m))

pub one_more : (m : Market) (aside : List ℕ) (k : ℕ) → IsOrderOfSome m aside → k < length (others aside m)
    → IsOrderOfSome m (aside ++ get_or (others aside m) k 0 ∷ [])
one_more m aside k o l =
    let x = get_or (others aside m) k 0 in
    let on = has_item (others aside m) k l in
    let parts = and_parts (nat_lt x (length m.couples)) (not (has aside x)) (sym (IsOrderWithout.of_others (others_are_order_lem m aside) x) ∙ on) in
    record {
      distinct = distinct_push aside x o.distinct (not-true (has aside x) parts.1);
      within = λ c h. elim (or_cases (has aside c) (has (x ∷ []) c) (sym (list_any-append (λ z. z == c) aside (x ∷ [])) ∙ h)) [
        | inl before ↦ o.within c before
        | inr here ↦ elim (or_cases (x == c) false here) [
          | inl same ↦ subst (λ (d : ℕ). d < length m.couples) (eqb-true x c same) (ltb-true x (length m.couples) parts.0)
          | inr never ↦ cc
        ]
      ];
    }

all_couples : (m : Market) (best : Places) (budget n : ℕ) (aside : List ℕ) → IsOrderOfSome m aside → IsOrderOfSome m (aside_after m best budget n aside)
all_couples m best budget zero aside o = o
all_couples m best budget (suc n) aside o = by (entering_at_end (market_of_others aside m) best budget) refl (λ more q. all_couples m best budget n more q)
  where
    by : (e : Option ℕ) → entering_at_end (market_of_others aside m) best budget ≡ e
        → ((more : List ℕ) → IsOrderOfSome m more → IsOrderOfSome m (aside_after m best budget n more))
        → IsOrderOfSome m (option_map_or (λ k. aside_after m best budget n (aside ++ get_or (others aside m) k 0 ∷ [])) e aside)
    by None is rest = o
    by (Some k) is rest = rest (aside ++ get_or (others aside m) k 0 ∷ []) (one_more m aside k o (place_of_entering m best budget aside k is))

-- the couples that are set aside in turn are couples of the market, each once
pub aside_are_couples_lem : (m : Market) (best : Places) (budget : ℕ) → IsOrderOfSome m (aside_in_turn m best budget)
aside_are_couples_lem m best budget = all_couples m best budget (length m.couples) [] (record { distinct = refl; within = λ c h. cc })
