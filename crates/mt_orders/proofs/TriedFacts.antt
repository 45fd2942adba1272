-- What a try of several orders has found, from what each order gives.
use Rattle.std.proofs.Common.{◌≡◌, ℕ, suc, ◌+◌, ◌-◌, ◌<◌, ◌≤◌, Bool, true, false, List, [], ◌∷◌, ◌++◌, map, length, get_or, drop, Option, Some, None, Result, Ok, Err, IfOk, Vec, Global, MatchResult, refl, ap, sym, ◌∙◌, arith, subst}
use Rattle.std.specs.Prelude.{is_some, Contains}
use Rattle.std.specs.declared.alloc.AllocError.{AllocError}
use Rattle.std.specs.List.{find, range_with_len, AllZip}
use Rattle.std.specs.Option.{option_map, option_or}
use Rattle.std.proofs.lemmas.Bool.{false≢true}
use Rattle.std.proofs.lemmas.List.{drop_more}
use Rattle.std.proofs.lemmas.List.Folds.{find-append}
use Rattle.rayon.specs.Numbers.{nat_range}
use Rattle.mt_terms.specs.Market.{Market}
use Rattle.mt_terms.specs.Matching.{Places}
use Rattle.mt_terms.specs.Rounds.{stage}
use Rattle.mt_terms.specs.Best.{IsBest}
use Rattle.mt_terms.specs.Stability.{stable}
use Rattle.mt_terms.specs.WellFormed.{IsWellFormed}
use Rattle.mt_terms.specs.declared.matching.Match.{Match}
use Rattle.mt_round_laws.proofs.RoundsStage.{stage_is_stable_lem}
use Rattle.mt_order_laws.specs.Orders.{ends_in_order, first_order, in_order, order_of}
use Rattle.mt_order_laws.specs.Reordered.{reordered}
use Rattle.mt_order_laws.proofs.EntryFacts.{range_append}
use Rattle.mt_order_laws.proofs.FormedFacts.{none_aside_lem, order_of_some, well_formed_in_any_order_lem}
use Rattle.mt_order_laws.proofs.OrderFacts.{orders_are_orders_lem}
use Rattle.mt_order_laws.proofs.StableFacts.{best_in_any_order_lem, stable_in_any_order_lem}
use Rattle.mt_entry.specs.Ended.{IfSpent}
use Rattle.mt_entry.specs.declared.ends.CoupleEnd.{CoupleEnd}
use Rattle.mt_entry.specs.declared.ends.CoupleEnd.TheVariants.{BudgetSpent}
use Rattle.mt_entry.specs.declared.ends.Spent.{Spent}
use Rattle.mt_orders.specs.declared.tried.Trial.{Trial}
use Rattle.mt_orders.specs.Tried.{first_some, EndsFirst, IsEnd, IsFirstEnd}
use Rattle.mt_orders.proofs.MarketFacts.{first_is_own}

-- the first match among some ends is at the place of the first one
pub some_at : (ends : List (Option Match)) (i : ℕ) (x : Option Match) → i < length ends → x ≡ get_or ends i x → is_some x ≡ true → first_some (drop i ends) ≡ x
some_at ends i x l at is = ap first_some (drop_more ends i x l) ∙ ap (λ y. first_some (y ∷ drop (i + 1) ends)) (sym at) ∙ by_kind x is
  where
    by_kind : (y : Option Match) → is_some y ≡ true → first_some (y ∷ drop (i + 1) ends) ≡ y
    by_kind (Some e) is = refl
    by_kind None is = absurd (false≢true is)

-- and none is at a place without one
pub none_at : (ends : List (Option Match)) (i : ℕ) (x : Option Match) → i < length ends → x ≡ get_or ends i x → is_some x ≡ false
    → first_some (drop i ends) ≡ first_some (drop (i + 1) ends)
none_at ends i x l at is = ap first_some (drop_more ends i x l) ∙ ap (λ y. first_some (y ∷ drop (i + 1) ends)) (sym at) ∙ by_kind x is
  where
    by_kind : (y : Option Match) → is_some y ≡ false → first_some (y ∷ drop (i + 1) ends) ≡ first_some (drop (i + 1) ends)
    by_kind (Some e) is = absurd (false≢true (sym is))
    by_kind None is = refl

-- rounds that end in some places, and rounds that end in none
ended : (o : Option (Places × ℕ)) (places : Places) → Some places ≡ option_map (λ (r : Places × ℕ). r.0) o → (rounds : ℕ) × (o ≡ Some (places, rounds))
ended None places e = absurd (let no : ◌≡◌ {A = Option Places} (Some places) None = e in cc)
ended (Some r) places e =
    let some : ◌≡◌ {A = Option Places} (Some places) (Some r.0) = e in
    let is : r.0 ≡ places = cc in
    (r.1, ap (λ (x : Places). Some (x, r.1)) is)

not_ended : (o : Option (Places × ℕ)) → None ≡ option_map (λ (r : Places × ℕ). r.0) o → o ≡ None
not_ended None e = refl
not_ended (Some r) e = absurd (let no : ◌≡◌ {A = Option Places} None (Some r.0) = e in cc)

module _ (m : Market) (best : Places) (budget : ℕ) where
  abbrev ends : ℕ → Bool
  ends = ends_in_order m best budget

  -- the first order that ends stays it behind orders that don't
  pub behind : (before : List ℕ) (numbers : List ℕ) (o : Option Match) → find ends before ≡ None → IsFirstEnd m best budget numbers o
      → IsFirstEnd m best budget (before ++ numbers) o
  behind before numbers None none h = find-append ends before numbers ∙ ap (λ x. option_or x (find ends numbers)) none ∙ h
  behind before numbers (Some e) none h =
      (h.0, h.1, find-append ends before numbers ∙ ap (λ x. option_or x (find ends numbers)) none ∙ h.2, h.3)

  -- and before any orders
  pub ahead : (numbers after : List ℕ) (o : Option Match) → is_some o ≡ true → IsFirstEnd m best budget numbers o → IsFirstEnd m best budget (numbers ++ after) o
  ahead numbers after None is h = absurd (false≢true is)
  ahead numbers after (Some e) is h = (h.0, h.1, find-append ends numbers after ∙ ap (λ x. option_or x (find ends after)) h.2, h.3)

  -- no match means that no order ends
  pub none_ends : (numbers : List ℕ) (o : Option Match) → is_some o ≡ false → IsFirstEnd m best budget numbers o → find ends numbers ≡ None
  none_ends numbers None is h = h
  none_ends numbers (Some e) is h = absurd (false≢true (sym is))

  -- the first order that ends among orders each of which has been tried
  first_of_each : (numbers : List ℕ) (found : List (Option Match)) → AllZip (IsEnd m best budget) numbers found → IsFirstEnd m best budget numbers (first_some found)
  first_of_each [] [] each = refl
  first_of_each [] (x ∷ found) each = absurd each
  first_of_each (k ∷ ks) [] each = absurd each
  first_of_each (k ∷ ks) (Some e ∷ found) each =
      let w = ended (stage (in_order k m) best budget) e.places each.0.is in
      let yes : ends k ≡ true = ap is_some w.1 in
      (k, w.0, rw yes refl, w.1)
  first_of_each (k ∷ ks) (None ∷ found) each =
      let no : ends k ≡ false = ap is_some (not_ended (stage (in_order k m) best budget) each.0.is) in
      let one : find ends (k ∷ []) ≡ None = rw no refl in
      behind (k ∷ []) ks (first_some found) one (first_of_each ks found each.1)

  each_ok : (numbers : List ℕ) (found : List (Option Match)) → AllZip (λ k (r : Result (Option Match) AllocError). IfOk r (IsEnd m best budget k)) numbers (map Ok found)
      → AllZip (IsEnd m best budget) numbers found
  each_ok [] [] each = each
  each_ok [] (x ∷ found) each = absurd each
  each_ok (k ∷ ks) [] each = absurd each
  each_ok (k ∷ ks) (x ∷ found) each = (each.0, each_ok ks found each.1)

  -- the same as threads give it
  pub first_by_threads : (start end from count : ℕ) (numbers : List ℕ) (made : List (Result (Option Match) AllocError)) (r : Result (Vec (Option Match) Global) AllocError)
      → start ≡ from → end ≡ from + count → numbers ≡ nat_range start end
      → AllZip (λ k (r : Result (Option Match) AllocError). IfOk r (IsEnd m best budget k)) numbers made
      → MatchResult r (λ v. (vs : List (Option Match)) × (made ≡ map Ok vs) × (v.items ≡ vs)) (λ e. Contains made (Err e))
      → IfOk r (λ v. IsFirstEnd m best budget (range_with_len from count) (first_some v.items))
  first_by_threads start end from count numbers made (Err e) low high are each is = tt
  first_by_threads start end from count numbers made (Ok v) low high are each is =
      let short : end - start ≡ count = omega arith in
      let range : numbers ≡ range_with_len from count = are ∙ ap (λ a. range_with_len a (end - start)) low ∙ ap (range_with_len from) short in
      let all : made ≡ map Ok v.items = is.1 ∙ ap (map Ok) (sym is.2) in
      subst (λ ns. IsFirstEnd m best budget ns (first_some v.items)) range
      (first_of_each numbers v.items (each_ok numbers v.items
      (subst (λ rs. AllZip (λ k (r : Result (Option Match) AllocError). IfOk r (IsEnd m best budget k)) numbers rs) all each)))

  -- orders from 2 on are those before a number, some from it on, and the others
  around : (from count orders : ℕ) → 2 ≤ from → from + count ≤ orders + 1
      → range_with_len 2 (from - 2) ++ (range_with_len from count ++ range_with_len (from + count) (orders + 1 - from - count)) ≡ range_with_len 2 (orders - 1)
  around from count orders low high =
      let rest = orders + 1 - from - count in
      let here : 2 + (from - 2) ≡ from = omega arith in
      let all : from - 2 + (count + rest) ≡ orders - 1 = omega arith in
      sym (ap (λ n. range_with_len 2 n) (sym all) ∙ range_append 2 (from - 2) (count + rest)
      ∙ ap (λ n. range_with_len 2 (from - 2) ++ range_with_len n (count + rest)) here
      ∙ ap (λ ns. range_with_len 2 (from - 2) ++ ns) (range_append from count rest))

  -- a match of some orders is that of the first that ends, if none before them does
  pub found_here : (from count orders : ℕ) (o : Option Match) → 2 ≤ from → from + count ≤ orders + 1 → find ends (range_with_len 2 (from - 2)) ≡ None
      → is_some o ≡ true → IsFirstEnd m best budget (range_with_len from count) o → IsFirstEnd m best budget (range_with_len 2 (orders - 1)) o
  found_here from count orders o low high none is h =
      subst (λ ns. IsFirstEnd m best budget ns o) (around from count orders low high)
      (behind (range_with_len 2 (from - 2)) (range_with_len from count ++ range_with_len (from + count) (orders + 1 - from - count)) o none
      (ahead (range_with_len from count) (range_with_len (from + count) (orders + 1 - from - count)) o is h))

  -- without a match none up to the next ones ends
  pub not_here : (from count : ℕ) (o : Option Match) → 2 ≤ from → find ends (range_with_len 2 (from - 2)) ≡ None → is_some o ≡ false
      → IsFirstEnd m best budget (range_with_len from count) o → find ends (range_with_len 2 (from + count - 2)) ≡ None
  not_here from count o low none is h =
      let here : 2 + (from - 2) ≡ from = omega arith in
      let all : from + count - 2 ≡ from - 2 + count = omega arith in
      let later : find ends (range_with_len from count) ≡ None = none_ends (range_with_len from count) o is h in
      ap (λ n. find ends (range_with_len 2 n)) all ∙ ap (find ends) (range_append 2 (from - 2) count ∙ ap (λ n. range_with_len 2 (from - 2) ++ range_with_len n count) here)
      ∙ find-append ends (range_with_len 2 (from - 2)) (range_with_len from count) ∙ ap (λ x. option_or x (find ends (range_with_len from count))) none ∙ later

  pub none_at_all : (from orders : ℕ) → from - 2 ≤ orders - 1 → orders < from → find ends (range_with_len 2 (from - 2)) ≡ None → find ends (range_with_len 2 (orders - 1)) ≡ None
  none_at_all from orders high past none = let is : orders - 1 ≡ from - 2 = omega arith in ap (λ n. find ends (range_with_len 2 n)) is ∙ none

  -- the order of registration, and the orders after it
  all_orders : (orders : ℕ) → 1 ≤ orders → range_with_len 1 orders ≡ 1 ∷ range_with_len 2 (orders - 1)
  all_orders orders some = let is : orders ≡ suc (orders - 1) = omega arith in ap (range_with_len 1) is

  own_stage : stage (in_order 1 m) best budget ≡ stage m best budget
  own_stage = ap (λ x. stage x best budget) (first_is_own m)

  -- if the rounds end in the order of registration, it is the first
  pub registration_first : (orders : ℕ) (r : Places × ℕ) → 1 ≤ orders → stage m best budget ≡ Some r → EndsFirst m best budget orders r.0
  registration_first orders r some e =
      let end : stage (in_order 1 m) best budget ≡ Some r = own_stage ∙ e in
      let yes : ends 1 ≡ true = ap is_some end in
      record {
        number = 1;
        rounds = r.1;
        first = ap (find ends) (all_orders orders some) ∙ rw yes refl;
        ends = end;
      }

  -- if they don't, the first is one of the others
  after_first : (orders : ℕ) → 1 ≤ orders → stage m best budget ≡ None → first_order m best budget orders ≡ find ends (range_with_len 2 (orders - 1))
  after_first orders some spent =
      let no : ends 1 ≡ false = ap is_some (own_stage ∙ spent) in
      ap (find ends) (all_orders orders some) ∙ rw no refl

  pub other_first : (orders : ℕ) (e : Match) → 1 ≤ orders → stage m best budget ≡ None → IsFirstEnd m best budget (range_with_len 2 (orders - 1)) (Some e)
      → EndsFirst m best budget orders e.places
  other_first orders e some spent h =
      record { number = h.0; rounds = h.1; first = after_first orders some spent ∙ h.2; ends = h.3 }

  pub no_first : (orders : ℕ) → 1 ≤ orders → stage m best budget ≡ None → IsFirstEnd m best budget (range_with_len 2 (orders - 1)) None
      → first_order m best budget orders ≡ None
  no_first orders some spent h = after_first orders some spent ∙ h

  -- whichever order ends first, the match is stable
  pub first_is_stable : IsWellFormed m → IsBest m best → (orders : ℕ) (places : Places) → EndsFirst m best budget orders places → stable m places ≡ true
  first_is_stable wf is orders places h =
      let order = order_of h.number (length m.couples) in
      let o = orders_are_orders_lem m h.number in
      let wf' = well_formed_in_any_order_lem m order wf (order_of_some m [] order o) in
      let held = stage_is_stable_lem (reordered order m) wf' best (best_in_any_order_lem m order best is) budget (places, h.rounds) h.ends in
      ap (λ x. stable x places) (sym (none_aside_lem m)) ∙ sym (stable_in_any_order_lem m [] order wf o places) ∙ held

-- what threads give in a try, by what their closure has of it
pub first_of_trial : (t t' : Trial) → t ≡ t' → (start end from count : ℕ) (numbers : List ℕ) (made : List (Result (Option Match) AllocError))
    (r : Result (Vec (Option Match) Global) AllocError) → start ≡ from → end ≡ from + count → numbers ≡ nat_range start end
    → AllZip (λ k (r : Result (Option Match) AllocError). IfOk r (IsEnd t.roster.now.market t.singles.now.places t.budget k)) numbers made
    → MatchResult r (λ v. (vs : List (Option Match)) × (made ≡ map Ok vs) × (v.items ≡ vs)) (λ e. Contains made (Err e))
    → IfOk r (λ v. IsFirstEnd t'.roster.now.market t'.singles.now.places t'.budget (range_with_len from count) (first_some v.items))
first_of_trial t t' same start end from count numbers made r low high are each is =
    subst (λ (u : Trial). IfOk r (λ v. IsFirstEnd u.roster.now.market u.singles.now.places u.budget (range_with_len from count) (first_some v.items))) same
    (first_by_threads t.roster.now.market t.singles.now.places t.budget start end from count numbers made r low high are each is)

-- a budget that was spent is spent
pub spent_is : (m : Market) (best : Places) (budget : ℕ) (end : CoupleEnd) {s : Spent} → end ≡ BudgetSpent s → IfSpent end (λ _. stage m best budget ≡ None)
    → stage m best budget ≡ None
spent_is m best budget end is h = subst (λ e. IfSpent e (λ _. stage m best budget ≡ None)) is h
