-- What an agent's list says of its options: each names a program, sends each of its members where the lines have it,
-- and would be taken exactly if its lines are all open.
use Rattle.std.proofs.Common.{◌≡◌, ◌≢◌, ℕ, zero, suc, ◌+◌, ◌<◌, ◌≤◌, Bool, true, false, ◌&&◌, ◌||◌, List, [], ◌∷◌, ◌++◌, map, filter, length, get_or, Option, Some, None, is_some, IsTrue, IfSome, refl, ap, sym, ◌∙◌, subst, inl, inr, arith, slice_set, eq-eqb, get_or-set_same, get_or-set_other, length-set}
use Rattle.std.specs.List.{list_all, list_any, range_with_len}
use Rattle.std.proofs.lemmas.Bool.{and_parts, cases_Bool}
use Rattle.std.proofs.lemmas.Bool.Decides.{nat_tests}
use Rattle.std.proofs.lemmas.List.{append-nil, get_or-map, length-map}
use Rattle.mt_terms.specs.Lists.{Set, has, until}
use Rattle.mt_terms.specs.Market.{Market, Pair, Registered, couple_of, list_of, IsAgentOf}
use Rattle.mt_terms.specs.Matching.{Places, Placement, couple_placement, is_program, options, send, single_placement}
use Rattle.mt_terms.specs.Places.{ArePlaces}
use Rattle.mt_terms.specs.Registration.Accepted.{IsRegistration, is_none_or_below, is_pair_below}
use Rattle.mt_terms.specs.Stability.{would_be_taken}
use Rattle.mt_terms.specs.WellFormed.{IsWellFormed}
use Rattle.mt_terms.specs.declared.numbers.Agent.{Agent}
use Rattle.mt_terms.specs.declared.numbers.Agent.TheVariants.{Couple, Single}
use Rattle.mt_terms.proofs.ListFacts.{has_item}
use Rattle.mt_stability_laws.proofs.TakenLemmas.{at-slice_set_same}
use Rattle.mt_verify.proofs.BlockingFacts.{element_read}
use Rattle.mt_verify.proofs.TakenFacts.{send_both}
use Rattle.mt_explain.specs.Lines.{both_lines, is_open, line_if, lines_at, option_lines}
use Rattle.mt_explain.specs.declared.line.Line.{Line}
use Rattle.mt_explain.proofs.LineFacts.{AreThere, IsThere, names_program, open_if_all_chosen}

-- the front of a list has its elements where the list has them
pub front_has : {X : Type 0} (test : X → Bool) (xs : List X) (i : ℕ) (d : X) → i < length (until test xs) → get_or (until test xs) i d ≡ get_or xs i d
front_has test [] i d within = refl
front_has test (x ∷ xs) zero d within = elim (cases_Bool (test x)) [
  | inl here ↦ (let none : 0 < 0 = rw here at within in absurd (omega arith))
  | inr other ↦ rw other refl
]
front_has test (x ∷ xs) (suc i) d within = elim (cases_Bool (test x)) [
  | inl here ↦ (let none : suc i < 0 = rw here at within in absurd (omega arith))
  | inr other ↦ (let more : suc i < suc (length (until test xs)) = rw other at within in rw other (front_has test xs i d (omega arith)))
]

-- Below, a single is sent to a program, or both members of a couple to their places.
module _ (places : Places) (a : ℕ) (a_in : a < length places) where
  pub single_there : (p : ℕ) → AreThere (send (single_placement a p) places) (single_placement a p)
  single_there p = (at-slice_set_same places a p (Some p) a_in ∙ eq-eqb p p refl, tt)

  module _ (b : ℕ) (b_in : b < length places) (apart : a ≢ b) where
    first_there : (s t : Option ℕ) → IsThere (send (couple_placement a b (s, t)) places) a s
    first_there None t = tt
    first_there (Some p) t =
        ap (is_program p) (get_or-set_other (slice_set places a (Some p)) b a t None apart ∙ get_or-set_same places a (Some p) None a_in)
        ∙ eq-eqb p p refl

    second_there : (s t : Option ℕ) → IsThere (send (couple_placement a b (s, t)) places) b t
    second_there s None = tt
    second_there s (Some p) =
        let room : b < length (slice_set places a s) = rw length-set b_in in
        ap (is_program p) (get_or-set_same (slice_set places a s) b (Some p) None room) ∙ eq-eqb p p refl

    pub couple_there : (pair : Pair) → AreThere (send (couple_placement a b pair) places) (couple_placement a b pair)
    couple_there pair = (first_there pair.0 pair.1, (second_there pair.0 pair.1, tt))

-- an option of a single's list, and of a couple's
pub single_option : (m : Market) (a i : ℕ) → i < length (options m (Single a))
    → (i < length (list_of m a)) × (get_or (options m (Single a)) i [] ≡ single_placement a (get_or (list_of m a) i 0))
single_option m a i within =
    let low : i < length (list_of m a) = omega (arith, length-map (list_of m a) (single_placement a)) in
    (low, get_or-map (single_placement a) (list_of m a) i 0 [] low)

pub pair_option : (m : Market) (c i : ℕ) → i < length (options m (Couple c))
    → (i < length (couple_of m c).pairs)
    × (get_or (options m (Couple c)) i [] ≡ couple_placement (couple_of m c).first (couple_of m c).second (get_or (couple_of m c).pairs i (None, None)))
pair_option m c i within =
    let couple = couple_of m c in
    let low : i < length couple.pairs = omega (arith, length-map couple.pairs (couple_placement couple.first couple.second)) in
    (low, get_or-map (couple_placement couple.first couple.second) couple.pairs i (None, None) [] low)

-- an option of an agent sends its members where its lines have them
pub option_there : (m : Market) → IsWellFormed m → (places : Places) → ArePlaces m places → (g : Agent) → IsAgentOf m g
    → (i : ℕ) → i < length (options m g) → AreThere (send (get_or (options m g) i []) places) (get_or (options m g) i [])
option_there m formed places are (Single a) numbered i within =
    let at_i = single_option m a i within in
    subst (λ (sent : Placement). AreThere (send sent places) sent) (sym at_i.1)
    (single_there places a (omega (arith, are.one_each)) (get_or (list_of m a) i 0))
option_there m formed places are (Couple c) numbered i within =
    let at_i = pair_option m c i within in
    let first = formed.first_member c numbered in
    let second = formed.second_member c numbered in
    let first_in : (couple_of m c).first < length places = omega (arith, first.within, are.one_each) in
    let second_in : (couple_of m c).second < length places = omega (arith, second.within, are.one_each) in
    subst (λ (sent : Placement). AreThere (send sent places) sent) (sym at_i.1)
    (couple_there places (couple_of m c).first first_in (couple_of m c).second second_in (formed.two_members c numbered)
    (get_or (couple_of m c).pairs i (None, None)))

-- so its lines are all open exactly if it would be taken
pub open_if_option_taken : (m : Market) → IsWellFormed m → (places : Places) → ArePlaces m places → (g : Agent) → IsAgentOf m g
    → (k i : ℕ) → i < length (options m g)
    → list_all is_open (option_lines m places k (get_or (options m g) i [])) ≡ would_be_taken m places (get_or (options m g) i [])
open_if_option_taken m formed places are g numbered k i within =
    let sent : Placement = get_or (options m g) i [] in
    open_if_all_chosen m (send sent places) k sent (option_there m formed places are g numbered i within)

-- a pair of a file names a program
pair_names : (n : ℕ) (pairs : List Pair) (i : ℕ) → IsTrue (list_all (is_pair_below n) pairs) → i < length pairs
    → IsTrue (is_some (get_or pairs i (None, None)).0 || is_some (get_or pairs i (None, None)).1)
pair_names n [] i all within = absurd (omega arith)
pair_names n (pair ∷ pairs) zero all within =
    let here = (and_parts (is_pair_below n pair) (list_all (is_pair_below n) pairs) all).0 in
    (and_parts _ _ (and_parts _ _ here).0).0
pair_names n (pair ∷ pairs) (suc i) all within =
    pair_names n pairs i (and_parts (is_pair_below n pair) (list_all (is_pair_below n) pairs) all).1 (omega arith)

-- each option of an agent names a program
pub option_names : (r : Registered) → IsRegistration r → (g : Agent) → (i : ℕ) → i < length (options r.market g)
    → IsTrue (names_program (get_or (options r.market g) i []))
option_names r registration (Single a) i within = ap names_program (single_option r.market a i within).1
option_names r registration (Couple c) i within =
    let at_i = pair_option r.market c i within in
    let pair : Pair = get_or (couple_of r.market c).pairs i (None, None) in
    ap names_program at_i.1 ∙ with_false (is_some pair.0) (is_some pair.1)
    ∙ pair_names (length r.market.programs) (couple_of r.market c).pairs i (registration.pairs_below c) at_i.0
  where
    with_false : (x y : Bool) → (x || (y || false)) ≡ (x || y)
    with_false true y = refl
    with_false false true = refl
    with_false false false = refl

-- a search among mapped numbers of a range, with tests that agree there
pub any_agree : {X : Type 0} (f : ℕ → X) (keep : Set) (s t : X → Bool) (low n : ℕ) → ((a : ℕ) → low ≤ a → a < low + n → s (f a) ≡ t (f a))
    → list_any s (map f (filter keep (range_with_len low n))) ≡ list_any t (map f (filter keep (range_with_len low n)))
any_agree f keep s t low zero same = refl
any_agree f keep s t low (suc n) same =
    let here : s (f low) ≡ t (f low) = same low (omega arith) (omega arith) in
    let later = any_agree f keep s t (low + 1) n (λ a from before. same a (omega arith) (omega arith)) in
    elim (cases_Bool (keep low)) [
      | inl kept ↦ rw (kept, here) (ap (λ (b : Bool). t (f low) || b) later)
      | inr dropped ↦ rw dropped later
    ]

-- Below, an element of an agent's list was read.
-- a program that a single lists is one of the market
pub listed_program : (m : Market) → IsWellFormed m → (a k p : ℕ) (list : List ℕ) → list ≡ list_of m a → p ≡ get_or list k p → k < length (list_of m a)
    → p < length m.programs
listed_program m formed a k p list are read within =
    let is : p ≡ get_or (list_of m a) k 0 = element_read list (list_of m a) k p 0 read are (let e = ap length are in omega arith) in
    formed.lists_within a p (subst (λ (x : ℕ). IsTrue (has (list_of m a) x)) (sym is) (has_item (list_of m a) k within))

some_below : (n : ℕ) (place : Option ℕ) → IsTrue (is_none_or_below n place) → IfSome place (λ p. p < n)
some_below n None h = tt
some_below n (Some p) h = grind (arith, nat_tests)

below_parts : (n : ℕ) (pair : Pair) → IsTrue (is_pair_below n pair) → IfSome pair.0 (λ p. p < n) × IfSome pair.1 (λ p. p < n)
below_parts n pair h =
    let outer = and_parts ((is_some pair.0 || is_some pair.1) && is_none_or_below n pair.0) (is_none_or_below n pair.1) h in
    let inner = and_parts (is_some pair.0 || is_some pair.1) (is_none_or_below n pair.0) outer.0 in
    (some_below n pair.0 inner.1, some_below n pair.1 outer.1)

passes_at : {X : Type 0} (test : X → Bool) (xs : List X) (k : ℕ) (d : X) → IsTrue (list_all test xs) → k < length xs → IsTrue (test (get_or xs k d))
passes_at test [] k d all within = absurd (omega arith)
passes_at test (x ∷ xs) zero d all within = (and_parts (test x) (list_all test xs) all).0
passes_at test (x ∷ xs) (suc k) d all within = passes_at test xs k d (and_parts (test x) (list_all test xs) all).1 (omega arith)

-- and so are the programs of a pair that a couple lists
pub listed_pair : (r : Registered) → IsRegistration r → (c k : ℕ) (pair : Pair) (list : List Pair) → list ≡ (couple_of r.market c).pairs
    → pair ≡ get_or list k pair → k < length (couple_of r.market c).pairs
    → IfSome pair.0 (λ p. p < length r.market.programs) × IfSome pair.1 (λ p. p < length r.market.programs)
listed_pair r registration c k pair list are read within =
    let is : pair ≡ get_or (couple_of r.market c).pairs k pair =
    element_read list (couple_of r.market c).pairs k pair pair read are (let e = ap length are in omega arith) in
    below_parts (length r.market.programs) pair
    (subst (λ (x : Pair). IsTrue (is_pair_below (length r.market.programs) x)) (sym is)
    (passes_at (is_pair_below (length r.market.programs)) (couple_of r.market c).pairs k pair (registration.pairs_below c) within))

-- the lines of a couple's pair are those of its first member and those of its second, each judged with both moved
pub pair_lines_are : (m : Market) (places : Places) (c k : ℕ) (pair : Pair) (first second : ℕ) (one other : Option Line)
    → first ≡ (couple_of m c).first → second ≡ (couple_of m c).second → first ≢ second
    → k < length (couple_of m c).pairs → pair ≡ get_or (couple_of m c).pairs k pair
    → line_if one ≡ lines_at m (send (couple_placement first second (pair.0, pair.1)) places) k first pair.0
    → line_if other ≡ lines_at m (send (couple_placement second first (pair.1, pair.0)) places) k second pair.1
    → both_lines (one, other) ≡ option_lines m places k (get_or (options m (Couple c)) k [])
pair_lines_are m places c k pair first second one other is_first is_second apart within read one_is other_is =
    let couple = couple_of m c in
    let moved : Places = send (couple_placement first second pair) places in
    let at_k : get_or (options m (Couple c)) k [] ≡ couple_placement first second pair =
    get_or-map (couple_placement couple.first couple.second) couple.pairs k pair [] within
    ∙ ap (couple_placement couple.first couple.second) (sym read)
    ∙ ap (λ (x : ℕ). couple_placement x couple.second pair) (sym is_first)
    ∙ ap (λ (x : ℕ). couple_placement first x pair) (sym is_second) in
    ap (λ (lines : List Line). lines ++ line_if other) one_is
    ∙ ap (λ (lines : List Line). lines_at m moved k first pair.0 ++ lines) (other_is
    ∙ ap (λ (x : Places). lines_at m x k second pair.1) (send_both places first second pair.0 pair.1 apart))
    ∙ ap (λ (lines : List Line). lines_at m moved k first pair.0 ++ lines) (sym (append-nil (lines_at m moved k second pair.1)))
    ∙ ap (option_lines m places k) (sym at_k)
