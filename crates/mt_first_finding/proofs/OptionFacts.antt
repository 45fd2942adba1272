-- What an option of an agent's list names.
use Rattle.std.proofs.Common.{◌≡◌, ℕ, zero, suc, ◌<◌, Bool, true, false, ◌||◌, List, [], ◌∷◌, length, get_or, Option, Some, None, refl, ap, sym, ◌∙◌, inl, inr, arith}
use Rattle.std.specs.Prelude.{◌==◌, codes, IfSome, IsTrue, is_some, slice_index_or}
use Rattle.std.specs.List.{list_all}
use Rattle.std.proofs.lemmas.Bool.{and_parts, cases_lt, or_right}
use Rattle.std.proofs.lemmas.Bool.Decides.{nat_tests}
use Rattle.std.proofs.lemmas.List.{get_or-map, get_or_default, get_or_past, length-map}
use Rattle.mt_terms.specs.Lists.{has}
use Rattle.mt_terms.specs.Market.{Pair, Partners, Registered, applicants, couple_of, list_of}
use Rattle.mt_terms.specs.Matching.{couple_placement, options, single_placement}
use Rattle.mt_terms.specs.Registration.Accepted.{is_none_or_below, is_pair_below}
use Rattle.mt_terms.specs.Registration.Ids.{Bytes}
use Rattle.mt_terms.specs.Text.{name_of, place_text}
use Rattle.mt_terms.specs.WellFormed.{IsWellFormed}
use Rattle.mt_terms.specs.declared.numbers.Agent.{Agent}
use Rattle.mt_terms.specs.declared.verdict.Verdict.TheVariants.{Blocks}
use Rattle.mt_terms.specs.declared.numbers.Agent.TheVariants.{Couple, Single}
use Rattle.mt_terms.proofs.ListFacts.{passes_at}
use Rattle.mt_first_finding.specs.Text.{check_line, finding_line, option_fields}
use Rattle.mt_first_finding.specs.declared.finding.Finding.TheVariants.{Of}

-- what stands at a place of a list, the list has
pub at_has : (xs : List ℕ) (i x : ℕ) → x ≡ get_or xs i x → i < length xs → has xs x ≡ true
at_has [] i x is within = absurd (omega arith)
at_has (y ∷ ys) zero x is within = by (y == x) (grind (arith, nat_tests))
  where
    by : (b : Bool) → b ≡ true → (b || has ys x) ≡ true
    by true h = refl
    by false h = cc
at_has (y ∷ ys) (suc i) x is within = or_right (y == x) (has ys x) (at_has ys i x is (omega arith))

some_below : (n : ℕ) (o : Option ℕ) → is_none_or_below n o ≡ true → IfSome o (λ p. p < n)
some_below n None h = tt
some_below n (Some p) h = grind (arith, nat_tests)

-- a pair of a list names programs of the market
pub pair_below : (n : ℕ) (pairs : List Pair) (i : ℕ) (pair : Pair) → IsTrue (list_all (is_pair_below n) pairs) → i < length pairs
    → IfSome (slice_index_or pairs i pair).0 (λ p. p < n) × IfSome (slice_index_or pairs i pair).1 (λ p. p < n)
pair_below n pairs i pair h within =
    let here : is_pair_below n (get_or pairs i pair) ≡ true = passes_at (is_pair_below n) pairs i pair h within in
    let outer = and_parts _ (is_none_or_below n (get_or pairs i pair).1) here in
    let inner = and_parts (is_some (get_or pairs i pair).0 || is_some (get_or pairs i pair).1) (is_none_or_below n (get_or pairs i pair).0) outer.0 in
    (some_below n (get_or pairs i pair).0 inner.1, some_below n (get_or pairs i pair).1 outer.1)

module _ (r : Registered) (agent : Agent) (option : ℕ) (within : option < length (options r.market agent)) where
  -- a program that a single lists
  pub program_below : IsWellFormed r.market → (a p : ℕ) (list : List ℕ) → agent ≡ Single a → list ≡ list_of r.market a → p ≡ get_or list option p → p < length r.market.programs
  program_below h a p list is same at =
      let room : option < length (options r.market (Single a)) = rw is at within in
      let low : option < length (list_of r.market a) = omega (arith, room, length-map (list_of r.market a) (single_placement a)) in
      h.lists_within a p (at_has (list_of r.market a) option p (rw same at at) low)

  module _ (c : ℕ) (pairs : List Pair) (is : agent ≡ Couple c) (same : pairs ≡ (couple_of r.market c).pairs) where
    low : option < length (couple_of r.market c).pairs
    low =
        let room : option < length (options r.market (Couple c)) = rw is at within in
        omega (arith, room, length-map (couple_of r.market c).pairs (couple_placement (couple_of r.market c).first (couple_of r.market c).second))

    -- the programs of a pair that a couple lists
    pub programs_below : IsTrue (list_all (is_pair_below (length r.market.programs)) (couple_of r.market c).pairs) → (pair : Pair)
        → IfSome (slice_index_or pairs option pair).0 (λ p. p < length r.market.programs) × IfSome (slice_index_or pairs option pair).1 (λ p. p < length r.market.programs)
    programs_below h pair = rw same (pair_below (length r.market.programs) (couple_of r.market c).pairs option pair h low)

    -- the line of a couple that blocks
    pub couple_line : (word kind id first second : List ℕ) (pair other : Pair) → word ≡ codes "blocks" → kind ≡ codes "couple" → id ≡ name_of r.names.couples c
        → first ≡ place_text r.names (slice_index_or pairs option pair).0 → second ≡ place_text r.names (slice_index_or pairs option other).1
        → check_line (word ∷ kind ∷ id ∷ first ∷ second ∷ []) ≡ finding_line r 0 (Of (Blocks (record { agent = agent; option = option })))
    couple_line word kind id first second pair other are_blocks are_couple is_id is_first is_second =
        let fields : option_fields r.names (slice_index_or (options r.market (Couple c)) option [])
        ≡ place_text r.names (slice_index_or (couple_of r.market c).pairs option pair).0 ∷ place_text r.names (slice_index_or (couple_of r.market c).pairs option pair).1 ∷ [] =
        ap (option_fields r.names) (get_or-map (couple_placement (couple_of r.market c).first (couple_of r.market c).second) (couple_of r.market c).pairs option pair [] low) in
        let one : first ≡ place_text r.names (slice_index_or (couple_of r.market c).pairs option pair).0 =
        is_first ∙ ap (λ (ps : List Pair). place_text r.names (slice_index_or ps option pair).0) same in
        let two : second ≡ place_text r.names (slice_index_or (couple_of r.market c).pairs option pair).1 =
        is_second ∙ ap (λ (ps : List Pair). place_text r.names (slice_index_or ps option other).1) same
        ∙ ap (λ (p : Pair). place_text r.names p.1) (get_or_default (couple_of r.market c).pairs option other pair low) in
        let line : List Bytes → Bytes = λ rest. check_line (codes "blocks" ∷ codes "couple" ∷ name_of r.names.couples c ∷ rest) in
        rw (are_blocks, are_couple, is_id, one, two)
        (ap line (sym fields) ∙ ap (λ (g : Agent). finding_line r 0 (Of (Blocks (record { agent = g; option = option })))) (sym is))

-- an agent with this option is in the market, and the option is on its list
module _ (r : Registered) (agent : Agent) (option : ℕ) (within : option < length (options r.market agent)) where
  single_room : (a : ℕ) → agent ≡ Single a → option < length (list_of r.market a)
  single_room a is =
      let room : option < length (options r.market (Single a)) = rw is at within in
      omega (arith, room, length-map (list_of r.market a) (single_placement a))

  pub single_there : (a : ℕ) → agent ≡ Single a → a < applicants r.market
  single_there a is =
      elim (cases_lt a (applicants r.market)) [
        | inl low ↦ low
        | inr past ↦ absurd (omega (arith, single_room a is, ap length (get_or_past r.market.lists a [] past)))
      ]

  couple_room : (c : ℕ) → agent ≡ Couple c → option < length (couple_of r.market c).pairs
  couple_room c is =
      let room : option < length (options r.market (Couple c)) = rw is at within in
      omega (arith, room, length-map (couple_of r.market c).pairs (couple_placement (couple_of r.market c).first (couple_of r.market c).second))

  pub couple_there : (c : ℕ) → agent ≡ Couple c → c < length r.market.couples
  couple_there c is =
      elim (cases_lt c (length r.market.couples)) [
        | inl low ↦ low
        | inr past ↦ absurd (omega (arith, couple_room c is, ap (λ (p : Partners). length p.pairs) (get_or_past r.market.couples c (record { first = 0; second = 0; pairs = [] }) past)))
      ]

  pub in_list : (a : ℕ) (list : List ℕ) → agent ≡ Single a → list ≡ list_of r.market a → option < length list
  in_list a list is same = omega (arith, single_room a is, ap length same)

  pub in_pairs : (c : ℕ) (pairs : List Pair) → agent ≡ Couple c → pairs ≡ (couple_of r.market c).pairs → option < length pairs
  in_pairs c pairs is same = omega (arith, couple_room c is, ap length same)
