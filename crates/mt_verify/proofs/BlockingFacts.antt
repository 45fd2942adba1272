-- The first option with which an agent blocks, as a search along its list finds it.
use Rattle.std.proofs.Common.{◌≡◌, ℕ, ◌<◌, Bool, true, false, not, ◌&&◌, ◌||◌, ◌==◌, List, length, get_or, Option, Some, None, IsTrue, IsFalse, refl, ap, sym, ◌∙◌, ◌+◌, subst, below_more, is_some, unwrap_or, inl, inr}
use Rattle.std.specs.List.{find, list_any, position}
use Rattle.std.specs.Option.{option_eq, option_map}
use Rattle.std.proofs.lemmas.Bool.{cases_Bool, eqb-true}
use Rattle.std.proofs.lemmas.List.{get_or_read_under}
use Rattle.mt_terms.specs.Market.{Market, Pair, program_of, list_of, couple_of, applicants, agent_of, agents, leads}
use Rattle.mt_terms.specs.Matching.{Places, place_of, is_program, is_same_place, holds, better, single_placement, couple_placement}
use Rattle.mt_terms.specs.Stability.{is_listed, would_be_taken, blocks}
use Rattle.mt_terms.specs.declared.numbers.Agent.{Agent}
use Rattle.mt_terms.specs.declared.numbers.Agent.TheVariants.{Single, Couple}
use Rattle.mt_terms.specs.Lists.{below, has}
use Rattle.mt_terms.specs.Verdict.{is_unlisted}
use Rattle.std.proofs.lemmas.List.Folds.{list_any_at, list_any_none}
use Rattle.std.proofs.lemmas.Grind.{get_or_default_zero}
use Rattle.mt_verdict_laws.proofs.VerdictLemmas.{find-map-filter, leads-Single}
use Rattle.mt_verify.specs.Blocking.{blocker, blocker_led_by, has_finding, leads_blocker}
use Rattle.mt_verify.proofs.FindFacts.{NoneYet, passes_at, stops_at, none_passes, position_mapped, any_has_position, found_below}
use Rattle.mt_verify.proofs.OptionFacts.{and-true, is_off-Single}
use Rattle.mt_terms.proofs.AgentFacts.{holds_single, is_program_read}

-- an element that was read of a list, at any default
pub element_read : {X : Type 0} (items list : List X) (k : ℕ) (x d : X) → x ≡ get_or items k x → items ≡ list → k < length items → x ≡ get_or list k d
element_read items list k x d read are within = get_or_read_under items k (length items) x d read within refl ∙ ap (λ xs. get_or xs k d) are

-- a single has a program if the place that was read is the program
pub holds_program : (places : Places) (a p : ℕ) (place : Option ℕ) → place ≡ place_of places a → holds places (single_placement a p) ≡ option_eq ◌==◌ place (Some p)
holds_program places a p place read = holds_single p (place_of places a) ∙ ap (is_program p) (sym read) ∙ sym (is_program_read p place)

same_place_read : (x y : Option ℕ) → is_same_place x y ≡ option_eq ◌==◌ x y
same_place_read None None = refl
same_place_read None (Some q) = refl
same_place_read (Some p) None = refl
same_place_read (Some p) (Some q) = refl

-- and a couple has a pair if both places are its
pub holds_pair : (places : Places) (a b : ℕ) (pair : Pair) (s t : Option ℕ) → s ≡ place_of places a → t ≡ place_of places b
    → holds places (couple_placement a b pair) ≡ (option_eq ◌==◌ s pair.0 && option_eq ◌==◌ t pair.1)
holds_pair places a b pair s t s_read t_read =
    ap (λ (x : Bool). is_same_place (place_of places a) pair.0 && x) (and-true (is_same_place (place_of places b) pair.1))
    ∙ ap (λ (x : Option ℕ). is_same_place x pair.0 && is_same_place (place_of places b) pair.1) (sym s_read)
    ∙ ap (λ (x : Option ℕ). is_same_place s pair.0 && is_same_place x pair.1) (sym t_read)
    ∙ ap (λ (x : Bool). x && is_same_place t pair.1) (same_place_read s pair.0)
    ∙ ap (λ (x : Bool). option_eq ◌==◌ s pair.0 && x) (same_place_read t pair.1)

-- what is said of two members that were read
pub taken_read : (m : Market) (places : Places) (a b s t : ℕ) (pair : Pair) → a ≡ s → b ≡ t
    → would_be_taken m places (couple_placement a b pair) ≡ would_be_taken m places (couple_placement s t pair)
taken_read m places a b s t pair first second =
    ap (λ (x : ℕ). would_be_taken m places (couple_placement x b pair)) first ∙ ap (λ (x : ℕ). would_be_taken m places (couple_placement s x pair)) second

-- Below, a single's list is searched.
module _ (m : Market) (places : Places) (a : ℕ) where
  -- no program so far is the single's own or would take it
  abbrev pub NoProgramYet : ℕ → Type 0
  NoProgramYet k = NoneYet (λ p. holds places (single_placement a p)) (λ p. would_be_taken m places (single_placement a p)) (list_of m a) 0 k

  pub at_own_program : (k p : ℕ) → k < length (list_of m a) → p ≡ get_or (list_of m a) k 0 → NoProgramYet k → IsTrue (holds places (single_placement a p))
      → position (would_be_taken m places) (better m places (Single a)) ≡ None
  at_own_program k p within read none own =
      position_mapped (holds places) (would_be_taken m places) (single_placement a) (list_of m a)
      ∙ stops_at (λ q. holds places (single_placement a q)) (λ q. would_be_taken m places (single_placement a q)) (list_of m a) 0 k within none
      (subst (λ (q : ℕ). IsTrue (holds places (single_placement a q))) read own)

  pub at_taken_program : (k p : ℕ) → k < length (list_of m a) → p ≡ get_or (list_of m a) k 0 → NoProgramYet k → IsFalse (holds places (single_placement a p))
      → IsTrue (would_be_taken m places (single_placement a p)) → position (would_be_taken m places) (better m places (Single a)) ≡ Some k
  at_taken_program k p within read none other taken =
      position_mapped (holds places) (would_be_taken m places) (single_placement a) (list_of m a)
      ∙ passes_at (λ q. holds places (single_placement a q)) (λ q. would_be_taken m places (single_placement a q)) (list_of m a) 0 k within none
      (subst (λ (q : ℕ). IsFalse (holds places (single_placement a q))) read other) (subst (λ (q : ℕ). IsTrue (would_be_taken m places (single_placement a q))) read taken)

  pub no_program_more : (k p : ℕ) → p ≡ get_or (list_of m a) k 0 → NoProgramYet k → IsFalse (holds places (single_placement a p)) → IsFalse (would_be_taken m places (single_placement a p))
      → NoProgramYet (k + 1)
  no_program_more k p read none other refused =
      below_more (λ j. IsFalse (holds places (single_placement a (get_or (list_of m a) j 0))) × IsFalse (would_be_taken m places (single_placement a (get_or (list_of m a) j 0)))) k none
      (subst (λ (q : ℕ). IsFalse (holds places (single_placement a q))) read other, subst (λ (q : ℕ). IsFalse (would_be_taken m places (single_placement a q))) read refused)

  pub at_no_program : NoProgramYet (length (list_of m a)) → position (would_be_taken m places) (better m places (Single a)) ≡ None
  at_no_program none =
      position_mapped (holds places) (would_be_taken m places) (single_placement a) (list_of m a)
      ∙ none_passes (λ q. holds places (single_placement a q)) (λ q. would_be_taken m places (single_placement a q)) (list_of m a) 0 none

-- Below, a couple's list is searched.
module _ (m : Market) (places : Places) (c : ℕ) where
  abbrev placement : Pair → List (ℕ × Option ℕ)
  placement pair = couple_placement (couple_of m c).first (couple_of m c).second pair

  -- no pair so far is the couple's own or would be taken
  abbrev pub NoPairYet : ℕ → Type 0
  NoPairYet k =
      NoneYet (λ pair. holds places (couple_placement (couple_of m c).first (couple_of m c).second pair))
      (λ pair. would_be_taken m places (couple_placement (couple_of m c).first (couple_of m c).second pair)) (couple_of m c).pairs (None, None) k

  pub at_own_pair : (k : ℕ) (pair : Pair) → k < length (couple_of m c).pairs → pair ≡ get_or (couple_of m c).pairs k (None, None) → NoPairYet k
      → IsTrue (holds places (couple_placement (couple_of m c).first (couple_of m c).second pair))
      → position (would_be_taken m places) (better m places (Couple c)) ≡ None
  at_own_pair k pair within read none own =
      position_mapped (holds places) (would_be_taken m places) placement (couple_of m c).pairs
      ∙ stops_at (λ x. holds places (placement x)) (λ x. would_be_taken m places (placement x)) (couple_of m c).pairs (None, None) k within none
      (subst (λ (x : Pair). IsTrue (holds places (placement x))) read own)

  pub at_taken_pair : (k : ℕ) (pair : Pair) → k < length (couple_of m c).pairs → pair ≡ get_or (couple_of m c).pairs k (None, None) → NoPairYet k
      → IsFalse (holds places (couple_placement (couple_of m c).first (couple_of m c).second pair))
      → IsTrue (would_be_taken m places (couple_placement (couple_of m c).first (couple_of m c).second pair))
      → position (would_be_taken m places) (better m places (Couple c)) ≡ Some k
  at_taken_pair k pair within read none other taken =
      position_mapped (holds places) (would_be_taken m places) placement (couple_of m c).pairs
      ∙ passes_at (λ x. holds places (placement x)) (λ x. would_be_taken m places (placement x)) (couple_of m c).pairs (None, None) k within none
      (subst (λ (x : Pair). IsFalse (holds places (placement x))) read other) (subst (λ (x : Pair). IsTrue (would_be_taken m places (placement x))) read taken)

  pub no_pair_more : (k : ℕ) (pair : Pair) → pair ≡ get_or (couple_of m c).pairs k (None, None) → NoPairYet k
      → IsFalse (holds places (couple_placement (couple_of m c).first (couple_of m c).second pair))
      → IsFalse (would_be_taken m places (couple_placement (couple_of m c).first (couple_of m c).second pair))
      → NoPairYet (k + 1)
  no_pair_more k pair read none other refused =
      below_more (λ j. IsFalse (holds places (placement (get_or (couple_of m c).pairs j (None, None)))) × IsFalse (would_be_taken m places (placement (get_or (couple_of m c).pairs j (None, None))))) k none
      (subst (λ (x : Pair). IsFalse (holds places (placement x))) read other, subst (λ (x : Pair). IsFalse (would_be_taken m places (placement x))) read refused)

  pub at_no_pair : NoPairYet (length (couple_of m c).pairs) → position (would_be_taken m places) (better m places (Couple c)) ≡ None
  at_no_pair none =
      position_mapped (holds places) (would_be_taken m places) placement (couple_of m c).pairs
      ∙ none_passes (λ x. holds places (placement x)) (λ x. would_be_taken m places (placement x)) (couple_of m c).pairs (None, None) none

-- Below, an applicant's agent was read, and its list searched.
module _ (m : Market) (places : Places) (a : ℕ) (g : Agent) (is : agent_of m a ≡ g) where
  -- the agent blocks with the first option that the search found
  pub led_and_blocks : IsTrue (leads m a) → (k : ℕ) → position (would_be_taken m places) (better m places g) ≡ Some k
      → blocker_led_by m places a ≡ Some (record { agent = g; option = k })
  led_and_blocks leading k found =
      let blocking : IsTrue (blocks m places g) = any_has_position (would_be_taken m places) (better m places g) ∙ ap is_some found in
      rw (leading, is, blocking) (ap (λ (o : Option ℕ). Some (record { agent = g; option = unwrap_or o 0 })) found)

  -- it doesn't if the search found none
  pub led_not_blocking : position (would_be_taken m places) (better m places g) ≡ None → blocker_led_by m places a ≡ None
  led_not_blocking none =
      let not_blocking : IsFalse (blocks m places g) = any_has_position (would_be_taken m places) (better m places g) ∙ ap is_some none in
      elim (cases_Bool (leads m a)) [
        | inl leading ↦ rw (leading, is, not_blocking) refl
        | inr other ↦ rw other refl
      ]

  pub not_leading : IsFalse (leads m a) → blocker_led_by m places a ≡ None
  not_leading other = rw other refl

-- Below, the applicants are searched for one that leads an agent that blocks.
module _ (m : Market) (places : Places) where
  by_leader : find (blocks m places) (agents m) ≡ option_map (agent_of m) (find (leads_blocker m places) (below (applicants m)))
  by_leader = find-map-filter (blocks m places) (agent_of m) (leads m) (below (applicants m))

  pub first_by_leader : (a : ℕ) → find (leads_blocker m places) (below (applicants m)) ≡ Some a
      → option_map (blocker m places) (find (blocks m places) (agents m)) ≡ blocker_led_by m places a
  first_by_leader a found =
      let leading : IsTrue (leads_blocker m places a) = (found_below (leads_blocker m places) (applicants m) a found).1 in
      ap (option_map (blocker m places)) (by_leader ∙ ap (option_map (agent_of m)) found) ∙ sym (rw leading refl)

  pub no_blocking : find (leads_blocker m places) (below (applicants m)) ≡ None → find (blocks m places) (agents m) ≡ None
  no_blocking none = by_leader ∙ ap (option_map (agent_of m)) none

  -- the agent that an applicant leads blocks if there is one to tell
  pub leads_blocker-is_some : (a : ℕ) → is_some (blocker_led_by m places a) ≡ leads_blocker m places a
  leads_blocker-is_some a = elim (cases_Bool (leads_blocker m places a)) [
    | inl here ↦ rw here refl
    | inr other ↦ rw other refl
  ]

-- if a test says that nothing is there
pub not_back : (x y : Bool) → x ≡ not y → y ≡ not x
not_back x true h = ap not (sym h)
not_back x false h = ap not (sym h)

listed_there : (m : Market) (a p : ℕ) (place : Option ℕ) → is_program p place ≡ true → is_listed m a place ≡ has (program_of m p).ranking a
listed_there m a p None h = absurd (cc)
listed_there m a p (Some q) h = ap (λ (x : ℕ). has (program_of m x).ranking a) (eqb-true q p h)

-- Below, an applicant is a single, and its list was searched.
module _ (m : Market) (places : Places) (a : ℕ) (alone : agent_of m a ≡ Single a) where
  blocks_by : (o : Option ℕ) → position (would_be_taken m places) (better m places (Single a)) ≡ o → leads_blocker m places a ≡ is_some o
  blocks_by o found = rw (leads-Single m a alone, alone) (any_has_position (would_be_taken m places) (better m places (Single a)) ∙ ap is_some found)

  unlisted_by : (own : Bool) → list_any (λ p. is_program p (place_of places a)) (list_of m a) ≡ own
      → is_unlisted m places a ≡ (not (own || not (is_some (place_of places a))) || not (is_listed m a (place_of places a)))
  unlisted_by own is =
      ap (λ (b : Bool). b || not (is_listed m a (place_of places a)))
      (is_off-Single m places a a alone ∙ ap (λ (b : Bool). not (b || not (is_some (place_of places a)))) is)

  -- A program before its place would take it.
  pub found_if_taken : (k : ℕ) → position (would_be_taken m places) (better m places (Single a)) ≡ Some k → true ≡ has_finding m places a
  found_if_taken k taken = sym (ap (λ (b : Bool). b || is_unlisted m places a) (blocks_by (Some k) taken))

  -- None would, and its place is on its list.
  pub found_at_own : (k p : ℕ) (b : Bool) → position (would_be_taken m places) (better m places (Single a)) ≡ None
      → k < length (list_of m a) → p ≡ get_or (list_of m a) k 0 → IsTrue (holds places (single_placement a p)) → b ≡ has (program_of m p).ranking a
      → not b ≡ has_finding m places a
  found_at_own k p b none within read holding listed =
      let here : is_program p (place_of places a) ≡ true = sym (holds_single p (place_of places a)) ∙ holding in
      let own : list_any (λ q. is_program q (place_of places a)) (list_of m a) ≡ true =
      list_any_at (λ q. is_program q (place_of places a)) (list_of m a) k 0 within (ap (λ q. is_program q (place_of places a)) (sym read) ∙ here) in
      let unlisted : is_unlisted m places a ≡ not b = unlisted_by true own ∙ ap not (listed_there m a p (place_of places a) here ∙ sym listed) in
      sym (ap (λ (x : Bool). x || is_unlisted m places a) (blocks_by None none) ∙ unlisted)

  at_end : (place : Option ℕ) → place_of places a ≡ place → list_any (λ q. is_program q (place_of places a)) (list_of m a) ≡ false → is_unlisted m places a ≡ is_some place
  at_end None there own = unlisted_by false own ∙ ap (λ (x : Option ℕ). not (not (is_some x)) || not (is_listed m a x)) there
  at_end (Some p) there own = unlisted_by false own ∙ ap (λ (x : Option ℕ). not (not (is_some x)) || not (is_listed m a x)) there

  -- None of its whole list would, and its place isn't on it.
  pub found_at_end : position (would_be_taken m places) (better m places (Single a)) ≡ None
      → list_any (λ q. is_program q (place_of places a)) (list_of m a) ≡ false → is_some (place_of places a) ≡ has_finding m places a
  found_at_end none own = sym (ap (λ (x : Bool). x || is_unlisted m places a) (blocks_by None none) ∙ at_end (place_of places a) refl own)

  pub no_own_program : NoProgramYet m places a (length (list_of m a)) → list_any (λ q. is_program q (place_of places a)) (list_of m a) ≡ false
  no_own_program none = list_any_none (λ q. is_program q (place_of places a)) (list_of m a)
      (λ k d within. ap (λ q. is_program q (place_of places a)) (get_or_default_zero (list_of m a) k d within) ∙ sym (holds_single (get_or (list_of m a) k 0) (place_of places a)) ∙ (none k within).0)
