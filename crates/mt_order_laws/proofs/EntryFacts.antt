-- The couples up to a place in an order enter alike whatever couples come after them. The later couples are unplaced until
-- they enter, so they are neither displaced nor looked at.
use Rattle.std.proofs.Common.{◌≡◌, ℕ, zero, suc, ◌+◌, ◌<◌, ◌≤◌, Bool, true, false, ◌&&◌, List, [], ◌∷◌, ◌++◌, map, length, Option, Some, None, inl, inr, refl, ap, ap₂, sym, ◌∙◌, arith, subst, flat_map, leb-true, length-append, if◌then◌else◌, option_and_then}
use Rattle.std.specs.List.{list_any, find, range_with_len}
use Rattle.std.proofs.lemmas.Bool.{cases_Bool, cases_lt, and_parts, and_left, or_left, both_ways, false≢true, true_from_ne_false, false_from_ne_true}
use Rattle.std.proofs.lemmas.List.{get_or_append_left, length-map, map-append}
use Rattle.mt_terms.specs.Lists.{has, below, until}
use Rattle.mt_terms.specs.Market.{Market, Partners, program_of, list_of, couple_of, is_member, agent_from, agent_of, members, agents}
use Rattle.mt_terms.specs.Matching.{Places, Placement, at, single_placement, couple_placement, options, send, holds, unplaced}
use Rattle.mt_terms.specs.Stability.{would_be_taken, blocks}
use Rattle.mt_terms.specs.WellFormed.{IsWellFormed}
use Rattle.mt_terms.specs.Rounds.{Work, Move, is_same_agent, all_joined, has_entered, first_taken, move_of, displaced, left_programs, blocking_on_list, rechecked, after_taking, round_of, after_rounds, after_entries, is_on, IsRoundState, state}
use Rattle.mt_terms.specs.declared.numbers.Agent.{Agent}
use Rattle.mt_terms.specs.declared.numbers.Agent.TheVariants.{Single, Couple}
use Rattle.mt_terms.proofs.AgentFacts.{is_same_agent_refl, same_agent, agent_from_single}
use Rattle.mt_round_laws.proofs.RoundsLists.{In}
use Rattle.mt_round_laws.proofs.RoundsPlaces.{at_none}
use Rattle.mt_round_laws.proofs.RoundsAgents.{on_list, agent_on_list, member_of_agent, one_of_two, option_elsewhere, apart}
use Rattle.mt_round_laws.proofs.RoundsMove.{IsMove, of_displaced, displaced_parts, displaced_agent}
use Rattle.mt_round_laws.proofs.RoundsKeep.{is_unplaced, move_from, keep_round}
use Rattle.mt_round_laws.proofs.RoundsStage.{first_couple_waits_lem, next_couple_waits_lem}
use Rattle.mt_order_laws.specs.Reordered.{reordered, IsOrderOfSome}
use Rattle.mt_order_laws.specs.Laws.{EntriesBeforeAlike, AnewIsGoingOn}
use Rattle.mt_order_laws.proofs.OrderLists.{distinct_without, has_put, same_map, same_flat_map, same_kept}
use Rattle.mt_order_laws.proofs.FormedFacts.{couple_at, couple_within, well_formed_reordered}
use Rattle.mt_order_laws.proofs.StableFacts.{best_in_any_order_lem}

-- the agent of an applicant among the first couples alone
front_couple : (xs ys : List Partners) (k a c : ℕ) → agent_from (xs ++ ys) k a ≡ Couple c → c < k + length xs → agent_from xs k a ≡ Couple c
front_couple [] ys k a c e l = let w = couple_within ys k a c e in absurd (omega arith)
front_couple (x ∷ xs) ys k a c e l = elim (cases_Bool (is_member x a)) [
  | inl t ↦ (let both : Couple k ≡ Couple c = rw t at e in rw t both)
  | inr t ↦ rw t (front_couple xs ys (k + 1) a c (rw t at e) (omega arith))
]

front_single : (xs ys : List Partners) (k a b : ℕ) → agent_from (xs ++ ys) k a ≡ Single b → agent_from xs k a ≡ Single b
front_single [] ys k a b e = ap Single (sym (agent_from_single ys k a b e))
front_single (x ∷ xs) ys k a b e = elim (cases_Bool (is_member x a)) [
  | inl t ↦ absurd (let both : Couple k ≡ Single b = rw t at e in cc)
  | inr t ↦ rw t (front_single xs ys (k + 1) a b (rw t at e))
]

front_later : (xs ys : List Partners) (k a c : ℕ) → agent_from (xs ++ ys) k a ≡ Couple c → k + length xs ≤ c → agent_from xs k a ≡ Single a
front_later [] ys k a c e l = refl
front_later (x ∷ xs) ys k a c e l = elim (cases_Bool (is_member x a)) [
  | inl t ↦ absurd (let both : Couple k ≡ Couple c = rw t at e in let is : k ≡ c = cc in omega arith)
  | inr t ↦ rw t (front_later xs ys (k + 1) a c (rw t at e) (omega arith))
]

-- the move of a placement that takes out these applicants
abbrev move_without : Places → Placement → List ℕ → Move
move_without old sent out = record { before = old; seated = send sent old; after = unplaced out (send sent old) }

-- the agent that moved, if it blocks
abbrev again : Agent → Bool → List Agent
again g blocking = if blocking then (g ∷ []) else []

-- what an agent is asked goes by its options
abbrev asked : Market → Places → List Placement → Bool
asked m places os = list_any (would_be_taken m places) (until (holds places) os)

module _ (m : Market) (wf : IsWellFormed m) (before after : List ℕ) (o : IsOrderOfSome m (before ++ after)) where
  formed : IsWellFormed (reordered (before ++ after) m)
  formed = well_formed_reordered m wf (before ++ after) o

  couple_alike : (c : ℕ) → c < length before → couple_of (reordered (before ++ after) m) c ≡ couple_of (reordered before m) c
  couple_alike c l =
      couple_at m (before ++ after) c (omega (arith, length-append before after))
      ∙ ap (couple_of m) (get_or_append_left before after 0 c l)
      ∙ sym (couple_at m before c l)

  whole_agent : (a : ℕ) → agent_of (reordered (before ++ after) m) a ≡ agent_from (map (couple_of m) before ++ map (couple_of m) after) 0 a
  whole_agent a = ap (λ (xs : List Partners). agent_from xs 0 a) (map-append (couple_of m) before after)

  -- an agent that has entered is the same
  agent_alike : (k a : ℕ) → k < length before → has_entered k (agent_of (reordered (before ++ after) m) a) ≡ true
      → agent_of (reordered before m) a ≡ agent_of (reordered (before ++ after) m) a
  agent_alike k a l = by_kind (agent_of (reordered (before ++ after) m) a) refl
    where
      by_kind : (g : Agent) → agent_of (reordered (before ++ after) m) a ≡ g → has_entered k g ≡ true → agent_of (reordered before m) a ≡ g
      by_kind (Single b) e h = front_single (map (couple_of m) before) (map (couple_of m) after) 0 a b (sym (whole_agent a) ∙ e)
      by_kind (Couple c) e h =
          let le : c ≤ k = leb-true c k h in
          let few : c < 0 + length (map (couple_of m) before) = omega (arith, length-map before (couple_of m)) in
          front_couple (map (couple_of m) before) (map (couple_of m) after) 0 a c (sym (whole_agent a) ∙ e) few

  -- a member of a couple wants nothing by itself
  member_list : (a c : ℕ) → agent_of (reordered (before ++ after) m) a ≡ Couple c → list_of m a ≡ []
  member_list a c e =
      let l : c < length (map (couple_of m) (before ++ after)) = (let w = couple_within (map (couple_of m) (before ++ after)) 0 a c e in omega arith) in
      elim (one_of_two _ _ a (subst (λ g. has (members (reordered (before ++ after) m) g) a ≡ true) e (member_of_agent (reordered (before ++ after) m) a))) [
        | inl first ↦ subst (λ x. list_of m x ≡ []) first (formed.first_member c l).no_list
        | inr second ↦ subst (λ x. list_of m x ≡ []) second (formed.second_member c l).no_list
      ]

  -- an agent that has not entered is not looked at among the first couples alone
  later_unasked : (k a : ℕ) (places : Places) → k < length before → has_entered k (agent_of (reordered (before ++ after) m) a) ≡ false
      → (has_entered k (agent_of (reordered before m) a) && blocks (reordered before m) places (agent_of (reordered before m) a)) ≡ false
  later_unasked k a places l = by_kind (agent_of (reordered (before ++ after) m) a) refl
    where
      by_kind : (g : Agent) → agent_of (reordered (before ++ after) m) a ≡ g → has_entered k g ≡ false
          → (has_entered k (agent_of (reordered before m) a) && blocks (reordered before m) places (agent_of (reordered before m) a)) ≡ false
      by_kind (Single b) e h = absurd (false≢true (sym h))
      by_kind (Couple c) e h = elim (cases_lt c (length (map (couple_of m) before))) [
        | inl few ↦
            let low : c < 0 + length (map (couple_of m) before) = omega arith in
            let is = front_couple (map (couple_of m) before) (map (couple_of m) after) 0 a c (sym (whole_agent a) ∙ e) low in
            subst (λ g. (has_entered k g && blocks (reordered before m) places g) ≡ false) (sym is)
            (and_left (has_entered k (Couple c)) (blocks (reordered before m) places (Couple c)) h)
        | inr past ↦
            let high : 0 + length (map (couple_of m) before) ≤ c = omega arith in
            let is = front_later (map (couple_of m) before) (map (couple_of m) after) 0 a c (sym (whole_agent a) ∙ e) high in
            subst (λ g. (has_entered k g && blocks (reordered before m) places g) ≡ false) (sym is)
            (ap (λ xs. asked m places (map (single_placement a) xs)) (member_list a c e))
      ]

  options_alike : (k : ℕ) (g : Agent) → k < length before → has_entered k g ≡ true → options (reordered (before ++ after) m) g ≡ options (reordered before m) g
  options_alike k (Single a) l h = refl
  options_alike k (Couple c) l h =
      let le : c ≤ k = leb-true c k h in
      ap (λ (x : Partners). map (couple_placement x.first x.second) x.pairs) (couple_alike c (omega arith))

  members_alike : (k : ℕ) (g : Agent) → k < length before → has_entered k g ≡ true → members (reordered (before ++ after) m) g ≡ members (reordered before m) g
  members_alike k (Single a) l h = refl
  members_alike k (Couple c) l h =
      let le : c ≤ k = leb-true c k h in
      ap (λ (x : Partners). x.first ∷ x.second ∷ []) (couple_alike c (omega arith))

  blocks_alike : (k : ℕ) (g : Agent) (places : Places) → k < length before → has_entered k g ≡ true
      → blocks (reordered (before ++ after) m) places g ≡ blocks (reordered before m) places g
  blocks_alike k g places l h = ap (asked m places) (options_alike k g l h)

  blocking_alike : (k : ℕ) (places : Places) (p : ℕ) → k < length before
      → blocking_on_list (reordered (before ++ after) m) k places p ≡ blocking_on_list (reordered before m) k places p
  blocking_alike k places p l =
      same_kept (agent_of (reordered (before ++ after) m)) (agent_of (reordered before m))
      (λ g. has_entered k g && blocks (reordered (before ++ after) m) places g) (λ g. has_entered k g && blocks (reordered before m) places g)
      (program_of m p).ranking (λ a. elim (cases_Bool (has_entered k (agent_of (reordered (before ++ after) m) a))) [
        | inl in_turn ↦
            let is = agent_alike k a l in_turn in (
              subst (λ g. (has_entered k (agent_of (reordered (before ++ after) m) a) && blocks (reordered (before ++ after) m) places (agent_of (reordered (before ++ after) m) a))
                  ≡ (has_entered k g && blocks (reordered before m) places g)) (sym is)
                  (ap (λ (b : Bool). has_entered k (agent_of (reordered (before ++ after) m) a) && b) (blocks_alike k (agent_of (reordered (before ++ after) m) a) places l in_turn)),
              (λ h. sym is),
            )
        | inr later ↦ (
          and_left (has_entered k (agent_of (reordered (before ++ after) m) a)) _ later ∙ sym (later_unasked k a places l later),
          (λ h. absurd (both_ways (has_entered k (agent_of (reordered (before ++ after) m) a)) later (and_parts _ _ h).0)),
        )
      ])

  module _ (k : ℕ) (old : Places) (g : Agent) (sent : Placement) (ws : List Agent) (l : k < length before)
      (mv : IsMove (reordered (before ++ after) m) old g sent) (g_in : has_entered k g ≡ true)
      (st : IsRoundState (reordered (before ++ after) m) k (state old (g ∷ ws))) where
    -- a displaced applicant's agent has entered, since nobody else was placed
    displaced_in : (z : ℕ) → In z (displaced m (send sent old) sent) → has_entered k (agent_of (reordered (before ++ after) m) z) ≡ true
    displaced_in z i =
        let p = of_displaced (reordered (before ++ after) m) (send sent old) sent z i in
        let of_z = displaced_agent mv z i in
        let member = member_of_agent (reordered (before ++ after) m) z in
        true_from_ne_false (has_entered k (agent_of (reordered (before ++ after) m) z)) (λ out.
        let on = on_list (agent_of (reordered (before ++ after) m) z) (agents (reordered (before ++ after) m)) (agent_on_list (reordered (before ++ after) m) (agent_of (reordered (before ++ after) m) z) of_z) in
        let unplaced_it = is_unplaced old (members (reordered (before ++ after) m) (agent_of (reordered (before ++ after) m) z)) z
        (st.outside_unplaced (agent_of (reordered (before ++ after) m) z) on out) member in
        let other = false_from_ne_true (is_same_agent (agent_of (reordered (before ++ after) m) z) g) (λ same.
        both_ways (has_entered k (agent_of (reordered (before ++ after) m) z)) out
        (ap (has_entered k) (same_agent (agent_of (reordered (before ++ after) m) z) g same) ∙ g_in)) in
        let unmoved = option_elsewhere (reordered (before ++ after) m) g sent mv.option old z (apart mv.agent of_z other z member) in
        both_ways (at (send sent old) p.0 z) (at_none (send sent old) p.0 z (unmoved ∙ unplaced_it))
        (displaced_parts (reordered (before ++ after) m) (send sent old) p.0 z p.2).0)

    gone_alike : flat_map (λ a. members (reordered (before ++ after) m) (agent_of (reordered (before ++ after) m) a)) (displaced m (send sent old) sent)
        ≡ flat_map (λ a. members (reordered before m) (agent_of (reordered before m) a)) (displaced m (send sent old) sent)
    gone_alike = same_flat_map _ _ (displaced m (send sent old) sent) (λ z i.
        members_alike k (agent_of (reordered (before ++ after) m) z) l (displaced_in z i)
        ∙ ap (members (reordered before m)) (sym (agent_alike k z l (displaced_in z i))))

    move_alike : move_of (reordered (before ++ after) m) old sent ≡ move_of (reordered before m) old sent
    move_alike = ap (move_without old sent) gone_alike

    looked_alike : rechecked (reordered (before ++ after) m) k g sent (move_of (reordered (before ++ after) m) old sent)
        ≡ rechecked (reordered before m) k g sent (move_of (reordered (before ++ after) m) old sent)
    looked_alike =
        let v = move_of (reordered (before ++ after) m) old sent in
        ap₂ ◌++◌
        (ap₂ ◌++◌
        (same_map (agent_of (reordered (before ++ after) m)) (agent_of (reordered before m)) (displaced m (send sent old) sent)
        (λ z i. sym (agent_alike k z l (displaced_in z i))))
        (ap (again g) (blocks_alike k g v.after l g_in)))
        (same_flat_map (blocking_on_list (reordered (before ++ after) m) k v.after) (blocking_on_list (reordered before m) k v.after) (left_programs m v)
        (λ p i. blocking_alike k v.after p l))

    taking_alike : after_taking (reordered (before ++ after) m) k old g ws (Some sent) ≡ after_taking (reordered before m) k old g ws (Some sent)
    taking_alike = ap₂ state (ap Move.after move_alike) (ap (all_joined ws) (looked_alike ∙ ap (rechecked (reordered before m) k g sent) move_alike))

  round_alike : (k : ℕ) (places : Places) (ws : List Agent) → k < length before → IsRoundState (reordered (before ++ after) m) k (state places ws)
      → round_of (reordered (before ++ after) m) k places ws ≡ round_of (reordered before m) k places ws
  round_alike k places [] l st = refl
  round_alike k places (g ∷ ws) l st =
      by_choice (first_taken (reordered (before ++ after) m) places g) refl
      ∙ ap (after_taking (reordered before m) k places g ws) (ap (λ os. find (would_be_taken m places) (until (holds places) os)) (options_alike k g l front.1))
    where
      front : (is_on (agents (reordered (before ++ after) m)) g ≡ true) × (has_entered k g ≡ true)
      front = st.waiting_entered g (or_left (is_same_agent g g) (is_on ws g) (is_same_agent_refl g))

      by_choice : (o : Option Placement) → first_taken (reordered (before ++ after) m) places g ≡ o
          → after_taking (reordered (before ++ after) m) k places g ws o ≡ after_taking (reordered before m) k places g ws o
      by_choice None e = refl
      by_choice (Some sent) e = taking_alike k places g sent ws l (move_from (reordered (before ++ after) m) formed places g st.fitting front.0 sent e) front.1 st

  rounds_alike : (k left : ℕ) (places : Places) (ws : List Agent) → k < length before → IsRoundState (reordered (before ++ after) m) k (state places ws)
      → after_rounds (reordered (before ++ after) m) k left places ws ≡ after_rounds (reordered before m) k left places ws
  rounds_alike k left places [] l st = refl
  rounds_alike k zero places (g ∷ ws) l st = refl
  rounds_alike k (suc left) places (g ∷ ws) l st =
      let next = round_of (reordered (before ++ after) m) k places (g ∷ ws) in
      rounds_alike k left next.places next.waiting l (keep_round (reordered (before ++ after) m) formed k (state places (g ∷ ws)) st)
      ∙ ap (λ (w : Work). after_rounds (reordered before m) k left w.places w.waiting) (round_alike k places (g ∷ ws) l st)

  rounds_end : (k left : ℕ) (places : Places) (ws : List Agent) (r : Places × ℕ) → after_rounds (reordered (before ++ after) m) k left places ws ≡ Some r
      → IsRoundState (reordered (before ++ after) m) k (state places ws) → IsRoundState (reordered (before ++ after) m) k (state r.0 [])
  rounds_end k left places [] r e st =
      let both : ◌≡◌ {A = Option (Places × ℕ)} (Some (places, left)) (Some r) = e in
      let is : places ≡ r.0 = cc in
      subst (λ x. IsRoundState (reordered (before ++ after) m) k (state x [])) is st
  rounds_end k zero places (g ∷ ws) r e st = absurd (let both : ◌≡◌ {A = Option (Places × ℕ)} None (Some r) = e in cc)
  rounds_end k (suc left) places (g ∷ ws) r e st =
      let next = round_of (reordered (before ++ after) m) k places (g ∷ ws) in
      rounds_end k left next.places next.waiting r e (keep_round (reordered (before ++ after) m) formed k (state places (g ∷ ws)) st)

  entries_alike : (start n left : ℕ) (places : Places) → start + n ≤ length before
      → (0 < n → IsRoundState (reordered (before ++ after) m) start (state places (Couple start ∷ [])))
      → after_entries (reordered (before ++ after) m) (range_with_len start n) left places ≡ after_entries (reordered before m) (range_with_len start n) left places
  entries_alike start zero left places l st = refl
  entries_alike start (suc n) left places l st =
      chain (after_rounds (reordered (before ++ after) m) start left places (Couple start ∷ [])) refl
      (λ more next waits. entries_alike (start + 1) n more next (omega arith) waits)
      ∙ ap (option_and_then (λ r. after_entries (reordered before m) (range_with_len (start + 1) n) r.1 r.0))
      (rounds_alike start left places (Couple start ∷ []) (omega arith) (st (omega arith)))
    where
      chain : (o : Option (Places × ℕ)) → after_rounds (reordered (before ++ after) m) start left places (Couple start ∷ []) ≡ o
          → ((more : ℕ) (next : Places) → (0 < n → IsRoundState (reordered (before ++ after) m) (start + 1) (state next (Couple (start + 1) ∷ [])))
          → after_entries (reordered (before ++ after) m) (range_with_len (start + 1) n) more next ≡ after_entries (reordered before m) (range_with_len (start + 1) n) more next)
          → option_and_then (λ r. after_entries (reordered (before ++ after) m) (range_with_len (start + 1) n) r.1 r.0) o
          ≡ option_and_then (λ r. after_entries (reordered before m) (range_with_len (start + 1) n) r.1 r.0) o
      chain None e rest = refl
      chain (Some r) e rest = rest r.1 r.0 (λ some.
          let room : start + 1 < length (map (couple_of m) (before ++ after)) = omega (arith, length-map (before ++ after) (couple_of m), length-append before after) in
          next_couple_waits_lem (reordered (before ++ after) m) formed start r.0
          (rounds_end start left places (Couple start ∷ []) r e (st (omega arith))) room)

-- so the first couples enter alike
pub entries_before_alike_lem : EntriesBeforeAlike
entries_before_alike_lem m before after wf o best is_best budget =
    entries_alike m wf before after o 0 (length before) budget best (omega arith) (λ some.
    let room : 0 < length (map (couple_of m) (before ++ after)) = omega (arith, length-map (before ++ after) (couple_of m), length-append before after) in
    first_couple_waits_lem (reordered (before ++ after) m) (well_formed_reordered m wf (before ++ after) o) best (best_in_any_order_lem m (before ++ after) best is_best) room)

-- couples that enter after others go on from them
pub entries_go_on : (m : Market) (ks js : List ℕ) (left : ℕ) (places : Places)
    → after_entries m (ks ++ js) left places ≡ option_and_then (λ r. after_entries m js r.1 r.0) (after_entries m ks left places)
entries_go_on m [] js left places = refl
entries_go_on m (k ∷ ks) js left places = chain (after_rounds m k left places (Couple k ∷ [])) (λ r. entries_go_on m ks js r.1 r.0)
  where
    chain : (o : Option (Places × ℕ))
        → ((r : Places × ℕ) → after_entries m (ks ++ js) r.1 r.0 ≡ option_and_then (λ q. after_entries m js q.1 q.0) (after_entries m ks r.1 r.0))
        → option_and_then (λ r. after_entries m (ks ++ js) r.1 r.0) o
        ≡ option_and_then (λ r. after_entries m js r.1 r.0) (option_and_then (λ r. after_entries m ks r.1 r.0) o)
    chain None rest = refl
    chain (Some r) rest = rest r

-- a range in two parts
pub range_append : (start a b : ℕ) → range_with_len start (a + b) ≡ range_with_len start a ++ range_with_len (start + a) b
range_append start zero b = let none : 0 + b ≡ b = omega arith in let here : start + 0 ≡ start = omega arith in rw (none, here) refl
range_append start (suc a) b =
    let more : suc a + b ≡ suc (a + b) = omega arith in
    let there : start + 1 + a ≡ start + suc a = omega arith in
    rw more (ap (λ xs. start ∷ xs) (range_append (start + 1) a b ∙ ap (λ s. range_with_len (start + 1) a ++ range_with_len s b) there))

-- to begin anew without a couple is to go on
pub anew_is_going_on_lem : AnewIsGoingOn
anew_is_going_on_lem m before c after wf o best is_best budget r e =
    let without : IsOrderOfSome m (before ++ after) = record {
      distinct = distinct_without before c after o.distinct;
      within = λ d on. o.within d (has_put before c after d on);
    } in
    let zero_on : 0 + length before ≡ length before = omega arith in
    let numbers : below (length (before ++ after)) ≡ below (length before) ++ range_with_len (length before) (length after) =
    ap below (length-append before after) ∙ range_append 0 (length before) (length after)
    ∙ ap (λ s. below (length before) ++ range_with_len s (length after)) zero_on in
    let first : after_entries (reordered (before ++ after) m) (below (length before)) budget best ≡ Some r =
    entries_before_alike_lem m before after wf without best is_best budget ∙ sym (entries_before_alike_lem m before (c ∷ after) wf o best is_best budget) ∙ e in
    ap (λ ks. after_entries (reordered (before ++ after) m) ks budget best) numbers
    ∙ entries_go_on (reordered (before ++ after) m) (below (length before)) (range_with_len (length before) (length after)) budget best
    ∙ ap (option_and_then (λ q. after_entries (reordered (before ++ after) m) (range_with_len (length before) (length after)) q.1 q.0)) first
