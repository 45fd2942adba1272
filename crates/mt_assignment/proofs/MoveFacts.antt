-- What a move of an agent to an option that would be taken does, by the applicants that it touches alone.
use Rattle.std.proofs.Common.{◌≡◌, ℕ, zero, suc, ◌+◌, ◌<◌, ◌≤◌, Bool, true, false, not, ◌&&◌, ◌||◌, ◌==◌, List, [], ◌∷◌, filter, length, Option, Some, None, refl, ap, sym, ◌∙◌, inl, inr, arith, subst, ap₂}
use Rattle.std.specs.List.{list_any, range_with_len}
use Rattle.std.specs.List.Sorted.{IsStrictlySortedBy}
use Rattle.std.specs.Ordering.{nat_cmp}
use Rattle.std.specs.Cmp.{both_ways as same_tests}
use Rattle.std.proofs.lemmas.Bool.{cases_Bool, cases_eq, and_parts, and_from, and_left, and_right, or_cases, or_left, or_right, or_from, both_ways, false≢true, false_from_ne_true, true_from_ne_false, not-true, not_from_false, not_from_true, eq-eqb, eqb-true, ne_eqb}
use Rattle.std.proofs.lemmas.Map.Keys.{sorted_tail}
use Rattle.mt_terms.specs.Lists.{has, below, is_distinct}
use Rattle.mt_terms.specs.Market.{Market, applicants, program_of, agent_of, members, agents}
use Rattle.mt_terms.specs.Matching.{Places, Placement, place_of, is_program, at, send, options, single_placement, couple_placement}
use Rattle.mt_terms.specs.Choice.{choice}
use Rattle.mt_terms.specs.Rounds.{programs_sent_to, displaced, displaced_at, is_left, is_same_agent, left_programs, move_of}
use Rattle.mt_terms.specs.Stability.{is_chosen}
use Rattle.mt_terms.specs.declared.numbers.Agent.{Agent}
use Rattle.mt_terms.specs.declared.numbers.Agent.TheVariants.{Single, Couple}
use Rattle.mt_stability_laws.proofs.ChoiceLemmas.{choice_facts}
use Rattle.mt_round_laws.proofs.RoundsLists.{In, found, finds, has_in, in_has, in_image, of_image, in_joined, of_joined, in_below, of_below, each}
use Rattle.mt_round_laws.proofs.RoundsPlaces.{at_none}
use Rattle.mt_round_laws.proofs.RoundsAgents.{agent_of_applicant, agent_from_list, of_list, on_list, member_of_agent, apart, option_movers, option_entry, option_member, option_there, option_elsewhere}
use Rattle.mt_round_laws.proofs.RoundsFits.{listing_program, fitting_facts}
use Rattle.mt_round_laws.proofs.RoundsMove.{IsMove, of_displaced, displaced_agents, match_after, is_displaced, displaced_agent, goes_out, mover_stays, stays_in, was_before}
use Rattle.mt_assignment.specs.Assigned.{AreSent, AreSentToLists}
use Rattle.mt_assignment.specs.Moves.{is_left_by_movers, is_kept_at, all_members, IsTaking}
use Rattle.mt_round_laws.proofs.SentCounts.{in_list}
use Rattle.mt_stage_tables.proofs.OrderFacts.{below_rest}
use Rattle.mt_terms.proofs.AgentFacts.{same_agent}

-- an option names two applicants at most
option_few : (m : Market) (g : Agent) (sent : Placement) → In sent (options m g) → length sent ≤ 2
option_few m (Single a) sent i = let w = of_image (single_placement a) sent _ i in let e = ap length w.2 in omega arith
option_few m (Couple c) sent i = let w = of_image (couple_placement _ _) sent _ i in let e = ap length w.2 in omega arith

-- who sends somebody to a program
of_sent_to : (sent : Placement) (p : ℕ) → has (programs_sent_to sent) p ≡ true → (a : ℕ) × In (a, Some p) sent
of_sent_to [] p h = absurd (false≢true h)
of_sent_to (s ∷ sent) p h = by_place s.1 refl h (of_sent_to sent p)
  where
    by_place : (v : Option ℕ) → s.1 ≡ v → has (programs_sent_to ((s.0, v) ∷ sent)) p ≡ true → (has (programs_sent_to sent) p ≡ true → (a : ℕ) × In (a, Some p) sent)
        → (a : ℕ) × In (a, Some p) (s ∷ sent)
    by_place None is h later = let w = later h in (w.0, inr w.1)
    by_place (Some q) is h later = elim (or_cases (q == p) (has (programs_sent_to sent) p) h) [
      | inl here ↦ (s.0, inl (ap (λ v. (s.0, v)) (is ∙ ap Some (eqb-true q p here))))
      | inr rest ↦ let w = later rest in (w.0, inr w.1)
    ]

-- Below, an agent takes an option.
module _ {m : Market} {old : Places} {g : Agent} {sent : Placement} (taking : IsTaking m old g sent) where
  pub is_move : IsMove m old g sent
  is_move = record {
    well_formed = taking.well_formed;
    fitting = fitting_facts m taking.well_formed old taking.fitting;
    agent = agent_from_list m taking.well_formed g (of_list g (agents m) taking.agent);
    option = in_list (options m g) sent taking.option;
    taken = taking.taken;
  }

  pub are_sent : AreSent m sent
  are_sent =
      let mv = is_move in
      let named = option_movers m g sent mv.option in
      record {
        distinct = subst (λ xs. is_distinct xs ≡ true) (sym named) mv.agent.distinct;
        within = λ a on. mv.agent.within a (subst (λ xs. has xs a ≡ true) named on);
        few = option_few m g sent mv.option;
      }

  pub programs_within : (p : ℕ) → has (programs_sent_to sent) p ≡ true → p < length m.programs
  programs_within p on =
      let mv = is_move in
      let a = of_sent_to sent p on in
      let chosen = each _ (a.0, Some p) sent mv.taken a.1 in
      listing_program m p a.0 (choice_facts (program_of m p) (at (send sent old) p) a.0 chosen).is_listed

  pub sent_to_lists : AreSentToLists m sent
  sent_to_lists s p on is =
      let chosen = each (λ (x : ℕ × Option ℕ). is_chosen m (send sent old) x.0 x.1) s sent is_move.taken (in_list sent s on) in
      (choice_facts (program_of m p) (at (send sent old) p) s.0 (subst (λ v. is_chosen m (send sent old) s.0 v ≡ true) is chosen)).is_listed

  pub displaced_within : (a : ℕ) → has (displaced m (send sent old) sent) a ≡ true → a < applicants m
  displaced_within a on =
      let mv = is_move in
      let p = of_displaced m (send sent old) sent a (has_in a _ on) in
      mv.well_formed.rankings_within p.0 a p.3

  -- Below, old is the match before the move, moved the one with everybody sent, and new the one after it.
  abbrev moved : Places
  moved = send sent old

  abbrev new : Places
  new = match_after m old sent

  -- who was at a program, is not there now and was not displaced there left it
  leaver : (p a : ℕ) → a < applicants m → at old p a ≡ true → at new p a ≡ false → displaced_at m moved p a ≡ false → is_left m (move_of m old sent) p ≡ true
  leaver p a within was gone willing =
      finds _ a (below (applicants m)) (in_below a (applicants m) within) (and_from _ _ (and_from _ _ was (not_from_false _ gone)) (not_from_false _ willing))

  -- a member of the agent that moves is where it is sent
  mover_there : (a : ℕ) (v : Option ℕ) → In (a, v) sent → (place_of moved a ≡ v) × (place_of new a ≡ v)
  mover_there a v on =
      let mv = is_move in
      let there = option_there mv.agent sent mv.option old mv.fitting.one_each a v on in
      (there, stays_in mv g mv.agent (mover_stays mv) a (option_member m g sent mv.option a v on) ∙ there)

  -- a program that a member of the agent leaves
  by_movers : (p : ℕ) → is_left_by_movers old sent p ≡ true → is_left m (move_of m old sent) p ≡ true
  by_movers p h =
      let mv = is_move in
      let w = found (λ s. at old p s.0 && not (is_program p s.1)) sent h in
      let a = w.0.0 in
      let parts = and_parts (at old p a) (not (is_program p w.0.1)) w.2 in
      let elsewhere : is_program p w.0.1 ≡ false = not-true _ parts.1 in
      let there = mover_there a w.0.1 w.1 in
      leaver p a (mv.agent.within a (option_member m g sent mv.option a w.0.1 w.1)) parts.0 (ap (is_program p) there.1 ∙ elsewhere)
      (and_left (at moved p a) _ (ap (is_program p) there.0 ∙ elsewhere))

  -- a program that a member of a displaced applicant's agent leaves, if it was chosen
  by_partners : (p : ℕ) → list_any (is_kept_at m moved p) (all_members m (displaced m moved sent)) ≡ true → is_left m (move_of m old sent) p ≡ true
  by_partners p h =
      let mv = is_move in
      let w = found (is_kept_at m moved p) (all_members m (displaced m moved sent)) h in
      let a = w.0 in
      let parts = and_parts (at moved p a) (choice (program_of m p) (at moved p) a) w.2 in
      let z = of_joined (λ b. members m (agent_of m b)) a (displaced m moved sent) w.1 in
      let h = agent_of m z.0 in
      let of_h = displaced_agent mv z.0 z.1 in
      let member = in_has a (members m h) z.2 in
      let out = on_list h (displaced_agents m old sent) (in_image (agent_of m) z.0 (displaced m moved sent) z.1) in
      let other : is_same_agent h g ≡ false = false_from_ne_true _ (λ same.
      both_ways (is_displaced m old sent g) (mover_stays mv) (subst (λ x. is_displaced m old sent x ≡ true) (same_agent h g same) out)) in
      leaver p a (of_h.within a member) (was_before mv a p (apart mv.agent of_h other a member) parts.0) (at_none new p a (goes_out m old sent h out a member))
      (and_right (at moved p a) _ (not_from_true _ parts.1))

  -- an applicant that leaves a program is one of these
  leavers : (p : ℕ) → is_left m (move_of m old sent) p ≡ true → (is_left_by_movers old sent p || list_any (is_kept_at m moved p) (all_members m (displaced m moved sent))) ≡ true
  leavers p h =
      let mv = is_move in
      let w = found (λ a. at old p a && not (at new p a) && not (displaced_at m moved p a)) (below (applicants m)) h in
      let a = w.0 in
      let parts = and_parts (at old p a && not (at new p a)) (not (displaced_at m moved p a)) w.2 in
      let places = and_parts (at old p a) (not (at new p a)) parts.0 in
      let gone : at new p a ≡ false = not-true _ places.1 in
      let willing : displaced_at m moved p a ≡ false = not-true _ parts.1 in
      elim (cases_Bool (has (members m g) a)) [
        | inl member ↦
            let entry = option_entry m g sent mv.option a member in
            let elsewhere : is_program p entry.0 ≡ false = ap (is_program p) (sym (mover_there a entry.0 entry.1).1) ∙ gone in
            or_left _ _ (finds (λ s. at old p s.0 && not (is_program p s.1)) (a, entry.0) sent entry.1 (and_from _ _ places.0 (not_from_false _ elsewhere)))
        | inr other ↦
            let here : at moved p a ≡ true = ap (is_program p) (option_elsewhere m g sent mv.option old a other) ∙ places.0 in
            let chosen : choice (program_of m p) (at moved p) a ≡ true = true_from_ne_false _ (λ refused.
            both_ways (displaced_at m moved p a) willing (and_from _ _ here (not_from_false _ refused))) in
            let of_h = agent_of_applicant m mv.well_formed a (of_below a (applicants m) w.1) in
            let member = member_of_agent m a in
            elim (cases_Bool (is_displaced m old sent (agent_of m a))) [
              | inl out ↦
                  let z = of_image (agent_of m) (agent_of m a) (displaced m moved sent) (of_list (agent_of m a) (displaced_agents m old sent) out) in
                  let on = in_joined (λ b. members m (agent_of m b)) z.0 a (displaced m moved sent) z.1
                  (has_in a (members m (agent_of m z.0)) (subst (λ x. has (members m x) a ≡ true) (sym z.2) member)) in
                  or_right (is_left_by_movers old sent p) _ (finds (is_kept_at m moved p) a (all_members m (displaced m moved sent)) on (and_from _ _ here chosen))
              | inr stays ↦
                  absurd (both_ways (at new p a) gone (ap (is_program p) (stays_in mv (agent_of m a) of_h stays a member) ∙ here))
            ]
      ]

  -- the programs that are left are those that members of the agent leave, and those that partners of displaced
  -- applicants leave
  pub left_is : (p : ℕ) → (is_left_by_movers old sent p || list_any (is_kept_at m moved p) (all_members m (displaced m moved sent))) ≡ is_left m (move_of m old sent) p
  left_is p = same_tests _ _ (λ h. elim (or_cases (is_left_by_movers old sent p) _ h) [ inl x ↦ by_movers p x | inr x ↦ by_partners p x ]) (leavers p)

  -- an applicant that leaves a program was there, so it is one of the market
  pub left_within : (p : ℕ) → is_left m (move_of m old sent) p ≡ true → p < length m.programs
  left_within p h =
      let mv = is_move in
      let w = found (λ a. at old p a && not (at new p a) && not (displaced_at m moved p a)) (below (applicants m)) h in
      let parts = and_parts (at old p w.0 && not (at new p w.0)) (not (displaced_at m moved p w.0)) w.2 in
      let places = and_parts (at old p w.0) (not (at new p w.0)) parts.0 in
      listing_program m p w.0 (mv.fitting.listed w.0 p places.0)

-- Numbers in order, each once, that are those of a range which pass a test.
none_on : (ks : List ℕ) → ((p : ℕ) → has ks p ≡ true → ⊥) → ks ≡ []
none_on [] h = refl
none_on (k ∷ ks) h = absurd (h k (or_left (k == k) (has ks k) (eq-eqb k k refl)))

sorted_range : (test : ℕ → Bool) (ks : List ℕ) (a n : ℕ) → IsStrictlySortedBy nat_cmp ks → ((p : ℕ) → has ks p ≡ true → (a ≤ p) × (p < a + n))
    → ((p : ℕ) → a ≤ p → p < a + n → has ks p ≡ test p) → ks ≡ filter test (range_with_len a n)
sorted_range test ks a zero sorted within is = none_on ks (λ p on. let w = within p on in absurd (omega arith))
sorted_range test [] a (suc n) sorted within is =
    rw (sym (is a (omega arith) (omega arith))) (sorted_range test [] (a + 1) n sorted (λ p on. absurd (false≢true on)) (λ p low high. is p (omega arith) (omega arith)))
sorted_range test (k ∷ ks) a (suc n) sorted within is =
    let above = below_rest k ks sorted in
    let first = within k (or_left (k == k) (has ks k) (eq-eqb k k refl)) in
    elim (cases_eq k a) [
      | inl same ↦
          let passes : test a ≡ true = sym (is a (omega arith) (omega arith)) ∙ or_left (k == a) (has ks a) (eq-eqb k a same) in
          let rest = sorted_range test ks (a + 1) n (sorted_tail nat_cmp k ks sorted)
          (λ p on. let l = above p on in let w = within p (or_right (k == p) (has ks p) on) in (omega arith, omega arith))
          (λ p low high. let other : (k == p) ≡ false = ne_eqb k p (λ e. absurd (omega arith)) in
          ap (λ (b : Bool). b || has ks p) (sym other) ∙ is p (omega arith) (omega arith)) in
          rw passes (ap₂ ◌∷◌ same rest)
      | inr other ↦
          let off : has ks a ≡ false = false_from_ne_true _ (λ on. let l = above a on in absurd (omega arith)) in
          let fails : test a ≡ false = sym (is a (omega arith) (omega arith)) ∙ or_from (k == a) (has ks a) (ne_eqb k a other) off in
          rw fails (sorted_range test (k ∷ ks) (a + 1) n sorted
          (λ p on. let w = within p on in (later p on first.0 other above, omega arith))
          (λ p low high. is p (omega arith) (omega arith)))
    ]
  where
    later : (p : ℕ) → has (k ∷ ks) p ≡ true → a ≤ k → (k ≡ a → ⊥) → ((q : ℕ) → has ks q ≡ true → k < q) → a + 1 ≤ p
    later p on low other above = elim (or_cases (k == p) (has ks p) on) [
      | inl here ↦ (let e = eqb-true k p here in omega arith)
      | inr rest ↦ (let l = above p rest in omega arith)
    ]

-- they are the numbers of the range that pass
pub sorted_below : (test : ℕ → Bool) (ks : List ℕ) (n : ℕ) → IsStrictlySortedBy nat_cmp ks → ((p : ℕ) → has ks p ≡ test p) → ((p : ℕ) → test p ≡ true → p < n)
    → ks ≡ filter test (below n)
sorted_below test ks n sorted is within =
    sorted_range test ks 0 n sorted (λ p on. let l = within p (sym (is p) ∙ on) in (omega arith, omega arith)) (λ p low high. is p)

-- Below, an agent takes an option again: what is left after it, and who is to be looked at.
module _ {m : Market} {old : Places} {g : Agent} {sent : Placement} (taking : IsTaking m old g sent) where
  -- an ordered set of the programs that are left has them by number
  pub left_keys : (by_movers left : List ℕ) → IsStrictlySortedBy nat_cmp left → ((p : ℕ) → has by_movers p ≡ is_left_by_movers old sent p)
      → ((p : ℕ) → has left p ≡ (has by_movers p || list_any (is_kept_at m (send sent old) p) (all_members m (displaced m (send sent old) sent))))
      → left ≡ left_programs m (move_of m old sent)
  left_keys by_movers left sorted first all =
      sorted_below (is_left m (move_of m old sent)) left (length m.programs) sorted
      (λ p. all p ∙ ap (λ (b : Bool). b || list_any (is_kept_at m (send sent old) p) (all_members m (displaced m (send sent old) sent))) (first p) ∙ left_is taking p)
      (left_within taking)
