-- What holds between two rounds is kept by a round.
use Rattle.std.proofs.Common.{◌≡◌, ℕ, Bool, true, false, not, ◌&&◌, ◌||◌, List, [], ◌∷◌, ◌++◌, map, length, Option, Some, None, inl, inr, refl, ap, sym, ◌∙◌, subst, if◌then◌else◌, flat_map, find, is_some, IsTrue, ◌⊎◌}
use Rattle.std.specs.List.{list_any}
use Rattle.std.proofs.lemmas.List.Folds.{list_any-append}
use Rattle.std.proofs.lemmas.Bool.{cases_Bool, and_parts, or_cases, and_from, or_left, or_right, or_from, or_parts, false≢true, true_from_ne_false, false_from_ne_true, both_ways}
use Rattle.std.proofs.Math.Bool.{or_assoc, or-false}
use Rattle.mt_terms.specs.Lists.{has, below}
use Rattle.mt_terms.specs.Market.{Market, program_of, agent_of, members, agents}
use Rattle.mt_terms.specs.Matching.{Places, Placement, place_of, at, options, send, holds, none_placed, better}
use Rattle.mt_terms.specs.Stability.{is_chosen, fits, would_be_taken, blocks}
use Rattle.mt_terms.specs.WellFormed.{IsWellFormed}
use Rattle.mt_terms.specs.Rounds.{is_same_agent, joined, all_joined, has_entered, first_taken, move_of, displaced, is_left, left_programs, blocking_on_list, rechecked, after_taking, round_of, is_on, IsRoundState, IsFittingState}
use Rattle.mt_round_laws.specs.Rounds.{RoundKeeps, RoundFits}
use Rattle.mt_terms.specs.declared.numbers.Agent.{Agent}
use Rattle.mt_round_laws.proofs.RoundsLists.{In, found, finds, in_has, has_in, in_left, in_right, in_either, in_image, of_image, in_kept, of_kept, in_joined, of_joined, in_below, each, all_pass, fails_at, of_until}
use Rattle.mt_round_laws.proofs.RoundsPlaces.{at_none}
use Rattle.mt_round_laws.proofs.RoundsAgents.{IsAgent, on_list, of_list, agent_of_applicant, member_of_agent, agent_on_list, agent_from_list, option_member, option_elsewhere, apart}
use Rattle.mt_round_laws.proofs.RoundsFits.{fitting_facts, fits_from, listing_program, same_better}
use Rattle.mt_stability_laws.proofs.ChoiceLemmas.{choice_facts}
use Rattle.mt_round_laws.proofs.RoundsMove.{IsMove, match_after, is_displaced, displaced_agents, displaced_agent, displaced_parts, of_displaced, goes_out, untouched, fits_after}
use Rattle.mt_round_laws.proofs.RoundsRoom.{taken_before}
use Rattle.mt_terms.proofs.AgentFacts.{is_same_agent_refl, same_agent}

-- who is on the work list once others joined
pub on_joined : (ws : List Agent) (g h : Agent) → is_on (joined ws g) h ≡ (is_on ws h || is_same_agent h g)
on_joined ws g h = elim (cases_Bool (is_on ws g)) [
  | inl there ↦ rw there (elim (cases_Bool (is_same_agent h g)) [
    | inl same ↦ rw (same, subst (λ x. is_on ws x ≡ true) (sym (same_agent h g same)) there) refl
    | inr other ↦ rw other (sym (or-false (is_on ws h)))
  ])
  | inr absent ↦ rw absent (list_any-append (is_same_agent h) ws (g ∷ []) ∙ ap (λ b. is_on ws h || b) (or-false (is_same_agent h g)))
]

-- who is on the work list once all of these joined
pub on_all_joined : (ws gs : List Agent) (h : Agent) → is_on (all_joined ws gs) h ≡ (is_on ws h || is_on gs h)
on_all_joined ws [] h = sym (or-false (is_on ws h))
on_all_joined ws (g ∷ gs) h =
    on_all_joined (joined ws g) gs h ∙ ap (λ b. b || is_on gs h) (on_joined ws g h) ∙ or_assoc (is_on ws h) (is_same_agent h g) (is_on gs h)

-- what is found first stands on the list and passes
pub found_first : {X : Type 0} (p : X → Bool) (x : X) (xs : List X) → find p xs ≡ Some x → In x xs × (p x ≡ true)
found_first p x [] e = absurd cc
found_first {X} p x (y ∷ xs) e = elim (cases_Bool (p y)) [ inl t ↦ here t | inr t ↦ later (found_first p x xs (rw t at e)) ]
  where
    here : p y ≡ true → In x (y ∷ xs) × (p x ≡ true)
    here t =
        let found_it : Some y ≡ Some x = rw t at e in
        let is : y ≡ x = cc in
        (inl is, ap p (sym is) ∙ t)

    later : In x xs × (p x ≡ true) → In x (y ∷ xs) × (p x ≡ true)
    later w = (inr w.0, w.1)

-- if nothing is found nothing passes
pub found_none : {X : Type 0} (p : X → Bool) (xs : List X) → find p xs ≡ None → list_any p xs ≡ false
found_none p [] e = refl
found_none {X} p (y ∷ xs) e = elim (cases_Bool (p y)) [
  | inl t ↦ absurd (let found_it : ◌≡◌ {A = Option X} (Some y) None = rw t at e in cc)
  | inr t ↦ rw t (found_none p xs (rw t at e))
]

-- what is not some place is none
no_place : (v : Option ℕ) → not (is_some v) ≡ true → v ≡ None
no_place None h = refl
no_place (Some p) h = absurd (false≢true h)

-- if none of a list is placed, each is unplaced
pub is_unplaced : (places : Places) (xs : List ℕ) (a : ℕ) → none_placed places xs ≡ true → has xs a ≡ true → place_of places a ≡ None
is_unplaced places xs a h i = no_place (place_of places a) (each _ a xs h (has_in a xs i))

-- if each of a list is unplaced, none of it is placed
pub are_unplaced : (places : Places) (xs : List ℕ) → ((a : ℕ) → has xs a ≡ true → place_of places a ≡ None) → none_placed places xs ≡ true
are_unplaced places xs h = all_pass _ xs (λ a i. rw (h a (in_has a xs i)) refl)

-- an agent that has not entered is not one that has
not_mover : (k : ℕ) (g h : Agent) → has_entered k g ≡ true → has_entered k h ≡ false → is_same_agent h g ≡ false
not_mover k g h entered out = false_from_ne_true (is_same_agent h g) (λ same.
    both_ways (has_entered k h) out (ap (has_entered k) (same_agent h g same) ∙ entered))

-- the agent that moved, if it blocks
abbrev mover_again : Market → Places → Agent → Placement → List Agent
mover_again m old g sent = if blocks m (match_after m old sent) g then (g ∷ []) else []

-- the agents on the lists of left programs that block
abbrev reopened : Market → ℕ → Places → Placement → List Agent
reopened m k old sent = flat_map (blocking_on_list m k (match_after m old sent)) (left_programs m (move_of m old sent))

-- all who are looked at after a move
abbrev looked_at : Market → ℕ → Places → Agent → Placement → List Agent
looked_at m k old g sent = rechecked m k g sent (move_of m old sent)

-- the agent of an applicant of a left program's list is looked at if it has entered and blocks
in_reopened : (m : Market) (k : ℕ) (old : Places) (sent : Placement) (p a : ℕ) → is_left m (move_of m old sent) p ≡ true
    → has (program_of m p).ranking a ≡ true → has_entered k (agent_of m a) ≡ true → blocks m (match_after m old sent) (agent_of m a) ≡ true
    → In (agent_of m a) (reopened m k old sent)
in_reopened m k old sent p a left listed entered blocking =
    in_joined (blocking_on_list m k (match_after m old sent)) p (agent_of m a) (left_programs m (move_of m old sent))
    (in_kept (is_left m (move_of m old sent)) p (below (length m.programs))
    (in_below p (length m.programs) (listing_program m p a listed)) left)
    (in_kept (λ g. has_entered k g && blocks m (match_after m old sent) g) (agent_of m a) (map (agent_of m) (program_of m p).ranking)
    (in_image (agent_of m) a (program_of m p).ranking (has_in a (program_of m p).ranking listed)) (and_from _ _ entered blocking))

-- What holds of the displaced applicants' agents, of the agent that moved, and of the entered agents on the
-- programs' lists, holds of each agent that is looked at.
all_looked_at : (P : Agent → Type 0) (m : Market) (k : ℕ) (old : Places) (g : Agent) (sent : Placement)
    → ((z : ℕ) → In z (displaced m (send sent old) sent) → P (agent_of m z)) → P g
    → ((p a : ℕ) → has (program_of m p).ranking a ≡ true → has_entered k (agent_of m a) ≡ true → P (agent_of m a))
    → (h : Agent) → In h (looked_at m k old g sent) → P h
all_looked_at P m k old g sent of_gone of_mover of_listed h i = elim (in_either h (displaced_agents m old sent ++ mover_again m old g sent) (reopened m k old sent) i) [
  | inl j ↦ elim (in_either h (displaced_agents m old sent) (mover_again m old g sent) j) [
    | inl out ↦ let z = of_image (agent_of m) h (displaced m (send sent old) sent) out in subst P z.2 (of_gone z.0 z.1)
    | inr again ↦ elim (cases_Bool (blocks m (match_after m old sent) g)) [ inl t ↦ mover (rw t at again) | inr t ↦ absurd (rw t at again) ]
  ]
  | inr j ↦
      let p = of_joined (blocking_on_list m k (match_after m old sent)) h (left_programs m (move_of m old sent)) j in
      let kept = of_kept (λ x. has_entered k x && blocks m (match_after m old sent) x) h (map (agent_of m) (program_of m p.0).ranking) p.2 in
      let a = of_image (agent_of m) h (program_of m p.0).ranking kept.0 in
      let entered = (and_parts (has_entered k h) (blocks m (match_after m old sent) h) kept.1).0 in
      subst P a.2 (of_listed p.0 a.0 (in_has a.0 (program_of m p.0).ranking a.1) (ap (has_entered k) a.2 ∙ entered))
]
  where
    mover : In h (g ∷ []) → P h
    mover (inl e) = subst P e of_mover
    mover (inr none) = absurd none

-- An agent has a better option that would be taken, and a member is sent to a program that was opened.
pub record IsOpened (m : Market) (places : Places) (opened : ℕ → Bool) (h : Agent) : Type 0 where
  pub option : Placement
  pub is_better : In option (better m places h)
  pub taken : would_be_taken m places option ≡ true
  pub member : ℕ
  pub program : ℕ
  pub sends : In (member, Some program) option
  pub at_opened : opened program ≡ true

module _ {m : Market} {old : Places} {g : Agent} {sent : Placement} (mv : IsMove m old g sent) where
  -- who is looked at is an agent of the market
  looked_at_agent : (k : ℕ) (h : Agent) → In h (looked_at m k old g sent) → IsAgent m h
  looked_at_agent k = all_looked_at (IsAgent m) m k old g sent (displaced_agent mv) mv.agent
      (λ p a listed entered. agent_of_applicant m mv.well_formed a (mv.well_formed.rankings_within p a listed))

  -- An agent that did not block, and neither moved nor was displaced, blocks only by a better option that names
  -- a program which was left.
  pub opened_by_left : (h : Agent) → IsAgent m h → is_displaced m old sent h ≡ false → is_same_agent h g ≡ false
      → blocks m old h ≡ false → blocks m (match_after m old sent) h ≡ true → IsOpened m (match_after m old sent) (is_left m (move_of m old sent)) h
  opened_by_left h of_h stays other quiet blocking = by_option (found (would_be_taken m (match_after m old sent)) (better m (match_after m old sent) h) blocking)
    where
      -- a member whom its program chooses only now
      by_member : (o : Placement) → In o (better m (match_after m old sent) h) → would_be_taken m (match_after m old sent) o ≡ true → In o (options m h)
          → (b : ℕ) (v : Option ℕ) → In (b, v) o → is_chosen m (send o old) b v ≡ false → IsOpened m (match_after m old sent) (is_left m (move_of m old sent)) h
      by_member o is_better taken i b None sends refused = absurd (false≢true (sym refused))
      by_member o is_better taken i b (Some p) sends refused = record {
        option = o;
        is_better = is_better;
        taken = taken;
        member = b;
        program = p;
        sends = sends;
        at_opened = true_from_ne_false _ (λ kept.
            both_ways (is_chosen m (send o old) b (Some p)) refused (taken_before mv h of_h stays other o i b p sends kept (each _ (b, Some p) o taken sends)));
      }

      by_option : ((o : Placement) × In o (better m (match_after m old sent) h) × (would_be_taken m (match_after m old sent) o ≡ true))
          → IsOpened m (match_after m old sent) (is_left m (move_of m old sent)) h
      by_option o =
          let was_better : In o.0 (better m old h) = subst (λ xs. In o.0 xs) (same_better m (match_after m old sent) old h (untouched mv h of_h stays other)) o.1 in
          let not_before : would_be_taken m old o.0 ≡ false = false_from_ne_true (would_be_taken m old o.0) (λ t.
          both_ways (blocks m old h) quiet (finds (would_be_taken m old) o.0 (better m old h) was_better t)) in
          let s = fails_at _ o.0 not_before in
          by_member o.0 o.1 o.2 (of_until (holds old) o.0 (options m h) was_better) s.0.0 s.0.1 s.1 s.2

  -- An agent that did not block, neither moved nor was displaced, and isn't looked at again, does not block.
  stays_quiet : (k : ℕ) (h : Agent) → IsAgent m h → is_displaced m old sent h ≡ false → is_same_agent h g ≡ false → has_entered k h ≡ true
      → (In h (reopened m k old sent) → ⊥) → blocks m old h ≡ false → blocks m (match_after m old sent) h ≡ false
  stays_quiet k h of_h stays other entered unseen quiet =
      false_from_ne_true (blocks m (match_after m old sent) h) (λ blocking.
      let by = opened_by_left h of_h stays other quiet blocking in
      let o = by.option in
      let b = by.member in
      let i = of_until (holds (match_after m old sent)) o (options m h) by.is_better in
      let listed = (choice_facts (program_of m by.program) (at (send o (match_after m old sent)) by.program) b (each _ (b, Some by.program) o by.taken by.sends)).is_listed in
      let is : agent_of m b ≡ h = of_h.belongs b (option_member m h o i b (Some by.program) by.sends) in
      unseen (subst (λ x. In x (reopened m k old sent)) is
      (in_reopened m k old sent by.program b by.at_opened listed (ap (has_entered k) is ∙ entered) (ap (blocks m (match_after m old sent)) is ∙ blocking))))

  -- If no entered agent blocked that was not on the list, none does that is on it neither before nor now.
  pub quiet_after : (k : ℕ) (ws : List Agent)
      → ((h : Agent) → is_on (agents m) h ≡ true → has_entered k h ≡ true → is_on (g ∷ ws) h ≡ false → blocks m old h ≡ false)
      → (h : Agent) → IsAgent m h → has_entered k h ≡ true → is_on ws h ≡ false → (In h (looked_at m k old g sent) → ⊥)
      → blocks m (match_after m old sent) h ≡ false
  quiet_after k ws none_blocks h of_h entered off unseen =
      elim (cases_Bool (is_same_agent h g)) [
        | inl same ↦ false_from_ne_true (blocks m (match_after m old sent) h) (λ blocking. of_front (inr (mover_seen same blocking)))
        | inr other ↦
            let stays : is_displaced m old sent h ≡ false =
            false_from_ne_true (is_displaced m old sent h) (λ out. of_front (inl (of_list h (displaced_agents m old sent) out))) in
            let before = none_blocks h (on_list h (agents m) (agent_on_list m h of_h)) entered (or_from (is_same_agent h g) (is_on ws h) other off) in
            stays_quiet k h of_h stays other entered
            (λ i. unseen (in_right h (displaced_agents m old sent ++ mover_again m old g sent) (reopened m k old sent) i)) before
      ]
    where
      of_front : In h (displaced_agents m old sent) ⊎ In h (mover_again m old g sent) → ⊥
      of_front i = unseen (in_left h (displaced_agents m old sent ++ mover_again m old g sent) (reopened m k old sent) (elim i [
        | inl out ↦ in_left h (displaced_agents m old sent) (mover_again m old g sent) out
        | inr again ↦ in_right h (displaced_agents m old sent) (mover_again m old g sent) again
      ]))

      mover_seen : is_same_agent h g ≡ true → blocks m (match_after m old sent) h ≡ true → In h (mover_again m old g sent)
      mover_seen same blocking =
          let is = same_agent h g same in
          let again : blocks m (match_after m old sent) g ≡ true = subst (λ x. blocks m (match_after m old sent) x ≡ true) is blocking in
          rw again (inl (sym is))

-- The state after a move.
module _ (m : Market) (k : ℕ) (old : Places) (g : Agent) (sent : Placement) (ws : List Agent) (mv : IsMove m old g sent)
    (g_entered : has_entered k g ≡ true) (state : IsRoundState m k (record { places = old; waiting = g ∷ ws })) where
  -- a displaced applicant's agent has entered, since nobody else was placed
  displaced_entered : (z : ℕ) → In z (displaced m (send sent old) sent) → has_entered k (agent_of m z) ≡ true
  displaced_entered z i =
      let p = of_displaced m (send sent old) sent z i in
      let of_z = displaced_agent mv z i in
      let member = member_of_agent m z in
      true_from_ne_false (has_entered k (agent_of m z)) (λ out.
      let on = on_list (agent_of m z) (agents m) (agent_on_list m (agent_of m z) of_z) in
      let before = is_unplaced old (members m (agent_of m z)) z (state.outside_unplaced (agent_of m z) on out) member in
      let unmoved = option_elsewhere m g sent mv.option old z (apart mv.agent of_z (not_mover k g (agent_of m z) g_entered out) z member) in
      both_ways (at (send sent old) p.0 z) (at_none (send sent old) p.0 z (unmoved ∙ before)) (displaced_parts m (send sent old) p.0 z p.2).0)

  -- who is looked at has entered
  looked_at_entered : (h : Agent) → In h (looked_at m k old g sent) → has_entered k h ≡ true
  looked_at_entered = all_looked_at (λ h. has_entered k h ≡ true) m k old g sent displaced_entered g_entered (λ p a listed entered. entered)

  -- a couple that has not entered stays unplaced
  outside_after : (h : Agent) → IsAgent m h → has_entered k h ≡ false → none_placed (match_after m old sent) (members m h) ≡ true
  outside_after h of_h out =
      let before = state.outside_unplaced h (on_list h (agents m) (agent_on_list m h of_h)) out in
      are_unplaced (match_after m old sent) (members m h) (λ a member. elim (cases_Bool (is_displaced m old sent h)) [
        | inl gone ↦ goes_out m old sent h gone a member
        | inr stays ↦ untouched mv h of_h stays (not_mover k g h g_entered out) a member ∙ is_unplaced old (members m h) a before member
      ])

  keep_move : IsRoundState m k (after_taking m k old g ws (Some sent))
  keep_move = record {
    fitting = fits_from m mv.well_formed (match_after m old sent) (fits_after mv);
    waiting_entered = λ h on. elim (or_cases (is_on ws h) (is_on (looked_at m k old g sent) h) (sym (on_all_joined ws (looked_at m k old g sent) h) ∙ on)) [
      | inl before ↦ state.waiting_entered h (or_right (is_same_agent h g) (is_on ws h) before)
      | inr now ↦
          let i = of_list h (looked_at m k old g sent) now in
          (on_list h (agents m) (agent_on_list m h (looked_at_agent mv k h i)), looked_at_entered h i)
    ];
    outside_unplaced = λ h on out. outside_after h (agent_from_list m mv.well_formed h (of_list h (agents m) on)) out;
    none_blocks = λ h on entered off.
        let parts = or_parts (is_on ws h) (is_on (looked_at m k old g sent) h) (sym (on_all_joined ws (looked_at m k old g sent) h) ∙ off) in
        quiet_after mv k ws state.none_blocks h (agent_from_list m mv.well_formed h (of_list h (agents m) on)) entered parts.0
        (λ i. both_ways (is_on (looked_at m k old g sent) h) parts.1 (on_list h (looked_at m k old g sent) i));
  }

-- an agent that has nothing better that would be taken is off the list
keep_looked : (m : Market) (k : ℕ) (places : Places) (g : Agent) (ws : List Agent) → blocks m places g ≡ false
    → IsRoundState m k (record { places = places; waiting = g ∷ ws }) → IsRoundState m k (record { places = places; waiting = ws })
keep_looked m k places g ws quiet state = record {
  fitting = state.fitting;
  waiting_entered = λ h on. state.waiting_entered h (or_right (is_same_agent h g) (is_on ws h) on);
  outside_unplaced = state.outside_unplaced;
  none_blocks = λ h on entered off. elim (cases_Bool (is_same_agent h g)) [
    | inl same ↦ ap (blocks m places) (same_agent h g same) ∙ quiet
    | inr other ↦ state.none_blocks h on entered (or_from (is_same_agent h g) (is_on ws h) other off)
  ];
}

-- the agent at the front of the list moves to the option that it takes
pub move_from : (m : Market) → IsWellFormed m → (places : Places) (g : Agent) → fits m places ≡ true → is_on (agents m) g ≡ true
    → (sent : Placement) → first_taken m places g ≡ Some sent → IsMove m places g sent
move_from m wf places g fit on sent e =
    let w = found_first (would_be_taken m places) sent (better m places g) e in
    record {
      well_formed = wf;
      fitting = fitting_facts m wf places fit;
      agent = agent_from_list m wf g (of_list g (agents m) on);
      option = of_until (holds places) sent (options m g) w.0;
      taken = w.1;
    }

-- a round of a match and a work list
keep_round_of : (m : Market) → IsWellFormed m → (k : ℕ) (places : Places) (waiting : List Agent)
    → IsRoundState m k (record { places = places; waiting = waiting }) → IsRoundState m k (round_of m k places waiting)
keep_round_of m wf k places [] state = state
keep_round_of m wf k places (g ∷ ws) state = by_choice (first_taken m places g) refl
  where
    front : IsTrue (is_on (agents m) g) × IsTrue (has_entered k g)
    front = state.waiting_entered g (or_left (is_same_agent g g) (is_on ws g) (is_same_agent_refl g))

    by_choice : (o : Option Placement) → first_taken m places g ≡ o → IsRoundState m k (after_taking m k places g ws o)
    by_choice None e = keep_looked m k places g ws (found_none (would_be_taken m places) (better m places g) e) state
    by_choice (Some sent) e = keep_move m k places g sent ws (move_from m wf places g state.fitting front.0 sent e) front.1 state

-- a round keeps its state
pub keep_round : RoundKeeps
keep_round m wf k w state = keep_round_of m wf k w.places w.waiting state

-- The same for what holds from any match that fits.
fitting_round_of : (m : Market) → IsWellFormed m → (k : ℕ) (places : Places) (waiting : List Agent)
    → IsFittingState m (record { places = places; waiting = waiting }) → IsFittingState m (round_of m k places waiting)
fitting_round_of m wf k places [] state = state
fitting_round_of m wf k places (g ∷ ws) state = by_choice (first_taken m places g) refl
  where
    rest : (h : Agent) → is_on ws h ≡ true → is_on (agents m) h ≡ true
    rest h on = state.waiting_agents h (or_right (is_same_agent h g) (is_on ws h) on)

    front : is_on (agents m) g ≡ true
    front = state.waiting_agents g (or_left (is_same_agent g g) (is_on ws g) (is_same_agent_refl g))

    after : (sent : Placement) → IsMove m places g sent → IsFittingState m (after_taking m k places g ws (Some sent))
    after sent mv = record {
      fitting = fits_from m wf (match_after m places sent) (fits_after mv);
      waiting_agents = λ h on. elim (or_cases (is_on ws h) (is_on (looked_at m k places g sent) h) (sym (on_all_joined ws (looked_at m k places g sent) h) ∙ on)) [
        | inl before ↦ rest h before
        | inr now ↦ on_list h (agents m) (agent_on_list m h (looked_at_agent mv k h (of_list h (looked_at m k places g sent) now)))
      ];
    }

    by_choice : (o : Option Placement) → first_taken m places g ≡ o → IsFittingState m (after_taking m k places g ws o)
    by_choice None e = record { fitting = state.fitting; waiting_agents = rest }
    by_choice (Some sent) e = after sent (move_from m wf places g state.fitting front sent e)

-- a round keeps a match that fits
pub fitting_round : RoundFits
fitting_round m wf k w state = fitting_round_of m wf k w.places w.waiting state
