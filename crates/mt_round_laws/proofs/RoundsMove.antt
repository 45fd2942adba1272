-- What a round does to the match: an agent takes an option that would be taken, and each agent that it displaces goes.
use Rattle.std.proofs.Common.{◌≡◌, ℕ, ◌≤◌, Bool, true, false, not, List, [], ◌∷◌, map, filter, Option, Some, None, ◌⊎◌, inl, inr, refl, ap, sym, ◌∙◌, arith, subst, flat_map}
use Rattle.std.specs.List.{list_any}
use Rattle.std.proofs.lemmas.Bool.{cases_Bool, and_parts, and_from, or_left, or_right, true_from_ne_false, false_from_ne_true, not-true, not_from_false, both_ways}
use Rattle.mt_terms.specs.Lists.{has, count}
use Rattle.mt_terms.specs.Market.{Market, program_of, agent_of, members}
use Rattle.mt_terms.specs.Matching.{Places, Placement, place_of, is_program, at, options, send, holds, none_placed}
use Rattle.mt_terms.specs.Choice.{choice}
use Rattle.mt_terms.specs.Stability.{has_own_option, would_be_taken}
use Rattle.mt_terms.specs.WellFormed.{IsWellFormed}
use Rattle.mt_terms.specs.Rounds.{is_same_agent, programs_sent_to, displaced_at, displaced, move_of}
use Rattle.mt_terms.specs.declared.numbers.Agent.{Agent}
use Rattle.mt_round_laws.proofs.RoundsLists.{In, finds, in_has, has_in, in_image, of_image, in_kept, of_kept, in_joined, of_joined, each, all_pass}
use Rattle.mt_round_laws.proofs.RoundsSets.{count_within}
use Rattle.mt_stability_laws.proofs.FloorChoices.{count-choice}
use Rattle.mt_stability_laws.proofs.ChoiceLemmas.{choice_facts}
use Rattle.mt_round_laws.proofs.RoundsPlaces.{is_program_some, at_none, length-send, length-unplaced, unplaced_there, unplaced_elsewhere, is_same_place_refl}
use Rattle.mt_round_laws.proofs.RoundsAgents.{IsAgent, on_list, of_list, agent_of_applicant, member_of_agent, option_entry, option_member, option_there, option_elsewhere, apart}
use Rattle.mt_round_laws.proofs.RoundsFits.{IsFitting, same_own_option}
use Rattle.mt_terms.proofs.AgentFacts.{same_agent}

-- the programs that a placement sends somebody to
sent_to : (sent : Placement) (a p : ℕ) → In (a, Some p) sent → In p (programs_sent_to sent)
sent_to [] a p i = absurd i
sent_to (s ∷ sent) a p (inl e) = let is : s.1 ≡ Some p = ap (λ t. t.1) e in rw is (inl refl)
sent_to (s ∷ sent) a p (inr i) = elim (none_or_some s.1) [
  | inl none ↦ rw none (sent_to sent a p i)
  | inr some ↦ rw some.1 (inr (sent_to sent a p i))
]
  where
    none_or_some : (v : Option ℕ) → (v ≡ None) ⊎ ((q : ℕ) × (v ≡ Some q))
    none_or_some None = inl refl
    none_or_some (Some q) = inr (q, refl)

-- who is displaced, and where
pub of_displaced : (m : Market) (seated : Places) (sent : Placement) (a : ℕ) → In a (displaced m seated sent)
    → (p : ℕ) × In p (programs_sent_to sent) × (displaced_at m seated p a ≡ true) × (has (program_of m p).ranking a ≡ true)
of_displaced m seated sent a i =
    let p = of_joined (λ p. filter (displaced_at m seated p) (program_of m p).ranking) a (programs_sent_to sent) i in
    let kept = of_kept (displaced_at m seated p.0) a (program_of m p.0).ranking p.2 in
    (p.0, p.1, kept.1, in_has a (program_of m p.0).ranking kept.0)

-- who is displaced at a program that somebody is sent to is among the displaced
in_displaced : (m : Market) (seated : Places) (sent : Placement) (a p : ℕ) → In p (programs_sent_to sent) → displaced_at m seated p a ≡ true
    → has (program_of m p).ranking a ≡ true → In a (displaced m seated sent)
in_displaced m seated sent a p i displaced_here listed =
    in_joined (λ p. filter (displaced_at m seated p) (program_of m p).ranking) p a (programs_sent_to sent) i
    (in_kept (displaced_at m seated p) a (program_of m p).ranking (has_in a (program_of m p).ranking listed) displaced_here)

-- who is displaced at a program was sent or stayed there, and isn't chosen
pub displaced_parts : (m : Market) (seated : Places) (p a : ℕ) → displaced_at m seated p a ≡ true
    → (at seated p a ≡ true) × (choice (program_of m p) (at seated p) a ≡ false)
displaced_parts m seated p a h =
    let parts = and_parts (at seated p a) (not (choice (program_of m p) (at seated p) a)) h in
    (parts.0, not-true (choice (program_of m p) (at seated p) a) parts.1)

-- An agent moves to an option of its list that would be taken, in a match that fits.
pub record IsMove (m : Market) (old : Places) (g : Agent) (sent : Placement) : Type 0 where
  pub well_formed : IsWellFormed m
  pub fitting : IsFitting m old
  pub agent : IsAgent m g
  pub option : In sent (options m g)
  pub taken : would_be_taken m old sent ≡ true

-- the displaced applicants' agents
abbrev pub displaced_agents : Market → Places → Placement → List Agent
displaced_agents m old sent = map (agent_of m) (displaced m (send sent old) sent)

-- all members of those agents, who are taken out
abbrev taken_out : Market → Places → Placement → List ℕ
taken_out m old sent = flat_map (λ a. members m (agent_of m a)) (displaced m (send sent old) sent)

-- the match with everybody sent and those taken out
abbrev pub match_after : Market → Places → Placement → Places
match_after m old sent = (move_of m old sent).after

-- whether an agent has a displaced member
abbrev pub is_displaced : Market → Places → Placement → Agent → Bool
is_displaced m old sent h = list_any (is_same_agent h) (displaced_agents m old sent)

-- the member is taken out, of an agent with a displaced member
displaced_goes : (m : Market) (old : Places) (sent : Placement) (z a : ℕ) → In z (displaced m (send sent old) sent)
    → has (members m (agent_of m z)) a ≡ true → has (taken_out m old sent) a ≡ true
displaced_goes m old sent z a i member =
    let out = in_joined (λ b. members m (agent_of m b)) z a (displaced m (send sent old) sent) i (has_in a (members m (agent_of m z)) member) in
    in_has a (taken_out m old sent) out

-- an agent with a displaced member is unplaced as a whole
pub goes_out : (m : Market) (old : Places) (sent : Placement) (h : Agent) → is_displaced m old sent h ≡ true
    → (a : ℕ) → has (members m h) a ≡ true → place_of (match_after m old sent) a ≡ None
goes_out m old sent h out a member =
    let z = of_image (agent_of m) h (displaced m (send sent old) sent) (of_list h (displaced_agents m old sent) out) in
    unplaced_there (taken_out m old sent) (send sent old) a (displaced_goes m old sent z.0 a z.1 (subst (λ x. has (members m x) a ≡ true) (sym z.2) member))

-- who is placed after the move was there once everybody was sent, and isn't taken out
was_there : (m : Market) (old : Places) (sent : Placement) (a p : ℕ) → at (match_after m old sent) p a ≡ true
    → (at (send sent old) p a ≡ true) × (has (taken_out m old sent) a ≡ false)
was_there m old sent a p here = elim (cases_Bool (has (taken_out m old sent) a)) [
  | inl out ↦
      let none = at_none (match_after m old sent) p a (unplaced_there (taken_out m old sent) (send sent old) a out) in
      absurd (both_ways (at (match_after m old sent) p a) none here)
  | inr stays ↦ (ap (is_program p) (sym (unplaced_elsewhere (taken_out m old sent) (send sent old) a stays)) ∙ here, stays)
]

-- who is placed after the move at a program that somebody was sent to is chosen there
chosen_after : (m : Market) (old : Places) (sent : Placement) (a p : ℕ) → In p (programs_sent_to sent) → has (program_of m p).ranking a ≡ true
    → at (match_after m old sent) p a ≡ true → choice (program_of m p) (at (send sent old) p) a ≡ true
chosen_after m old sent a p i listed here =
    let was = was_there m old sent a p here in
    true_from_ne_false (choice (program_of m p) (at (send sent old) p) a) (λ refused.
    let out = in_displaced m (send sent old) sent a p i (and_from (at (send sent old) p a) _ was.0 (not_from_false _ refused)) listed in
    both_ways (has (taken_out m old sent) a) was.1 (displaced_goes m old sent a a out (member_of_agent m a)))

module _ {m : Market} {old : Places} {g : Agent} {sent : Placement} (mv : IsMove m old g sent) where
  -- a displaced applicant's agent is one of the market
  pub displaced_agent : (z : ℕ) → In z (displaced m (send sent old) sent) → IsAgent m (agent_of m z)
  displaced_agent z i =
      let p = of_displaced m (send sent old) sent z i in
      agent_of_applicant m mv.well_formed z (mv.well_formed.rankings_within p.0 z p.3)

  -- a member of the agent that moves is chosen where it is
  chosen_there : (a p : ℕ) → has (members m g) a ≡ true → at (send sent old) p a ≡ true
      → In p (programs_sent_to sent) × (choice (program_of m p) (at (send sent old) p) a ≡ true)
  chosen_there a p member here =
      let entry = option_entry m g sent mv.option a member in
      let there = option_there mv.agent sent mv.option old mv.fitting.one_each a entry.0 entry.1 in
      let is : entry.0 ≡ Some p = sym there ∙ is_program_some p (place_of (send sent old) a) here in
      let sends : In (a, Some p) sent = subst (λ v. In (a, v) sent) is entry.1 in
      (sent_to sent a p sends, each _ (a, Some p) sent mv.taken sends)

  -- the agent that moves is not displaced
  pub mover_stays : is_displaced m old sent g ≡ false
  mover_stays = false_from_ne_true (is_displaced m old sent g) (λ out.
      let z = of_image (agent_of m) g (displaced m (send sent old) sent) (of_list g (displaced_agents m old sent) out) in
      let p = of_displaced m (send sent old) sent z.0 z.1 in
      let parts = displaced_parts m (send sent old) p.0 z.0 p.2 in
      let member : has (members m g) z.0 ≡ true = subst (λ h. has (members m h) z.0 ≡ true) z.2 (member_of_agent m z.0) in
      both_ways (choice (program_of m p.0) (at (send sent old) p.0) z.0) parts.1 (chosen_there z.0 p.0 member parts.0).1)

  -- an agent that isn't displaced is not taken out
  pub stays_in : (h : Agent) → IsAgent m h → is_displaced m old sent h ≡ false
      → (a : ℕ) → has (members m h) a ≡ true → place_of (match_after m old sent) a ≡ place_of (send sent old) a
  stays_in h of_h stays a member =
      unplaced_elsewhere (taken_out m old sent) (send sent old) a (false_from_ne_true (has (taken_out m old sent) a) (λ out.
      let z = of_joined (λ b. members m (agent_of m b)) a (displaced m (send sent old) sent) (has_in a (taken_out m old sent) out) in
      let is : agent_of m z.0 ≡ h = sym ((displaced_agent z.0 z.1).belongs a (in_has a (members m (agent_of m z.0)) z.2)) ∙ of_h.belongs a member in
      let its : In h (displaced_agents m old sent) =
      subst (λ x. In x (displaced_agents m old sent)) is (in_image (agent_of m) z.0 (displaced m (send sent old) sent) z.1) in
      both_ways (is_displaced m old sent h) stays (on_list h (displaced_agents m old sent) its)))

  -- an agent that neither moved nor was displaced is where it was
  pub untouched : (h : Agent) → IsAgent m h → is_displaced m old sent h ≡ false → is_same_agent h g ≡ false
      → (a : ℕ) → has (members m h) a ≡ true → place_of (match_after m old sent) a ≡ place_of old a
  untouched h of_h stays other a member = stays_in h of_h stays a member ∙ option_elsewhere m g sent mv.option old a (apart mv.agent of_h other a member)

  -- the agent that moved has its option
  mover_has : list_any (holds (match_after m old sent)) (options m g) ≡ true
  mover_has = finds (holds (match_after m old sent)) sent (options m g) mv.option (all_pass _ sent (λ s i.
      let member = option_member m g sent mv.option s.0 s.1 i in
      let there = stays_in g mv.agent mover_stays s.0 member ∙ option_there mv.agent sent mv.option old mv.fitting.one_each s.0 s.1 i in
      rw there (is_same_place_refl s.1)))

  -- each agent has an option of its list or nothing after the move
  own_after : (h : Agent) → IsAgent m h → has_own_option m (match_after m old sent) h ≡ true
  own_after h of_h = elim (cases_Bool (is_displaced m old sent h)) [
    | inl out ↦
        let none = all_pass _ (members m h) (λ a i. rw (goes_out m old sent h out a (in_has a (members m h) i)) refl) in
        or_right (list_any (holds (match_after m old sent)) (options m h)) (none_placed (match_after m old sent) (members m h)) none
    | inr stays ↦ elim (cases_Bool (is_same_agent h g)) [
      | inl same ↦
          let has_it = subst (λ x. list_any (holds (match_after m old sent)) (options m x) ≡ true) (sym (same_agent h g same)) mover_has in
          or_left (list_any (holds (match_after m old sent)) (options m h)) (none_placed (match_after m old sent) (members m h)) has_it
      | inr other ↦ same_own_option m (match_after m old sent) old h (untouched h of_h stays other) ∙ mv.fitting.own h of_h
    ]
  ]

  -- who isn't a member of the agent that moves was there before
  pub was_before : (a p : ℕ) → has (members m g) a ≡ false → at (send sent old) p a ≡ true → at old p a ≡ true
  was_before a p other here = ap (is_program p) (sym (option_elsewhere m g sent mv.option old a other)) ∙ here

  -- each placed applicant is on its program's list after the move
  listed_after : (a p : ℕ) → at (match_after m old sent) p a ≡ true → has (program_of m p).ranking a ≡ true
  listed_after a p here =
      let there = (was_there m old sent a p here).0 in
      elim (cases_Bool (has (members m g) a)) [
        | inl member ↦ (choice_facts (program_of m p) (at (send sent old) p) a (chosen_there a p member there).1).is_listed
        | inr other ↦ mv.fitting.listed a p (was_before a p other there)
      ]

  -- no program has more than its quota after the move
  few_after : (p : ℕ) → count (at (match_after m old sent) p) (program_of m p).ranking ≤ (program_of m p).quota
  few_after p = elim (cases_Bool (has (programs_sent_to sent) p)) [
    | inl i ↦
        let chosen = λ (a : ℕ) (listed : has (program_of m p).ranking a ≡ true) (here : at (match_after m old sent) p a ≡ true).
        chosen_after m old sent a p (has_in p (programs_sent_to sent) i) listed here in
        let fewer = count_within (at (match_after m old sent) p) (choice (program_of m p) (at (send sent old) p)) (program_of m p).ranking chosen in
        let few = count-choice (program_of m p) (at (send sent old) p) (mv.well_formed.rankings_distinct p) in
        omega arith
    | inr unsent ↦
        let fewer = count_within (at (match_after m old sent) p) (at old p) (program_of m p).ranking
        (λ a listed here. unmoved unsent a (was_there m old sent a p here).0) in
        let few = mv.fitting.within p in
        omega arith
  ]
    where
      unmoved : has (programs_sent_to sent) p ≡ false → (a : ℕ) → at (send sent old) p a ≡ true → at old p a ≡ true
      unmoved unsent a here = elim (cases_Bool (has (members m g) a)) [
        | inl member ↦ absurd (both_ways (has (programs_sent_to sent) p) unsent (in_has p (programs_sent_to sent) (chosen_there a p member here).0))
        | inr other ↦ was_before a p other here
      ]

  -- the match after the move fits
  pub fits_after : IsFitting m (match_after m old sent)
  fits_after = record {
    one_each = length-unplaced (taken_out m old sent) (send sent old) ∙ length-send sent old ∙ mv.fitting.one_each;
    own = own_after;
    listed = listed_after;
    within = few_after;
  }
