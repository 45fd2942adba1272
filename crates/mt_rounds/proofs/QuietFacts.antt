-- Who blocks between two rounds, and at which program that was opened.
use Rattle.std.proofs.Common.{◌≡◌, ℕ, ◌+◌, ◌<◌, Bool, true, false, not, ◌&&◌, ◌||◌, ◌==◌, nat_lt, List, [], ◌∷◌, ◌++◌, map, filter, length, Option, Some, None, refl, ap, sym, ◌∙◌, inl, inr, arith, subst, flat_map, if◌then◌else◌}
use Rattle.std.proofs.lemmas.Bool.{cases_Bool, and_parts, and_from, or_parts, or_from, or_left, both_ways, not-true, not_from_false}
use Rattle.std.proofs.lemmas.Bool.Decides.{nat_tests}
use Rattle.mt_terms.specs.Lists.{has, below}
use Rattle.mt_terms.specs.Market.{Market, applicants, agent_of, agents}
use Rattle.mt_terms.specs.Matching.{Places, Placement, send, better}
use Rattle.mt_terms.specs.Stability.{would_be_taken, fits, blocks}
use Rattle.mt_terms.specs.WellFormed.{IsWellFormed}
use Rattle.mt_terms.specs.Rounds.{is_same_agent, is_on, Work, has_entered, joined, all_joined, first_taken, move_of, displaced, is_left, left_programs, blocking_on_list, rechecked, after_taking, round_of}
use Rattle.mt_terms.specs.declared.numbers.Agent.{Agent}
use Rattle.mt_terms.specs.declared.numbers.Agent.TheVariants.{Single, Couple}
use Rattle.mt_round_laws.proofs.RoundsLists.{found, finds, each, in_has, in_kept, in_below}
use Rattle.mt_round_laws.proofs.RoundsAgents.{same_agent, on_list, of_list, agent_from_list, agent_of_applicant, agent_on_list}
use Rattle.mt_round_laws.proofs.RoundsSets.{has_head}
use Rattle.mt_round_laws.proofs.RoundsMove.{match_after}
use Rattle.mt_round_laws.proofs.RoundsKeep.{IsOpened, found_none, move_from, on_joined, on_all_joined, opened_by_left, quiet_after}
use Rattle.mt_stage_tables.specs.Waiting.{with_agents, Waiting}
use Rattle.mt_assignment.specs.Assigned.{Assigned}
use Rattle.mt_assignment.specs.Moves.{names_one_of, opens, some_has, IsTaking}
use Rattle.mt_rounds.specs.Running.{entered_before, work_of, IsQuiet, IsQuietBut}
use Rattle.mt_assignment.specs.Blocking.{is_quiet_single, is_reopened, singles_quiet}
use Rattle.mt_rounds.specs.Waiting.{Joins}
use Rattle.mt_rounds.proofs.JoinFacts.{all_joined-append, AreJoining, joining_more, joining_some}
use Rattle.mt_assignment.proofs.MoveFacts.{is_move, left_within}

-- the entered agents that block
abbrev pub blocking : ℕ → Assigned → Agent → Bool
blocking k s g = has_entered k g && blocks s.market s.places g

-- Agents are rechecked one after another, and one that isn't rechecked yet joins in the end if it blocks.
pub record IsLooking (k : ℕ) (s : Assigned) (ps : List ℕ) (start now : Waiting) (rest all : List Agent) : Type 0 where
  pub joining : AreJoining start now rest all
  pub quiet : IsQuietBut k s ps now.agents

-- who has a better option that is opened blocks
opens_blocks : (s : Assigned) (ps : List ℕ) (g : Agent) → opens s ps g ≡ true → blocks s.market s.places g ≡ true
opens_blocks s ps g h =
    let o = found (λ o. names_one_of ps o && would_be_taken s.market s.places o) (better s.market s.places g) h in
    finds (would_be_taken s.market s.places) o.0 (better s.market s.places g) o.1 (and_parts _ _ o.2).1

-- who waits already
joined_already : (ws : List Agent) (g : Agent) → is_on ws g ≡ true → joined ws g ≡ ws
joined_already ws g waits = rw waits refl

-- the agent of an applicant is one of the market's
pub is_agent : (m : Market) → IsWellFormed m → (a : ℕ) → a < applicants m → is_on (agents m) (agent_of m a) ≡ true
is_agent m wf a within = on_list (agent_of m a) (agents m) (agent_on_list m (agent_of m a) (agent_of_applicant m wf a within))

module _ (k : ℕ) (s : Assigned) (ps : List ℕ) where
  -- one is rechecked and joins
  pub looking_joins : (start now new : Waiting) (g : Agent) (rest all : List Agent) → IsLooking k s ps start now (filter (blocking k s) (g ∷ rest)) all
      → is_reopened k s ps now.agents g ≡ true → new ≡ with_agents now (joined now.agents g) → IsLooking k s ps start new (filter (blocking k s) rest) all
  looking_joins start now new g rest all looking reopened is =
      let parts = and_parts (has_entered k g && not (is_on now.agents g)) (opens s ps g) reopened in
      let blocks_now : blocking k s g ≡ true = and_from _ _ (and_parts (has_entered k g) _ parts.0).0 (opens_blocks s ps g parts.1) in
      let front : AreJoining start now (g ∷ filter (blocking k s) rest) all = rw blocks_now at looking.joining in
      record {
        joining = joining_more start now new g (filter (blocking k s) rest) all is front;
        quiet = λ h on entered off.
            let off' : (is_on now.agents h || is_same_agent h g) ≡ false = sym (ap (λ (w : Waiting). is_on w.agents h) is ∙ on_joined now.agents g h) ∙ off in
            looking.quiet h on entered (or_parts (is_on now.agents h) (is_same_agent h g) off').0;
      }

  -- one is rechecked and doesn't join
  pub looking_skips : (start now : Waiting) (g : Agent) (rest all : List Agent) → IsLooking k s ps start now (filter (blocking k s) (g ∷ rest)) all
      → is_on (agents s.market) g ≡ true → is_reopened k s ps now.agents g ≡ false → IsLooking k s ps start now (filter (blocking k s) rest) all
  looking_skips start now g rest all looking on skipped = elim (cases_Bool (blocking k s g)) [
    | inr quiet ↦ record { joining = (rw quiet at looking.joining); quiet = looking.quiet }
    | inl blocks_now ↦
        let parts = and_parts (has_entered k g) (blocks s.market s.places g) blocks_now in
        let front : AreJoining start now (g ∷ filter (blocking k s) rest) all = rw blocks_now at looking.joining in
        elim (cases_Bool (is_on now.agents g)) [
          | inl waits ↦ record {
            joining = ap (λ gs. with_agents now (all_joined gs (filter (blocking k s) rest))) (sym (joined_already now.agents g waits)) ∙ front;
            quiet = looking.quiet;
          }
          | inr off ↦ absurd (both_ways (is_reopened k s ps now.agents g) skipped
              (and_from _ _ (and_from _ _ parts.0 (not_from_false _ off)) (looking.quiet g on parts.0 off parts.1)))
        ]
  ]

  -- some were rechecked
  pub looking_some : (start now new : Waiting) (gs rest all : List Agent) → IsLooking k s ps start now (gs ++ rest) all → Joins now new gs
      → IsLooking k s ps start new rest all
  looking_some start now new gs rest all looking is = record {
    joining = joining_some start now new gs rest all is looking.joining;
    quiet = λ h on entered off.
        let off' : (is_on now.agents h || is_on gs h) ≡ false = sym (ap (λ (w : Waiting). is_on w.agents h) is ∙ on_all_joined now.agents gs h) ∙ off in
        looking.quiet h on entered (or_parts (is_on now.agents h) (is_on gs h) off').0;
  }

-- Below, an agent takes an option; after that, who has entered and neither waited nor joined blocks by an option
-- at a program that was left alone.
module _ {m : Market} {old : Places} {g : Agent} {sent : Placement} (taking : IsTaking m old g sent) where
  abbrev out : List Agent
  out = map (agent_of m) (displaced m (send sent old) sent)

  abbrev itself : List Agent
  itself = if blocks m (match_after m old sent) g then (g ∷ []) else []

  abbrev after : Assigned
  after = record { market = m; places = match_after m old sent }

  at_left : (h : Agent) (left : List ℕ) → left ≡ left_programs m (move_of m old sent) → IsOpened m (match_after m old sent) (is_left m (move_of m old sent)) h
      → opens after left h ≡ true
  at_left h left is by =
      let p = by.program in
      let on : has left p ≡ true = ap (λ ps. has ps p) is ∙ in_has p (left_programs m (move_of m old sent))
      (in_kept (is_left m (move_of m old sent)) p (below (length m.programs)) (in_below p (length m.programs) (left_within taking p by.at_opened)) by.at_opened) in
      finds (λ o. names_one_of left o && would_be_taken m (match_after m old sent) o) by.option (better m (match_after m old sent) h) by.is_better
      (and_from _ _ (finds (λ s. some_has left s.1) (by.member, Some p) by.option by.sends on) by.taken)

  pub quiet_but_left : (k : ℕ) (ws : List Agent) (left : List ℕ) → IsQuiet k (record { market = m; places = old }) (g ∷ ws) → left ≡ left_programs m (move_of m old sent)
      → IsQuietBut k after left (all_joined ws (out ++ itself))
  quiet_but_left k ws left quiet is h on entered off blocking_now =
      let off' : is_on (all_joined (all_joined ws out) itself) h ≡ false = sym (ap (λ gs. is_on gs h) (all_joined-append ws out itself)) ∙ off in
      let parts = or_parts (is_on (all_joined ws out) h) (is_on itself h) (sym (on_all_joined (all_joined ws out) itself h) ∙ off') in
      let others = or_parts (is_on ws h) (is_on out h) (sym (on_all_joined ws out h) ∙ parts.0) in
      elim (cases_Bool (is_same_agent h g)) [
        | inl same ↦
            let is_g = same_agent h g same in
            let again : blocks m (match_after m old sent) g ≡ true = subst (λ x. blocks m (match_after m old sent) x ≡ true) is_g blocking_now in
            let seen : is_on itself h ≡ true = rw again (or_left (is_same_agent h g) false same) in
            absurd (both_ways (is_on itself h) parts.1 seen)
        | inr other ↦
            at_left h left is (opened_by_left (is_move taking) h (agent_from_list m taking.well_formed h (of_list h (agents m) on)) others.1 other
            (quiet h on entered (or_from (is_same_agent h g) (is_on ws h) other others.0)) blocking_now)
      ]

  -- who waits, after the displaced and the agent itself have joined, and then those at the programs that were left
  pub waits_after : (k : ℕ) (w0 w1 w2 : Waiting) (left : List ℕ)
      → Joins w0 w1 (map (agent_of m) (displaced m (send sent old) sent) ++ (if blocks m (match_after m old sent) g then (g ∷ []) else []))
      → Joins w1 w2 (flat_map (blocking_on_list m k (match_after m old sent)) left)
      → left ≡ left_programs m (move_of m old sent)
      → Joins w0 w2 (rechecked m k g sent (move_of m old sent))
  waits_after k w0 w1 w2 left first second left_keys =
      let gone = map (agent_of m) (displaced m (send sent old) sent) ++ (if blocks m (match_after m old sent) g then (g ∷ []) else []) in
      let again = flat_map (blocking_on_list m k (match_after m old sent)) in
      let programs = left_programs m (move_of m old sent) in
      second ∙ ap (λ ps. with_agents w1 (all_joined w1.agents (again ps))) left_keys
      ∙ ap (λ (x : Waiting). with_agents x (all_joined x.agents (again programs))) first
      ∙ ap (with_agents w0) (sym (all_joined-append w0.agents gone (again programs)))

-- a round keeps it quiet
pub quiet_round : (m : Market) → IsWellFormed m → (k : ℕ) (places : Places) (g : Agent) (ws : List Agent) → fits m places ≡ true → is_on (agents m) g ≡ true
    → IsQuiet k (record { market = m; places = places }) (g ∷ ws) → (s : Assigned) (w : Waiting) → s.market ≡ m → work_of s w ≡ round_of m k places (g ∷ ws)
    → IsQuiet k s w.agents
quiet_round m wf k places g ws fit on_g quiet s w same is =
    subst (λ x. IsQuiet k (record { market = x; places = s.places }) w.agents) (sym same)
    (subst (λ (x : Work). IsQuiet k (record { market = m; places = x.places }) x.waiting) (sym is) (by_choice (first_taken m places g) refl))
  where
    by_choice : (o : Option Placement) → first_taken m places g ≡ o
        → IsQuiet k (record { market = m; places = (after_taking m k places g ws o).places }) (after_taking m k places g ws o).waiting
    by_choice None e = λ h on entered off. elim (cases_Bool (is_same_agent h g)) [
      | inl same ↦ ap (blocks m places) (same_agent h g same) ∙ found_none (would_be_taken m places) (better m places g) e
      | inr other ↦ quiet h on entered (or_from (is_same_agent h g) (is_on ws h) other off)
    ]
    by_choice (Some sent) e = λ h on entered off.
        let looked = rechecked m k g sent (move_of m places sent) in
        let parts = or_parts (is_on ws h) (is_on looked h) (sym (on_all_joined ws looked h) ∙ off) in
        quiet_after (move_from m wf places g fit on_g sent e) k ws quiet h (agent_from_list m wf h (of_list h (agents m) on)) entered parts.0
        (λ i. both_ways (is_on looked h) parts.1 (on_list h looked i))

-- who has entered once a couple has, and isn't that couple, has entered before it
pub before_it : (number : ℕ) (h : Agent) → has_entered number h ≡ true → is_on (Couple number ∷ []) h ≡ false → entered_before number h ≡ true
before_it number (Single a) entered off = refl
before_it number (Couple c) entered off = before (or_parts (c == number) false off).0
  where
    before : (c == number) ≡ false → nat_lt c number ≡ true
    before other = grind (arith, nat_tests, entered, other)

pub entered_by : (number : ℕ) (h : Agent) → entered_before (number + 1) h ≡ true → has_entered number h ≡ true
entered_by number (Single a) before = refl
entered_by number (Couple c) before = grind (arith, nat_tests, before)

-- if no single blocks, nobody does that has entered before the first couple
pub quiet_at_first : (m : Market) → IsWellFormed m → (places : Places) → singles_quiet (record { market = m; places = places }) ≡ true
    → (h : Agent) → is_on (agents m) h ≡ true → entered_before 0 h ≡ true → blocks m places h ≡ false
quiet_at_first m wf places all (Single a) on before =
    let of_a = agent_from_list m wf (Single a) (of_list (Single a) (agents m) on) in
    let own = has_head a [] in
    not-true _ (subst (λ g. is_quiet_single (record { market = m; places = places }) g ≡ true) (of_a.belongs a own)
    (each (λ b. is_quiet_single (record { market = m; places = places }) (agent_of m b)) a (below (applicants m)) all (in_below a (applicants m) (of_a.within a own))))
quiet_at_first m wf places all (Couple c) on before = absurd (grind (arith, nat_tests, before))
