-- Why an agent that was refused stays refused: at a program that nobody left there is no more room than before.
use Rattle.std.proofs.Common.{◌≡◌, ℕ, ◌≤◌, true, false, ◌==◌, length, Some, ◌⊎◌, inl, inr, refl, ap, sym, ◌∙◌, arith}
use Rattle.std.proofs.lemmas.Bool.{cases_Bool, true_from_ne_false, both_ways}
use Rattle.mt_terms.specs.Lists.{has, below, above, until}
use Rattle.mt_terms.specs.Market.{Market, applicants, program_of, members}
use Rattle.mt_terms.specs.Matching.{Places, Placement, is_program, at, options, send}
use Rattle.mt_terms.specs.Choice.{choice}
use Rattle.mt_terms.specs.Stability.{is_chosen}
use Rattle.mt_terms.specs.Rounds.{is_same_agent, Move, move_of, displaced_at, is_left}
use Rattle.mt_terms.specs.declared.numbers.Agent.{Agent}
use Rattle.mt_round_laws.proofs.RoundsLists.{In, finds, in_below}
use Rattle.mt_round_laws.proofs.RoundsSets.{no_fewer_above, count_shift}
use Rattle.mt_stability_laws.proofs.ChoiceLemmas.{choice_facts, choice_from_facts}
use Rattle.mt_round_laws.proofs.RoundsPlaces.{at_some}
use Rattle.mt_stability_laws.proofs.ExclusionLemmas.{lt_of_there}
use Rattle.mt_round_laws.proofs.RoundsAgents.{IsAgent, option_entry, option_there, option_elsewhere}
use Rattle.mt_round_laws.proofs.RoundsMove.{IsMove, match_after, is_displaced, displaced_parts, stays_in, mover_stays, untouched, was_before, fits_after}

-- at a program that nobody left, who was there and isn't there now was displaced there
gone_from : (m : Market) (v : Move) (p a : ℕ) → length v.before ≡ applicants m → is_left m v p ≡ false
    → at v.before p a ≡ true → at v.after p a ≡ false → displaced_at m v.seated p a ≡ true
gone_from m v p a one_each kept was gone = true_from_ne_false (displaced_at m v.seated p a) (λ not_displaced.
    let within = lt_of_there v.before a p was in
    both_ways (is_left m v p) kept (finds _ a (below (applicants m)) (in_below a (applicants m) (omega arith)) (rw (was, gone, not_displaced) refl)))

module _ {m : Market} {old : Places} {g : Agent} {sent : Placement} (mv : IsMove m old g sent) where
  -- at a program that nobody left, who is chosen once everybody was sent stays
  chosen_stays : (p : ℕ) → is_left m (move_of m old sent) p ≡ false
      → (a : ℕ) → choice (program_of m p) (at (send sent old) p) a ≡ true → at (match_after m old sent) p a ≡ true
  chosen_stays p kept a chosen = true_from_ne_false (at (match_after m old sent) p a) (λ gone.
      let there = (choice_facts (program_of m p) (at (send sent old) p) a chosen).is_member in
      elim (cases_Bool (has (members m g) a)) [
        | inl member ↦ both_ways (at (match_after m old sent) p a) gone (ap (is_program p) (stays_in mv g mv.agent (mover_stays mv) a member) ∙ there)
        | inr other ↦
            let d = gone_from m (move_of m old sent) p a mv.fitting.one_each kept (was_before mv a p other there) gone in
            both_ways (choice (program_of m p) (at (send sent old) p) a) (displaced_parts m (send sent old) p a d).1 chosen
      ])

  -- at a program that nobody left no fewer stand above anybody than before
  room_shrinks : (p : ℕ) → is_left m (move_of m old sent) p ≡ false
      → (b : ℕ) → above (at old p) (program_of m p).ranking b ≤ above (at (match_after m old sent) p) (program_of m p).ranking b
  room_shrinks p kept =
      no_fewer_above (program_of m p) (at old p) (at (send sent old) p) (at (match_after m old sent) p) (mv.well_formed.rankings_distinct p)
      (mv.fitting.within p)
      (λ a was gone. displaced_parts m (send sent old) p a (gone_from m (move_of m old sent) p a mv.fitting.one_each kept was gone))
      (chosen_stays p kept)

  -- sending an agent that neither moved nor was displaced changes who is at a program as it did before
  same_shift : (h : Agent) → IsAgent m h → is_displaced m old sent h ≡ false → is_same_agent h g ≡ false
      → (o : Placement) → In o (options m h) → (p a : ℕ)
      → ((at (send o old) p a ≡ at (send o (match_after m old sent)) p a) × (at old p a ≡ at (match_after m old sent) p a))
      ⊎ ((at (send o old) p a ≡ at old p a) × (at (send o (match_after m old sent)) p a ≡ at (match_after m old sent) p a))
  same_shift h of_h stays other o i p a = elim (cases_Bool (has (members m h) a)) [
    | inl member ↦
        let entry = option_entry m h o i a member in
        let before = option_there of_h o i old mv.fitting.one_each a entry.0 entry.1 in
        let now = option_there of_h o i (match_after m old sent) (fits_after mv).one_each a entry.0 entry.1 in
        inl (ap (is_program p) (before ∙ sym now), ap (is_program p) (sym (untouched mv h of_h stays other a member)))
    | inr no_member ↦
        inr (ap (is_program p) (option_elsewhere m h o i old a no_member), ap (is_program p) (option_elsewhere m h o i (match_after m old sent) a no_member))
  ]

  -- At a program that nobody left, an agent that neither moved nor was displaced would be taken after the move
  -- only if it would have been taken before.
  pub taken_before : (h : Agent) → IsAgent m h → is_displaced m old sent h ≡ false → is_same_agent h g ≡ false
      → (o : Placement) → In o (options m h) → (b p : ℕ) → In (b, Some p) o
      → is_left m (move_of m old sent) p ≡ false
      → is_chosen m (send o (match_after m old sent)) b (Some p) ≡ true → is_chosen m (send o old) b (Some p) ≡ true
  taken_before h of_h stays other o i b p sends kept chosen =
      let now = choice_facts (program_of m p) (at (send o (match_after m old sent)) p) b chosen in
      let there = at_some (send o old) p b (option_there of_h o i old mv.fitting.one_each b (Some p) sends) in
      let higher = until (λ x. x == b) (program_of m p).ranking in
      let shift = count_shift (at (send o old) p) (at (send o (match_after m old sent)) p) (at old p) (at (match_after m old sent) p) higher
      (same_shift h of_h stays other o i p) in
      let room = room_shrinks p kept b in
      let few = now.has_few_above in
      choice_from_facts (program_of m p) (at (send o old) p) b (record { is_listed = now.is_listed; is_member = there; has_few_above = omega arith })
