-- A state that comes back does so again and again, so it comes later than the end of any rounds. An end has an empty work
-- list, which stays empty.
use Rattle.std.proofs.Common.{◌≡◌, ℕ, zero, suc, ◌+◌, ◌-◌, ◌<◌, ◌≤◌, List, [], ◌∷◌, length, Option, Some, None, inl, inr, refl, ap, sym, ◌∙◌, arith, subst, option_and_then}
use Rattle.std.specs.List.{range_with_len}
use Rattle.std.proofs.lemmas.Bool.{cases_lt}
use Rattle.mt_terms.specs.Lists.{below}
use Rattle.mt_terms.specs.Market.{Market}
use Rattle.mt_terms.specs.Matching.{Places}
use Rattle.mt_terms.specs.Rounds.{Work, round, round_of, after_rounds, after_entries, stage, state}
use Rattle.mt_terms.specs.declared.numbers.Agent.{Agent}
use Rattle.mt_terms.specs.declared.numbers.Agent.TheVariants.{Couple}
use Rattle.mt_round_laws.proofs.RoundsStage.{chained, stage_end}
use Rattle.mt_budget_laws.specs.Returning.{state_after, ReturningNeverEnds, ReturningStageNeverEnds}
use Rattle.mt_budget_laws.proofs.RoundsCounted.{entered_uses}

-- with nobody on the work list all stays as it is
stays : (m : Market) (k n : ℕ) (places : Places) → state_after m k n (state places []) ≡ state places []
stays m k zero places = refl
stays m k (suc n) places = stays m k n places

-- so the work list stays empty
pub stays_empty : (m : Market) (k n : ℕ) (w : Work) → w.waiting ≡ [] → (state_after m k n w).waiting ≡ []
stays_empty m k n w e = ap (λ ws. (state_after m k n (state w.places ws)).waiting) e ∙ ap (λ (x : Work). x.waiting) (stays m k n w.places)

-- rounds after rounds
pub further : (m : Market) (k n i : ℕ) (w : Work) → state_after m k (n + i) w ≡ state_after m k i (state_after m k n w)
further m k zero i w = let none : 0 + i ≡ i = omega arith in ap (λ j. state_after m k j w) none
further m k (suc n) i w =
    let more : suc n + i ≡ suc (n + i) = omega arith in
    ap (λ j. state_after m k j w) more ∙ further m k n i (round m k w)

-- once rounds have ended, nobody waits
emptied : (m : Market) (k b : ℕ) (places : Places) (ws : List Agent) (r : Places × ℕ) → after_rounds m k b places ws ≡ Some r
    → (state_after m k b (state places ws)).waiting ≡ []
emptied m k b places [] r e = ap (λ (w : Work). w.waiting) (stays m k b places)
emptied m k zero places (g ∷ ws) r e = absurd (let none : ◌≡◌ {A = Option (Places × ℕ)} None (Some r) = e in cc)
emptied m k (suc b) places (g ∷ ws) r e = let next = round_of m k places (g ∷ ws) in emptied m k b next.places next.waiting r e

-- a state that comes back is there after as many rounds as one likes, or more
comes_later : (m : Market) (k n : ℕ) (w : Work) → 0 < n → state_after m k n w ≡ w → (b : ℕ) → (c : ℕ) × (b ≤ c) × (state_after m k c w ≡ w)
comes_later m k n w some back zero = (0, omega arith, refl)
comes_later m k n w some back (suc b) =
    let v = comes_later m k n w some back b in
    let low = v.1 in
    (n + v.0, omega arith, further m k n v.0 w ∙ ap (state_after m k v.0) back ∙ v.2)

pub returning_never_ends_lem : ReturningNeverEnds
returning_never_ends_lem m k w before comes b = by_end (after_rounds m k b w.places w.waiting) refl
  where
    by_end : (o : Option (Places × ℕ)) → after_rounds m k b w.places w.waiting ≡ o → o ≡ None
    by_end None e = refl
    by_end (Some r) e =
        let there = state_after m k before w in
        let v = comes_later m k comes.rounds there comes.some comes.back b in
        let low = v.1 in
        let after = before + v.0 - b in
        let parts : before + v.0 ≡ b + after = omega arith in
        let same : state_after m k after (state_after m k b w) ≡ there =
        sym (further m k b after w) ∙ sym (ap (λ j. state_after m k j w) parts) ∙ further m k before v.0 w ∙ v.2 in
        absurd (comes.waits (sym (ap (λ (x : Work). x.waiting) same) ∙ stays_empty m k after (state_after m k b w) (emptied m k b w.places w.waiting r e)))

-- whatever the budget, couples that enter do so into the same match
same_match : (m : Market) (ks : List ℕ) (left b : ℕ) (places : Places) (r q : Places × ℕ) → after_entries m ks left places ≡ Some r
    → after_entries m ks b places ≡ Some q → q.0 ≡ r.0
same_match m ks left b places r q e h =
    let u = entered_uses m ks left places r e in
    elim (cases_lt b u.used) [
      | inl few ↦ absurd (let none : ◌≡◌ {A = Option (Places × ℕ)} None (Some q) = sym (u.too_few b few) ∙ h in cc)
      | inr le ↦
          let run : after_entries m ks b places ≡ Some (r.0, b - u.used) = ap (λ n. after_entries m ks n places) (omega arith) ∙ u.enough (b - u.used) in
          let some : ◌≡◌ {A = Option (Places × ℕ)} (Some (r.0, b - u.used)) (Some q) = sym run ∙ h in
          let is : (r.0, b - u.used) ≡ q = cc in
          sym (ap (λ t. t.0) is)
    ]

-- the couples of a range have entered, and those after it then
first_entered : (m : Market) (start n k left : ℕ) (places : Places) (q : Places × ℕ) → after_entries m (range_with_len start (n + k)) left places ≡ Some q
    → (r : Places × ℕ) × (after_entries m (range_with_len start n) left places ≡ Some r) × (after_entries m (range_with_len (start + n) k) r.1 r.0 ≡ Some q)
first_entered m start zero k left places q e =
    let here : start + 0 ≡ start = omega arith in
    let none : 0 + k ≡ k = omega arith in
    ((places, left), refl, ap (λ j. after_entries m (range_with_len j k) left places) here ∙ sym (ap (λ j. after_entries m (range_with_len start j) left places) none) ∙ e)
first_entered m start (suc n) k left places q e =
    let more : suc n + k ≡ suc (n + k) = omega arith in
    by_end (after_rounds m start left places (Couple start ∷ [])) (λ t. first_entered m (start + 1) n k t.1 t.0 q)
    (sym (ap (λ j. after_entries m (range_with_len start j) left places) more) ∙ e)
  where
    there : start + 1 + n ≡ start + suc n
    there = omega arith

    by_end : (o : Option (Places × ℕ))
        → ((t : Places × ℕ) → after_entries m (range_with_len (start + 1) (n + k)) t.1 t.0 ≡ Some q
        → (r : Places × ℕ) × (after_entries m (range_with_len (start + 1) n) t.1 t.0 ≡ Some r) × (after_entries m (range_with_len (start + 1 + n) k) r.1 r.0 ≡ Some q))
        → option_and_then (λ t. after_entries m (range_with_len (start + 1) (n + k)) t.1 t.0) o ≡ Some q
        → (r : Places × ℕ) × (option_and_then (λ t. after_entries m (range_with_len (start + 1) n) t.1 t.0) o ≡ Some r)
        × (after_entries m (range_with_len (start + suc n) k) r.1 r.0 ≡ Some q)
    by_end None rest h = absurd (let none : ◌≡◌ {A = Option (Places × ℕ)} None (Some q) = h in cc)
    by_end (Some t) rest h =
        let v = rest t h in (v.0, v.1, subst (λ j. after_entries m (range_with_len j k) v.0.1 v.0.0 ≡ Some q) there v.2)

-- a couple whose rounds end within no budget has entered within none
never_entered : (m : Market) (places : Places) (k n budget b : ℕ) (r q : Places × ℕ) → after_entries m (below k) budget places ≡ Some r
    → ((b : ℕ) → after_rounds m k b r.0 (Couple k ∷ []) ≡ None) → after_entries m (below (k + suc n)) b places ≡ Some q → ⊥
never_entered m places k n budget b r q reached endless all =
    let w = first_entered m 0 k (suc n) b places q all in
    let here : 0 + k ≡ k = omega arith in
    let same : w.0.0 ≡ r.0 = same_match m (below k) budget b places r w.0 reached w.1 in
    let rest : after_entries m (range_with_len k (suc n)) w.0.1 w.0.0 ≡ Some q = subst (λ j. after_entries m (range_with_len j (suc n)) w.0.1 w.0.0 ≡ Some q) here w.2 in
    let v = chained (λ t. after_entries m (range_with_len (k + 1) n) t.1 t.0) (after_rounds m k w.0.1 w.0.0 (Couple k ∷ [])) q rest in
    let none : ◌≡◌ {A = Option (Places × ℕ)} None (Some v.0) = sym (endless w.0.1) ∙ ap (λ x. after_rounds m k w.0.1 x (Couple k ∷ [])) (sym same) ∙ v.1 in
    cc

-- so no budget is enough for the stage
pub endless_stage : (m : Market) (places : Places) (k budget : ℕ) (r : Places × ℕ) → k < length m.couples → after_entries m (below k) budget places ≡ Some r
    → ((b : ℕ) → after_rounds m k b r.0 (Couple k ∷ []) ≡ None) → (b : ℕ) → stage m places b ≡ None
endless_stage m places k budget r within reached endless b = by_end (stage m places b) refl
  where
    n : ℕ
    n = length m.couples - k - 1

    parts : length m.couples ≡ k + suc n
    parts = omega arith

    by_end : (o : Option (Places × ℕ)) → stage m places b ≡ o → o ≡ None
    by_end None e = refl
    by_end (Some end) e =
        let q = stage_end m places b end e in
        absurd (never_entered m places k n budget b r q.0 reached endless (sym (ap (λ j. after_entries m (below j) b places) parts) ∙ q.1))

pub returning_stage_never_ends_lem : ReturningStageNeverEnds
returning_stage_never_ends_lem m places k budget r within reached before comes =
    endless_stage m places k budget r within reached (returning_never_ends_lem m k (state r.0 (Couple k ∷ [])) before comes)
