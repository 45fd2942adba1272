-- How many rounds a stage makes: what it needs, and it is spent on less.
use Rattle.std.proofs.Common.{◌≡◌, ℕ, zero, suc, ◌+◌, ◌-◌, ◌<◌, List, [], ◌∷◌, length, Option, Some, None, inl, inr, refl, ap, sym, ◌∙◌, arith, subst, option_map, option_and_then, suc-add}
use Rattle.std.proofs.lemmas.Bool.{cases_lt}
use Rattle.mt_terms.specs.Lists.{below}
use Rattle.mt_terms.specs.Market.{Market}
use Rattle.mt_terms.specs.Matching.{Places}
use Rattle.mt_terms.specs.Rounds.{round_of, after_rounds, after_entries, stage, NeedsRounds}
use Rattle.mt_budget_laws.specs.Budget.{StageRounds}
use Rattle.mt_terms.specs.declared.numbers.Agent.{Agent}
use Rattle.mt_terms.specs.declared.numbers.Agent.TheVariants.{Couple}
use Rattle.mt_round_laws.proofs.RoundsStage.{chained, stage_end}

-- A run that is given a budget and leaves some of it: it used this many rounds, which any budget of at least
-- as many lets it make, and no smaller one.
pub record Uses (run : ℕ → Option (Places × ℕ)) (left : ℕ) (r : Places × ℕ) : Type 0 where
  pub used : ℕ
  pub split : left ≡ used + r.1
  pub enough : (more : ℕ) → run (used + more) ≡ Some (r.0, more)
  pub too_few : (b : ℕ) → b < used → run b ≡ None

-- a run that makes no round
uses_none : (run : ℕ → Option (Places × ℕ)) (left : ℕ) (places : Places) (r : Places × ℕ) → ((b : ℕ) → run b ≡ Some (places, b))
    → run left ≡ Some r → Uses run left r
uses_none run left places r always e =
    let both : ◌≡◌ {A = Option (Places × ℕ)} (Some (places, left)) (Some r) = sym (always left) ∙ e in
    let is : places ≡ r.0 = cc in
    let rest : left ≡ r.1 = cc in
    record {
      used = 0;
      split = omega arith;
      enough = λ more. always (0 + more) ∙ (let n : 0 + more ≡ more = omega arith in cc);
      too_few = λ b l. absurd (omega arith);
    }

-- a run that makes a round is spent on one round more than the run after it
one_more : (m : Market) (k : ℕ) (places : Places) (g : Agent) (ws : List Agent) (n : ℕ)
    → ((b : ℕ) → b < n → after_rounds m k b (round_of m k places (g ∷ ws)).places (round_of m k places (g ∷ ws)).waiting ≡ None)
    → (b : ℕ) → b < suc n → after_rounds m k b places (g ∷ ws) ≡ None
one_more m k places g ws n h zero l = refl
one_more m k places g ws n h (suc b) l = h b (omega arith)

-- the rounds of one couple
settled_uses : (m : Market) (k left : ℕ) (places : Places) (ws : List Agent) (r : Places × ℕ) → after_rounds m k left places ws ≡ Some r
    → Uses (λ b. after_rounds m k b places ws) left r
settled_uses m k left places [] r e = uses_none (λ b. after_rounds m k b places []) left places r (λ b. refl) e
settled_uses m k zero places (g ∷ ws) r e = absurd (let both : ◌≡◌ {A = Option (Places × ℕ)} None (Some r) = e in cc)
settled_uses m k (suc left) places (g ∷ ws) r e =
    let next = round_of m k places (g ∷ ws) in
    let rest = settled_uses m k left next.places next.waiting r e in
    record {
      used = suc rest.used;
      split = (let s = rest.split in omega arith);
      enough = λ more. rw suc-add (rest.enough more);
      too_few = one_more m k places g ws rest.used rest.too_few;
    }

-- a chain of two goes on from what the first gives
through : {X Y : Type 0} (f : X → Option Y) (o : Option X) (x : X) → o ≡ Some x → option_and_then f o ≡ f x
through f o x e = rw e refl

-- a chain of two gives nothing if the first gives nothing
through_none : {X Y : Type 0} (f : X → Option Y) (o : Option X) → o ≡ None → option_and_then f o ≡ None
through_none f o e = rw e refl

-- the rounds of several couples
pub entered_uses : (m : Market) (ks : List ℕ) (left : ℕ) (places : Places) (r : Places × ℕ) → after_entries m ks left places ≡ Some r
    → Uses (λ b. after_entries m ks b places) left r
entered_uses m [] left places r e = uses_none (λ b. after_entries m [] b places) left places r (λ b. refl) e
entered_uses m (k ∷ ks) left places r e =
    let w = chained (λ q. after_entries m ks q.1 q.0) (after_rounds m k left places (Couple k ∷ [])) r e in
    let one = settled_uses m k left places (Couple k ∷ []) w.0 w.1 in
    let rest = entered_uses m ks w.0.1 w.0.0 r w.2 in
    record {
      used = one.used + rest.used;
      split = (let s = one.split in let t = rest.split in omega arith);
      enough = λ more.
          through (λ q. after_entries m ks q.1 q.0) (after_rounds m k (one.used + rest.used + more) places (Couple k ∷ [])) (w.0.0, rest.used + more)
          (ap (λ n. after_rounds m k n places (Couple k ∷ [])) (omega arith) ∙ one.enough (rest.used + more)) ∙ rest.enough more;
      too_few = λ b l. elim (cases_lt b one.used) [
        | inl few ↦ through_none (λ q. after_entries m ks q.1 q.0) (after_rounds m k b places (Couple k ∷ [])) (one.too_few b few)
        | inr le ↦
            through (λ q. after_entries m ks q.1 q.0) (after_rounds m k b places (Couple k ∷ [])) (w.0.0, b - one.used)
            (ap (λ n. after_rounds m k n places (Couple k ∷ [])) (omega arith) ∙ one.enough (b - one.used)) ∙ rest.too_few (b - one.used) (omega arith)
      ];
    }

-- a mapped result
mapped : {X Y : Type 0} (f : X → Y) (o : Option X) (x : X) → o ≡ Some x → option_map f o ≡ Some (f x)
mapped f o x e = rw e refl

-- no result is mapped to none
mapped_none : {X Y : Type 0} (f : X → Y) (o : Option X) → o ≡ None → option_map f o ≡ None
mapped_none f o e = rw e refl

-- what a stage gives is what its couples' rounds give
stage_gives : (m : Market) (places : Places) (b : ℕ) (q : Places × ℕ) → after_entries m (below (length m.couples)) b places ≡ Some q
    → stage m places b ≡ Some (q.0, b - q.1)
stage_gives m places b q e = mapped (λ t. (t.0, b - t.1)) (after_entries m (below (length m.couples)) b places) q e

-- the rounds used are those that the stage needs
rounds_used : (m : Market) (places : Places) (budget : ℕ) (q : Places × ℕ) → Uses (λ b. after_entries m (below (length m.couples)) b places) budget q
    → NeedsRounds m places budget (q.0, budget - q.1)
rounds_used m places budget q u =
    let split = u.split in
    record {
      within = omega arith;
      enough = λ b l.
          let run : after_entries m (below (length m.couples)) b places ≡ Some (q.0, b - u.used) =
          ap (λ n. after_entries m (below (length m.couples)) n places) (omega arith) ∙ u.enough (b - u.used) in
          let same : b - (b - u.used) ≡ budget - q.1 = omega arith in
          stage_gives m places b (q.0, b - u.used) run ∙ ap (λ n. Some (q.0, n)) same;
      too_few = λ b l. mapped_none (λ t. (t.0, b - t.1)) (after_entries m (below (length m.couples)) b places) (u.too_few b (omega arith));
    }

-- how many rounds a stage needs
pub stage_rounds_lem : StageRounds
stage_rounds_lem m places budget r e =
    let q = stage_end m places budget r e in
    subst (NeedsRounds m places budget) (sym q.2) (rounds_used m places budget q.0 (entered_uses m (below (length m.couples)) budget places q.0 q.1))
