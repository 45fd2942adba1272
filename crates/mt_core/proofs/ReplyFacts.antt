-- Who was chosen before a proposal on a floor and isn't after it is the one that the reply names: at the program of the
-- proposal by the answer of its holding, and elsewhere nothing changes.
use Rattle.std.proofs.Common.{◌≡◌, ◌==◌, ℕ, true, false, Option, Some, None, IsTrue, IsFalse, sym, ap, ◌∙◌, subst, inl, inr, ne_eqb, eq-eqb, refl}
use Rattle.std.specs.List.{position}
use Rattle.std.specs.Option.{is_some}
use Rattle.std.proofs.lemmas.Bool.{cases_eq, both_ways, true≢false}
use Rattle.mt_terms.specs.Lists.{Set, has, with_one}
use Rattle.mt_terms.specs.Market.{Market, Program, program_of}
use Rattle.mt_terms.specs.Choice.{choice}
use Rattle.mt_terms.specs.Floor as model
use Rattle.mt_terms.specs.Floor.{proposed_at, receives_one}
use Rattle.mt_terms.specs.declared.events.Reply.TheVariants as reply
use Rattle.mt_stability_laws.proofs.ChoiceLemmas.{choice_facts}
use Rattle.mt_hold.specs.Holding.{Holding}
use Rattle.mt_hold.specs.Replies.{reply_from}
use Rattle.mt_hold.specs.declared.holding.Taken.{Taken}
use Rattle.mt_hold.proofs.Lists.{held_is_choice}
use Rattle.mt_hold.proofs.ReplyFacts.{IsAnswer, MayReceive, held_after}
use Rattle.mt_ranks.specs.Ranked.{IsRank}
use Rattle.mt_ranks.proofs.Positions.{has-position, IsRank-from_position}
use Rattle.mt_core.specs.Floors.{Tables, hold_of, floor_of, IsOpenedWith}
use Rattle.mt_core.proofs.FloorTables.{CanEnter, is_holding_of}

-- who is chosen has a rank on the list
rank_of_chosen : (p : Program) (set : Set) (b : ℕ) → IsTrue (choice p set b) → (k : ℕ) × IsRank p.ranking b k
rank_of_chosen p set b on = by_cases (position (λ x. x == b) p.ranking) refl
  where
    listed : has p.ranking b ≡ true
    listed = (choice_facts p set b on).is_listed

    by_cases : (o : Option ℕ) → position (λ x. x == b) p.ranking ≡ o → (k : ℕ) × IsRank p.ranking b k
    by_cases None e = absurd (true≢false (sym listed ∙ has-position p.ranking b ∙ ap is_some e))
    by_cases (Some k) e = (k, IsRank-from_position p.ranking b k e)

-- who was chosen and is so no longer is the one that the reply names
displaced_there : (p : Program) (set : Set) (h : Holding) (a r : ℕ) (answer : Taken) → MayReceive p set h a r → IsAnswer h r answer
    → (b : ℕ) → IsTrue (choice p set b) → IsFalse (choice p (with_one set a) b) → reply_from p.ranking answer ≡ reply.KeptInstead b
displaced_there p set h a r answer may is b on out =
    let rank = rank_of_chosen p set b on in
    let was = held_is_choice p set h may.distinct may.holding rank.0 rank.1.within ∙ ap (choice p set) rank.1.stands ∙ on in
    let now = held_after p set h a r may rank.0 rank.1.within ∙ ap (choice p (with_one set a)) rank.1.stands ∙ out in
    ap (reply_from p.ranking) ((is.dropped rank.0).1 (was, now)) ∙ ap (λ x. reply.KeptInstead x) rank.1.stands

-- a proposal that can be made on a floor may be received
pub may_receive : (m : Market) (t : Tables) (a p r : ℕ) → IsOpenedWith m t → CanEnter m a p r → MayReceive (program_of m p) ((floor_of m t).received p) (hold_of t p) a r
may_receive m t a p r o can = record { distinct = can.distinct; holding = is_holding_of m t p can.distinct o; found = can.is_rank.found }

-- who was held at any program of a floor and is so no longer is the one that the reply names
pub displaced_is : (m : Market) (t : Tables) (a p r : ℕ) (answer : Taken) → IsOpenedWith m t → CanEnter m a p r → IsAnswer (hold_of t p) r answer
    → (b q : ℕ) → IsTrue (model.held_set m (floor_of m t) q b) → IsFalse (model.held_set m (proposed_at m (floor_of m t) a p) q b)
    → reply_from (program_of m p).ranking answer ≡ reply.KeptInstead b
displaced_is m t a p r answer o can is b q on out =
    elim (cases_eq q p) [
      | inl same ↦
          let there : IsTrue (model.held_set m (floor_of m t) p b) = subst (λ (x : ℕ). IsTrue (model.held_set m (floor_of m t) x b)) same on in
          let gone : IsFalse (model.held_set m (proposed_at m (floor_of m t) a p) p b) = subst (λ (x : ℕ). IsFalse (model.held_set m (proposed_at m (floor_of m t) a p) x b)) same out in
          displaced_there (program_of m p) ((floor_of m t).received p) (hold_of t p) a r answer (may_receive m t a p r o can) is b there (sym (received_at p (eq-eqb p p refl)) ∙ gone)
      | inr other ↦ absurd (both_ways _ out (elsewhere (ne_eqb q p other) ∙ on))
    ]
  where
    received_at : (x : ℕ) → (x == p) ≡ true → model.held_set m (proposed_at m (floor_of m t) a p) x b ≡ choice (program_of m x) (receives_one (floor_of m t) p a) b
    received_at x e = rw e refl

    elsewhere : (q == p) ≡ false → model.held_set m (proposed_at m (floor_of m t) a p) q b ≡ model.held_set m (floor_of m t) q b
    elsewhere e = rw e refl
