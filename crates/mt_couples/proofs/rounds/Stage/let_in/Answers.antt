-- The couple waits alone, so the rounds are those of its entry. Once nobody waits, all that have entered are quiet and
-- indexed.
use Rattle.std.proofs.Common.{◌≡◌, ◌∙◌, ◌∷◌, ◌+◌, ℕ, [], Result, Ok, Err, IfErr, IfOk, OnOk, ap, refl, subst, sym}
use Rattle.mt_terms.specs.WellFormed.{IsWellFormed}
use Rattle.mt_terms.specs.Rounds.{after_rounds}
use Rattle.mt_terms.specs.declared.numbers.Agent.TheVariants.{Couple}
use Rattle.mt_watch.specs.Watching.{AreIndexed}
use Rattle.mt_entry.specs.Ended.{IfSpent}
use Rattle.mt_couples.specs.Staged.{IsBetweenEntries, IsBetweenRounds, IsWatched}
use Rattle.mt_couples.specs.declared.rounds.Stage.{Stage}
use Rattle.mt_entry.specs.declared.ends.CoupleEnd.{CoupleEnd}
use Rattle.mt_entry.specs.declared.ends.CoupleEnd.TheVariants.{BudgetSpent, Memory}
use Rattle.mt_entry.specs.declared.ends.Spent.{Spent}
use Rattle.mt_rounds.proofs.JoinFacts.{joined_list, known_joins}
use Rattle.mt_rounds.proofs.EnteringFacts.{idle_before, next_waits}
use Rattle.mt_couples.proofs.StageFacts.{settled_between}
use Rattle.mt_couples.proofs.rounds.Stage.let_in.Goals as goal

pub settle-requires-clause-running : goal.settle-requires-clause-running
settle-requires-clause-running g c κs within =
    let t = c.args.self.now in
    let k = c.args.couple in
    let so_far = c.requires.entered in
    let joins = known_joins t.waiting c.join.new.self k so_far.nobody_waits c.in_ok-join.ensures in
    next_waits t.assignment.market (subst IsWellFormed c.roster.ensures.market c.roster.ensures.roster.well_formed) t.quiet k t.assignment c.join.new.self refl
    c.requires.couple so_far.fitting so_far.is_quiet (joined_list t.assignment.market t.waiting c.join.new.self (Couple k ∷ []) so_far.list joins.0) joins.1

pub settle-requires-clause-watched : goal.settle-requires-clause-watched
settle-requires-clause-watched g c κs within =
    let t = c.args.self.now in
    let k = c.args.couple in
    let so_far = c.requires.entered in
    let joins = known_joins t.waiting c.join.new.self k so_far.nobody_waits c.in_ok-join.ensures in
    record {
      watched = so_far.watched;
      named = so_far.named;
      counted = so_far.counted;
      indexed = subst (λ gs. AreIndexed k gs t.watch) (sym joins.1) (λ d idle. so_far.indexed d (idle_before d k idle));
    }

-- what a result has, if it is a value or if it is an error
ok_too : {T E : Type 0} {P Q : T → Type 0} (r : Result T E) → ((x : T) → P x → Q x) → IfOk r P → IfOk r Q
ok_too (Ok x) more h = more x h
ok_too (Err e) more h = h

err_too : {T : Type 0} {P Q : Spent → Type 0} (r : Result T CoupleEnd) → ((s : Spent) → P s → Q s) → IfErr r (λ e. IfSpent e P) → IfErr r (λ e. IfSpent e Q)
err_too (Ok x) more h = h
err_too (Err (BudgetSpent s)) more h = more s h
err_too (Err Memory) more h = h

between : {T E : Type 0} (r : Result T E) (new : Stage) (k last : ℕ) → last ≡ k → OnOk r (new.last ≡ last) → OnOk r (IsBetweenRounds new) → OnOk r (IsWatched new)
    → OnOk r (new.waiting.agents ≡ []) → OnOk r (IsBetweenEntries (k + 1) new)
between (Ok x) new k last is kept running watched empty = settled_between new k (kept ∙ is) running watched empty
between (Err e) new k last is kept running watched empty = kept

pub returns-clause-settled : goal.returns-clause-settled
returns-clause-settled g c =
    let t = c.args.self.now in
    let k = c.args.couple in
    let joins = known_joins t.waiting c.join.new.self k c.requires.entered.nobody_waits c.in_ok-join.ensures in
    ok_too c.settle.result (λ rest e. ap (λ gs. after_rounds t.assignment.market k c.args.left t.assignment.places gs) (sym joins.1) ∙ e) c.settle.ensures.settled

pub returns-clause-spent : goal.returns-clause-spent
returns-clause-spent g c =
    let t = c.args.self.now in
    let k = c.args.couple in
    let joins = known_joins t.waiting c.join.new.self k c.requires.entered.nobody_waits c.in_ok-join.ensures in
    err_too c.settle.result (λ s from. record {
      unsettled = ap (λ gs. after_rounds t.assignment.market k c.args.left t.assignment.places gs) (sym joins.1) ∙ from.unsettled;
      couple = from.couple;
      within = from.within;
      all_made = from.all_made;
      endless = λ back b. ap (λ gs. after_rounds t.assignment.market k b t.assignment.places gs) (sym joins.1) ∙ from.endless back b;
    }) c.settle.ensures.spent

pub returns-clause-entered : goal.returns-clause-entered
returns-clause-entered g c =
    between c.settle.result c.settle.new.self c.args.couple c.args.couple refl (ok_too c.settle.result (λ x kept. kept.last) c.settle.ensures.keeps)
    c.settle.ensures.running c.settle.ensures.watched c.settle.ensures.empty

pub returns-clause-market : goal.returns-clause-market
returns-clause-market g c = ok_too c.settle.result (λ x kept. kept.market) c.settle.ensures.keeps
