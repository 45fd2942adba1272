-- The stage between two entries.
use Rattle.std.proofs.Common.{◌≡◌, ℕ, ◌+◌, ◌<◌, true, false, get_or, Vec, Global, [], IsTrue, ap, sym, ◌∙◌, inl, inr, arith, subst}
use Rattle.std.proofs.lemmas.Bool.{cases_lt}
use Rattle.mt_terms.specs.Market.{Market}
use Rattle.mt_terms.specs.Matching.{Places}
use Rattle.mt_terms.specs.Stability.{blocks, fits}
use Rattle.mt_terms.specs.WellFormed.{IsWellFormed}
use Rattle.mt_terms.specs.Rounds.{is_on}
use Rattle.mt_terms.specs.declared.numbers.Agent.TheVariants.{Couple}
use Rattle.mt_stage_tables.specs.Waiting.{Waiting}
use Rattle.mt_stage_tables.specs.Named.{AreNamed}
use Rattle.mt_assignment.specs.Assigned.{Assigned}
use Rattle.mt_assignment.specs.Watched.{AreWatched}
use Rattle.mt_assignment.specs.Blocking.{singles_quiet}
use Rattle.mt_rounds.specs.Running.{IsQuietBefore}
use Rattle.mt_rounds.specs.Waiting.{IsListOf}
use Rattle.mt_couples.specs.Staged.{Begins, IsBetweenEntries, IsBetweenRounds, IsWatched}
use Rattle.mt_watch.specs.Watching.{AreCounted, IndexesCouple, IsIndexed}
use Rattle.mt_couples.specs.declared.rounds.Stage.{Stage}
use Rattle.mt_watch.specs.declared.watch.Watch.{Watch}
use Rattle.mt_rounds.proofs.QuietFacts.{entered_by, quiet_at_first}
use Rattle.mt_rounds.proofs.EnteringFacts.{entered_idle, quiet_more}

-- one couple more is indexed
indexed_more : (old new : Watch) (k : ℕ) → new.better ≡ old.better → IndexesCouple old new k → ((c : ℕ) → c < k → IsIndexed old c)
    → (c : ℕ) → c < k + 1 → IsIndexed new c
indexed_more old new k same index so_far c low = elim (cases_lt c k) [
  | inl earlier ↦
      let counts : get_or new.better.items c 0 ≡ get_or old.better.items c 0 = ap (λ (v : Vec ℕ Global). get_or v.items c 0) same in
      omega (arith, counts, index.keeps c, so_far c earlier)
  | inr past ↦ (let here : c ≡ k = omega arith in subst (IsIndexed new) (sym here) index.indexed)
]

-- A couple that has entered is noted. The stage isn't quiet any more if the couple blocks.
pub noted : (old new : Stage) (k : ℕ) → new.assignment ≡ old.assignment → new.waiting ≡ old.waiting → new.watch.singles ≡ old.watch.singles
    → new.watch.better ≡ old.watch.better → AreNamed old.assignment.market new.watch.couples → IndexesCouple old.watch new.watch k
    → (IsTrue new.quiet → IsTrue old.quiet × (blocks old.assignment.market old.assignment.places (Couple k) ≡ false))
    → IsBetweenEntries k old → IsBetweenEntries (k + 1) new
noted old new k same waiting singles better named index quiet so_far = record {
  fitting = subst (λ (s : Assigned). fits s.market s.places ≡ true) (sym same) so_far.fitting;
  list = subst (λ (s : Assigned). IsListOf s.market new.waiting) (sym same) (subst (IsListOf old.assignment.market) (sym waiting) so_far.list);
  nobody_waits = ap (λ (w : Waiting). w.agents) waiting ∙ so_far.nobody_waits;
  is_quiet = λ so. subst (λ (s : Assigned). IsQuietBefore s.market (k + 1) s.places) (sym same)
      (quiet_more old.assignment.market k old.assignment.places (so_far.is_quiet (quiet so).0) (quiet so).1);
  watched = subst (λ (s : Assigned). AreWatched s new.watch.singles) (sym same) (subst (AreWatched old.assignment) (sym singles) so_far.watched);
  named = subst (λ (s : Assigned). AreNamed s.market new.watch.couples) (sym same) named;
  counted = subst (λ (s : Assigned). AreCounted s new.watch.better.items) (sym same)
      (subst (λ (v : Vec ℕ Global). AreCounted old.assignment v.items) (sym better) so_far.counted);
  indexed = indexed_more old.watch new.watch k better index so_far.indexed;
}

-- a stage that no couple has entered is between two entries
pub at_first : (m : Market) → IsWellFormed m → (places : Places) (t : Stage) → fits m places ≡ true → Begins m places t → IsBetweenEntries 0 t
at_first m wf places t fit begins = record {
  fitting = subst (λ (s : Assigned). fits s.market s.places ≡ true) (sym begins.assigned) fit;
  list = subst (λ (s : Assigned). IsListOf s.market t.waiting) (sym begins.assigned)
      (record { applicants_are = ap (λ (w : Waiting). w.applicants) begins.nobody_waits; couples_are = ap (λ (w : Waiting). w.couples) begins.nobody_waits });
  nobody_waits = ap (λ (w : Waiting). w.agents) begins.nobody_waits;
  is_quiet = λ so. subst (λ (s : Assigned). IsQuietBefore s.market 0 s.places) (sym begins.assigned)
      (quiet_at_first m wf places (sym (ap singles_quiet begins.assigned) ∙ begins.is_quiet so));
  watched = begins.watched;
  named = begins.named;
  counted = begins.counted;
  indexed = λ d low. absurd (omega arith);
}

-- Once nobody waits, a stage is between two entries.
pub settled_between : (t : Stage) (k : ℕ) → t.last ≡ k → IsBetweenRounds t → IsWatched t → t.waiting.agents ≡ [] → IsBetweenEntries (k + 1) t
settled_between t k last running watching empty = subst (λ j. IsBetweenEntries (j + 1) t) last (record {
  fitting = running.fitting.fitting;
  list = running.waiting;
  nobody_waits = empty;
  is_quiet = λ so h on before. running.is_quiet so h on (entered_by t.last h before) (ap (λ gs. is_on gs h) empty);
  watched = watching.watched;
  named = watching.named;
  counted = watching.counted;
  indexed = λ d low. watching.indexed d (entered_idle d t.last t.waiting.agents empty low);
})
