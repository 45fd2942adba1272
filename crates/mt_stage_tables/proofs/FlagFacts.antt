-- The agents' flags. Each says whether its agent waits. It does so still after one joins, whose flag is then set, and after
-- the one in front is taken, whose flag is then cleared.
use Rattle.std.proofs.Common.{◌≡◌, ◌∙◌, ℕ, zero, suc, ◌<◌, Bool, true, false, ◌==◌, ◌||◌, if◌then◌else◌, List, [], ◌∷◌, ◌++◌, length, replicate, get_or, slice_set, refl, ap, sym, subst, inl, inr}
use Rattle.std.specs.List.{IsDistinct}
use Rattle.std.proofs.Math.Bool.{or-false}
use Rattle.std.proofs.lemmas.Bool.{cases_Bool, eqb-false, eqb-true, false≢true, or_left, or_right}
use Rattle.std.proofs.lemmas.Grind.{get_or-set_at}
use Rattle.std.proofs.lemmas.List.{get_or-set_other, length-set}
use Rattle.std.proofs.lemmas.List.Folds.{list_any-append}
use Rattle.std.proofs.lemmas.Map.Keys.{IsDistinct-head}
use Rattle.mt_terms.specs.Rounds.{is_on, is_same_agent}
use Rattle.mt_terms.specs.declared.numbers.Agent.{Agent}
use Rattle.mt_terms.specs.declared.numbers.Agent.TheVariants.{Single, Couple}
use Rattle.mt_terms.proofs.AgentFacts.{is_same_agent_refl, same_agent}
use Rattle.mt_stage_tables.specs.Flags.{Flags, flagged, is_flagged, no_flags}
use Rattle.mt_stage_tables.specs.View.{IsWorkList}
use Rattle.mt_stage_tables.specs.Waiting.{IsWithin, WaitOnce}
use Rattle.mt_stage_tables.proofs.WaitingFacts.{first_off, wait_joined, wait_rest}

-- no flag is set, and nobody waits
none_set : (n i : ℕ) → get_or (replicate n false) i false ≡ false
none_set zero i = refl
none_set (suc n) zero = refl
none_set (suc n) (suc i) = none_set n i

none_flagged : (n c : ℕ) (g : Agent) → is_flagged (no_flags n c) g ≡ false
none_flagged n c (Single a) = none_set n a
none_flagged n c (Couple d) = none_set c d

pub nobody_flagged : (n c : ℕ) → IsWorkList (no_flags n c) []
unfolding IsDistinct
nobody_flagged n c = record {
  waiting = record { once = tt; known = λ g on. absurd (false≢true on) };
  flags = none_flagged n c;
}

-- the flags once one of them is set or cleared
read_set : (xs : List Bool) (i j : ℕ) (flag : Bool) → i < length xs → get_or (slice_set xs i flag) j false ≡ (if j == i then flag else get_or xs j false)
read_set xs i j flag within = elim (cases_Bool (j == i)) [
  | inl same ↦ rw same (get_or-set_at xs i j flag false (eqb-true j i same) within)
  | inr other ↦ rw other (get_or-set_other xs i j flag false (eqb-false j i other))
]

flag_of : (f : Flags) (g h : Agent) (flag : Bool) → IsWithin (length f.applicants) (length f.couples) g
    → is_flagged (flagged f g flag) h ≡ (if is_same_agent h g then flag else is_flagged f h)
flag_of f (Single a) (Single b) flag within = read_set f.applicants a b flag within
flag_of f (Single a) (Couple d) flag within = refl
flag_of f (Couple c) (Single b) flag within = refl
flag_of f (Couple c) (Couple d) flag within = read_set f.couples c d flag within

as_many : (f : Flags) (g : Agent) (flag : Bool) (gs : List Agent) → WaitOnce (length f.applicants) (length f.couples) gs
    → WaitOnce (length (flagged f g flag).applicants) (length (flagged f g flag).couples) gs
as_many f (Single a) flag gs h = subst (λ n. WaitOnce n (length f.couples) gs) (sym (length-set f.applicants a flag)) h
as_many f (Couple c) flag gs h = subst (λ n. WaitOnce (length f.applicants) n gs) (sym (length-set f.couples c flag)) h

-- an agent joins
at_end : (same on : Bool) → (if same then true else on) ≡ (on || (same || false))
at_end true on = sym (or_right on true refl)
at_end false on = sym (or-false on)

pub flags_joined : (f : Flags) (g : Agent) (gs : List Agent) → IsWorkList f gs → IsWithin (length f.applicants) (length f.couples) g → is_on gs g ≡ false
    → IsWorkList (flagged f g true) (gs ++ g ∷ [])
flags_joined f g gs is within off = record {
  waiting = as_many f g true (gs ++ g ∷ []) (wait_joined (length f.applicants) (length f.couples) g gs is.waiting within off);
  flags = λ h. flag_of f g h true within ∙ ap (λ (on : Bool). if is_same_agent h g then true else on) (is.flags h)
      ∙ at_end (is_same_agent h g) (is_on gs h) ∙ sym (list_any-append (is_same_agent h) gs (g ∷ []));
}

-- the one in front is taken
pub flags_rest : (f : Flags) (g : Agent) (gs : List Agent) → IsWorkList f (g ∷ gs) → IsWorkList (flagged f g false) gs
flags_rest f g gs is = record {
  waiting = as_many f g false gs (wait_rest (length f.applicants) (length f.couples) g gs is.waiting);
  flags = λ h. flag_of f g h false (is.waiting.known g (or_left _ (is_on gs g) (is_same_agent_refl g))) ∙ elim (cases_Bool (is_same_agent h g)) [
    | inl same ↦ rw same (sym (gone h (same_agent h g same)))
    | inr other ↦ rw other (let e : is_flagged f h ≡ is_on gs h = rw other at (is.flags h) in e)
  ];
}
  where
    gone : (h : Agent) → h ≡ g → is_on gs h ≡ false
    gone h e = ap (is_on gs) e ∙ first_off g gs (IsDistinct-head is_same_agent g gs is.waiting.once)
