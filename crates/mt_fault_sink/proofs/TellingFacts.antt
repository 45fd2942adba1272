-- What a sink got in turn, and how the search ended.
-- Each step adds its faults by the sink's laws. An early end leaves the rest untold.
use Rattle.std.proofs.Common.{◌≡◌, List, [], ◌++◌, Result, Ok, Err, refl, ap, sym, ◌∙◌, subst}
use Rattle.std.proofs.lemmas.List.{append_assoc, append-nil}
use Rattle.mt_fault_terms.specs.Faults.{FileFault}
use Rattle.mt_fault_sink.specs.declared.fault.FaultEnd.{FaultEnd}
use Rattle.mt_fault_sink.specs.declared.fault.FaultEnd.TheVariants as ends
use Rattle.mt_fault_sink.specs.Telling.{Tells}

-- a sink's laws
pub record Laws {S : Type 0} (takes : S → Type 0) (told stopped : S → S → List FileFault → Type 0) : Type 0 where
  pub none : (s : S) → told s s []
  pub more : (a b c : S) (some next : List FileFault) → told a b some → told b c next → told a c (some ++ next)
  pub stops : (a b c : S) (some next : List FileFault) → told a b some → stopped b c next → stopped a c (some ++ next)

-- A sink got some of all faults, and these are left.
pub record SoFar {S : Type 0} (takes : S → Type 0) (told stopped : S → S → List FileFault → Type 0) (a b : S) (left whole : List FileFault) : Type 0 where
  pub laws : Laws takes told stopped
  pub takes_more : takes b
  pub some : List FileFault
  pub is_told : told a b some
  pub parts : whole ≡ some ++ left

-- the same faults
pub told_as : {S : Type 0} (takes : S → Type 0) (told stopped : S → S → List FileFault → Type 0) (a b : S) (next whole : List FileFault) (r : Result (Unit {0}) FaultEnd) → next ≡ whole
    → Tells {X = Unit {0}} takes told stopped a b next r → Tells {X = Unit {0}} takes told stopped a b whole r
told_as takes told stopped a b next whole r e t = subst (λ (fs : List FileFault). Tells {X = Unit {0}} takes told stopped a b fs r) e t

-- an early end is that of all
early : {S : Type 0} (takes : S → Type 0) (told stopped : S → S → List FileFault → Type 0) (a b : S) (next rest : List FileFault) (e : FaultEnd) → Tells {X = Unit {0}} takes told stopped a b next (Err e)
    → Tells {X = Unit {0}} takes told stopped a b (next ++ rest) (Err e)
early takes told stopped a b next rest ends.Memory t = (
  t.0,
  record {
    some = t.1.some;
    rest = t.1.rest ++ rest;
    parts = ap (λ l. l ++ rest) t.1.parts ∙ append_assoc t.1.some t.1.rest rest;
    holds = t.1.holds;
  },
)
early takes told stopped a b next rest ends.Stopped t = record {
  some = t.some;
  rest = t.rest ++ rest;
  parts = ap (λ l. l ++ rest) t.parts ∙ append_assoc t.some t.rest rest;
  holds = t.holds;
}

module _ {S : Type 0} {takes : S → Type 0} {told stopped : S → S → List FileFault → Type 0} where
  -- nothing is done yet
  pub starts : Laws takes told stopped → (a : S) (whole : List FileFault) → takes a → SoFar takes told stopped a a whole whole
  starts laws a whole t = record { laws = laws; takes_more = t; some = []; is_told = laws.none a; parts = refl }

  pub starts_as : Laws takes told stopped → (a : S) (left whole : List FileFault) → whole ≡ left → takes a → SoFar takes told stopped a a left whole
  starts_as laws a left whole e t = record { laws = laws; takes_more = t; some = []; is_told = laws.none a; parts = e }

  -- a step that was done
  pub goes : {a b : S} {left whole : List FileFault} (c : S) (next rest : List FileFault) → SoFar takes told stopped a b left whole → takes c × told b c next → left ≡ next ++ rest → SoFar takes told stopped a c rest whole
  goes {a = a} {b = b} c next rest s t e = record {
    laws = s.laws;
    takes_more = t.0;
    some = s.some ++ next;
    is_told = s.laws.more a b c s.some next s.is_told t.1;
    parts = s.parts ∙ ap (λ l. s.some ++ l) e ∙ sym (append_assoc s.some next rest);
  }

  -- nothing is left
  pub all_told : {a b : S} {whole : List FileFault} (left : List FileFault) → SoFar takes told stopped a b left whole → left ≡ [] → takes b × told a b whole
  all_told {a = a} {b = b} left s e = (s.takes_more, subst (told a b) (sym (s.parts ∙ ap (λ l. s.some ++ l) e ∙ append-nil s.some)) s.is_told)

  -- the last step, however it ended
  ends_with : {a b : S} {left whole : List FileFault} (c : S) (r : Result (Unit {0}) FaultEnd) → SoFar takes told stopped a b left whole → Tells {X = Unit {0}} takes told stopped b c left r → Tells {X = Unit {0}} takes told stopped a c whole r
  ends_with {a = a} {b = b} {left = left} c (Ok x) s t = (t.0, subst (told a c) (sym s.parts) (s.laws.more a b c s.some left s.is_told t.1))
  ends_with {a = a} {b = b} {left = left} c (Err ends.Memory) s t = (
    t.0,
    record {
      some = s.some ++ t.1.some;
      rest = t.1.rest;
      parts = s.parts ∙ ap (λ l. s.some ++ l) t.1.parts ∙ sym (append_assoc s.some t.1.some t.1.rest);
      holds = s.laws.more a b c s.some t.1.some s.is_told t.1.holds;
    },
  )
  ends_with {a = a} {b = b} {left = left} c (Err ends.Stopped) s t = record {
    some = s.some ++ t.some;
    rest = t.rest;
    parts = s.parts ∙ ap (λ l. s.some ++ l) t.parts ∙ sym (append_assoc s.some t.some t.rest);
    holds = s.laws.stops a b c s.some t.some s.is_told t.holds;
  }

  pub finishes : {a b : S} {left whole : List FileFault} (c : S) (next : List FileFault) (r : Result (Unit {0}) FaultEnd) → SoFar takes told stopped a b left whole → next ≡ left
      → Tells {X = Unit {0}} takes told stopped b c next r → Tells {X = Unit {0}} takes told stopped a c whole r
  finishes {b = b} {left = left} c next r s e t = ends_with c r s (told_as takes told stopped b c next left r e t)

  pub ends_early : {a b : S} {left whole : List FileFault} (c : S) (next rest : List FileFault) (e : FaultEnd) (r : Result (Unit {0}) FaultEnd) → SoFar takes told stopped a b left whole
      → Tells {X = Unit {0}} takes told stopped b c next (Err e) → left ≡ next ++ rest → r ≡ Err e → Tells {X = Unit {0}} takes told stopped a c whole r
  ends_early {a = a} {b = b} {left = left} {whole = whole} c next rest e r s t l is =
      let u : Tells {X = Unit {0}} takes told stopped b c left (Err e) = subst (λ (fs : List FileFault). Tells {X = Unit {0}} takes told stopped b c fs (Err e)) (sym l) (early takes told stopped b c next rest e t) in
      subst (λ (q : Result (Unit {0}) FaultEnd). Tells {X = Unit {0}} takes told stopped a c whole q) (sym is) (ends_with c (Err e) s u)

  -- memory ran out between two steps
  pub memory_ends : {a b : S} {left whole : List FileFault} (r : Result (Unit {0}) FaultEnd) → SoFar takes told stopped a b left whole → r ≡ Err ends.Memory → Tells {X = Unit {0}} takes told stopped a b whole r
  memory_ends {a = a} {b = b} {left = left} {whole = whole} r s is =
      subst (λ (q : Result (Unit {0}) FaultEnd). Tells {X = Unit {0}} takes told stopped a b whole q) (sym is) (s.takes_more, record { some = s.some; rest = left; parts = s.parts; holds = s.is_told })
