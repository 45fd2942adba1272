-- What one call did with a page and its writer, as a step of a text on its way.
use Rattle.std.proofs.Common.{◌≡◌, ℕ, Bool, true, List, [], ◌++◌, Option, Result, Ok, Err, sym, subst}
use Rattle.std.specs.Prelude.{OnErr, OnOk, is_err}
use Rattle.std.proofs.lemmas.Bool.{true≢false}
use Rattle.std.proofs.lemmas.List.{append-nil}
use Rattle.mt_report.specs.Drains.{IsWritten}
use Rattle.mt_pages.specs.Sending.{Breaks, Sends}
use Rattle.mt_pages.proofs.SendingFacts.{breaks_after, sends_put, sends_then}

-- bytes were put on the page
pub put_on : (a : Option (List ℕ)) (p q more : List ℕ) → q ≡ p ++ more → Sends a a p q more
put_on a p q more is = subst (λ (page : List ℕ). Sends a a p page more) (sym is) (sends_put a p more)

-- bytes were put on the page after a step
pub put_after : (a b : Option (List ℕ)) (p q s x more : List ℕ) → Sends a b p q x → s ≡ q ++ more → Sends a b p s (x ++ more)
put_after a b p q s x more first is = sends_then a b b p q s x more first (put_on b q s more is)

-- what follows from a fact follows from it under an end
pub on_ok_then : {X E P Q : Type 0} (result : Result X E) → (P → Q) → OnOk result P → OnOk result Q
on_ok_then (Ok x) next h = next h
on_ok_then (Err e) next h = tt

pub on_err_then : {X E P Q : Type 0} (result : Result X E) → (P → Q) → OnErr result P → OnErr result Q
on_err_then (Ok x) next h = tt
on_err_then (Err e) next h = next h

pub on_failed : {X E P : Type 0} (result : Result X E) → true ≡ is_err result → OnErr result P → P
on_failed (Ok x) is h = absurd (true≢false is)
on_failed (Err e) is h = h

-- bytes were not wholly written, with none on the page
pub broke_at_once : (a b : Option (List ℕ)) (p text : List ℕ) (written : ℕ) (whole : Bool) → p ≡ [] → IsWritten text a b written whole → Breaks a b p text
broke_at_once a b p text written whole empty is =
    let out : Breaks a b [] text = record { written = written; appended = is.appended; within = is.within } in
    subst (λ (page : List ℕ). Breaks a b page text) (sym empty) out

-- a text on the page was sent, and the page is empty
pub sends_off : (a b c : Option (List ℕ)) (p q r text : List ℕ) → Sends a b p q text → Sends b c q r [] → r ≡ [] → Sends a c p [] text
sends_off a b c p q r text first second empty =
    let both : Sends a c p r (text ++ []) = sends_then a b c p q r text [] first second in
    subst (λ (page : List ℕ). Sends a c p page text) empty (subst (Sends a c p r) (append-nil text) both)

-- a step after which bytes were put on the page, and then more
pub sends_on : (a b c : Option (List ℕ)) (p q r s front more : List ℕ) → Sends a b p q [] → r ≡ q ++ front → Sends b c r s more → Sends a c p s (front ++ more)
sends_on a b c p q r s front more first is second = sends_then a b c p r s front more (put_after a b p q r [] front first is) second

-- a text was put on the page and sent, or the writer failed
pub ended_ok : {X E : Type 0} (result : Result X E) (a b c : Option (List ℕ)) (p q r text : List ℕ) → Sends a b p q text → OnOk result (Sends b c q r [])
    → OnOk result (r ≡ []) → OnOk result (Sends a c p [] text)
ended_ok (Ok x) a b c p q r text first second empty = sends_off a b c p q r text first second empty
ended_ok (Err e) a b c p q r text first second empty = tt

pub ended_err : {X E : Type 0} (result : Result X E) (a b c : Option (List ℕ)) (p q text : List ℕ) → Sends a b p q text → OnErr result (Breaks b c q [])
    → OnErr result (Breaks a c p text)
ended_err (Ok x) a b c p q text first broken = tt
ended_err (Err e) a b c p q text first broken = subst (Breaks a c p) (append-nil text) (breaks_after a b c p q text [] first broken)
