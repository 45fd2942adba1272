-- Steps of a text on its way to a writer, one after another.
use Rattle.std.proofs.Common.{◌≡◌, ℕ, zero, suc, ◌+◌, ◌≤◌, Bool, true, false, List, [], ◌∷◌, ◌++◌, length, take, Option, None, Some, Result, Ok, Err, refl, sym, ap, ◌∙◌, subst, append_assoc, arith, length-append}
use Rattle.std.specs.Prelude.{OnErr}
use Rattle.std.specs.Io.KnownBytes.{Appends}
use Rattle.std.proofs.lemmas.Bool.{true≢false}
use Rattle.std.proofs.lemmas.List.{append-nil, take_all}
use Rattle.mt_report.specs.Drains.{IsWritten, contents_of, failures_of}
use Rattle.mt_report.proofs.AppendsFacts.{Appends-then}
use Rattle.mt_report.specs.declared.drain.Drain.{Drain}
use Rattle.mt_pages.specs.Sending.{Breaks, IsCut, IsSent, Sends}

Appends-nothing : (a : Option (List ℕ)) → Appends a a []
Appends-nothing None = tt
Appends-nothing (Some xs) = sym (append-nil xs)

-- what is put on the page, with nothing sent
pub sends_put : (a : Option (List ℕ)) (p x : List ℕ) → Sends a a p (p ++ x) x
sends_put a p x = record { sent = []; appended = Appends-nothing a; all = refl }

-- two steps
pub sends_then : (a b c : Option (List ℕ)) (p q r x y : List ℕ) → Sends a b p q x → Sends b c q r y → Sends a c p r (x ++ y)
sends_then a b c p q r x y first second = record {
  sent = first.sent ++ second.sent;
  appended = Appends-then a b c first.sent second.sent first.appended second.appended;
  all = append_assoc first.sent second.sent r
      ∙ ap (λ (w : List ℕ). first.sent ++ w) second.all
      ∙ sym (append_assoc first.sent q y)
      ∙ ap (λ (w : List ℕ). w ++ y) first.all
      ∙ append_assoc p x y;
}

take_past : (xs ys : List ℕ) (n : ℕ) → take (length xs + n) (xs ++ ys) ≡ xs ++ take n ys
take_past [] ys n = let same : 0 + n ≡ n = omega arith in ap (λ (k : ℕ). take k ys) same
take_past (x ∷ xs) ys n =
    let same : suc (length xs) + n ≡ suc (length xs + n) = omega arith in
    ap (λ (k : ℕ). take k (x ∷ (xs ++ ys))) same ∙ ap (λ (zs : List ℕ). x ∷ zs) (take_past xs ys n)

take_within : (xs ys : List ℕ) (n : ℕ) → n ≤ length xs → take n (xs ++ ys) ≡ take n xs
take_within [] ys zero h = refl
take_within [] ys (suc n) h = absurd (omega arith)
take_within (x ∷ xs) ys zero h = refl
take_within (x ∷ xs) ys (suc n) h = ap (λ (zs : List ℕ). x ∷ zs) (take_within xs ys n (omega arith))

-- a step after which the writer fails
pub breaks_after : (a b c : Option (List ℕ)) (p q x y : List ℕ) → Sends a b p q x → Breaks b c q y → Breaks a c p (x ++ y)
breaks_after a b c p q x y first broken =
    let all : p ++ (x ++ y) ≡ first.sent ++ (q ++ y) =
    sym (append_assoc p x y) ∙ ap (λ (w : List ℕ). w ++ y) (sym first.all) ∙ append_assoc first.sent q y in
    let front : take (length first.sent + broken.written) (p ++ (x ++ y)) ≡ first.sent ++ take broken.written (q ++ y) =
    ap (take (length first.sent + broken.written)) all ∙ take_past first.sent (q ++ y) broken.written in
    let sizes = ap length all in
    record {
      written = length first.sent + broken.written;
      appended = subst (Appends a c) (sym front) (Appends-then a b c first.sent (take broken.written (q ++ y)) first.appended broken.appended);
      within = omega (arith, sizes, length-append first.sent (q ++ y), broken.within);
    }

-- the writer failed, whatever should come later
pub breaks_more : (a b : Option (List ℕ)) (p x y : List ℕ) → Breaks a b p x → Breaks a b p (x ++ y)
breaks_more a b p x y broken =
    let all : p ++ (x ++ y) ≡ (p ++ x) ++ y = sym (append_assoc p x y) in
    let sizes = ap length all in
    record {
      written = broken.written;
      appended = subst (Appends a b) (sym (ap (take broken.written) all ∙ take_within (p ++ x) y broken.written broken.within)) broken.appended;
      within = omega (arith, sizes, length-append (p ++ x) y, broken.within);
    }

-- a step after which the writer fails, in a text that goes on
pub breaks_in : (a b c : Option (List ℕ)) (p q x y z text : List ℕ) → Sends a b p q x → Breaks b c q y → x ++ (y ++ z) ≡ text → Breaks a c p text
breaks_in a b c p q x y z text first broken is =
    subst (Breaks a c p) is (breaks_after a b c p q x (y ++ z) first (breaks_more b c q y z broken))

-- the same of a writer that failed once
pub cut_in : {W : Type 0} (contents : W → Option (List ℕ)) (d e f : Drain W) (p q x y z text : List ℕ) → IsSent contents d e p q x
    → Breaks (contents_of contents e) (contents_of contents f) q y → failures_of f ≡ failures_of e + 1 → x ++ (y ++ z) ≡ text → IsCut contents d f p text
cut_in contents d e f p q x y z text first broken failed is = record {
  breaks = breaks_in (contents_of contents d) (contents_of contents e) (contents_of contents f) p q x y z text first.sends broken is;
  one_failed = failed ∙ ap (λ (n : ℕ). n + 1) first.none_failed;
}

-- and of one that failed once before the text
pub cut_before : {W : Type 0} (contents : W → Option (List ℕ)) (d e : Drain W) (p text : List ℕ) → Breaks (contents_of contents d) (contents_of contents e) p []
    → failures_of e ≡ failures_of d + 1 → IsCut contents d e p text
cut_before contents d e p text broken failed = record {
  breaks = breaks_more (contents_of contents d) (contents_of contents e) p [] text broken;
  one_failed = failed;
}

-- the writer took the first bytes of the page
pub broken_page : (old new : Option (List ℕ)) (page text : List ℕ) (written : ℕ) (whole : Bool) → text ≡ page → IsWritten text old new written whole → Breaks old new page []
broken_page old new page text written whole same is =
    let all : page ++ [] ≡ text = append-nil page ∙ sym same in
    record {
      written = written;
      appended = subst (Appends old new) (ap (take written) (sym all)) is.appended;
      within = subst (λ (bytes : List ℕ). written ≤ length bytes) (sym all) is.within;
    }

-- a page that was sent if there was too little room, and something put on it
pub sends_step : (a b c : Option (List ℕ)) (p q r s x more text : List ℕ) → Sends a b p q x → Sends b c q r [] → s ≡ r ++ more → x ++ more ≡ text → Sends a c p s text
sends_step a b c p q r s x more text first second is all =
    let both : Sends a c p (r ++ more) ((x ++ []) ++ more) =
    sends_then a c c p r (r ++ more) (x ++ []) more (sends_then a b c p q r x [] first second) (sends_put c r more) in
    let same : (x ++ []) ++ more ≡ text = ap (λ (w : List ℕ). w ++ more) (append-nil x) ∙ all in
    subst (λ (bytes : List ℕ). Sends a c p bytes text) (sym is) (subst (Sends a c p (r ++ more)) same both)

-- a whole text was sent
pub sent_whole : (a b c : Option (List ℕ)) (q r text : List ℕ) → Sends a b [] q text → Sends b c q r [] → r ≡ [] → IsWritten text a c (length text) true
sent_whole a b c q r text first second is =
    let both = sends_then a b c [] q r text [] first second in
    let all : both.sent ≡ text =
    sym (append-nil both.sent) ∙ ap (λ (w : List ℕ). both.sent ++ w) (sym is) ∙ both.all ∙ append-nil text in
    record {
      appended = subst (Appends a c) (all ∙ sym (take_all (length text) text (omega arith))) both.appended;
      within = omega arith;
      all = λ _. refl;
    }

-- the first bytes of a text were sent
pub sent_front : (a b : Option (List ℕ)) (text : List ℕ) (broken : Breaks a b [] text) → IsWritten text a b broken.written false
sent_front a b text broken = record { appended = broken.appended; within = broken.within; all = λ h. absurd (true≢false (sym h)) }

-- what is so of any end is so of an error
pub on_err : {X E P : Type 0} (result : Result X E) → P → OnErr result P
on_err (Ok x) h = tt
on_err (Err e) h = h
