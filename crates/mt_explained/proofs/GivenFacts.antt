-- A text that was put on a page was written whole, or its first bytes were.
use Rattle.std.proofs.Common.{◌≡◌, ℕ, List, [], length, Option, Result, Ok, Err, refl, subst}
use Rattle.std.specs.Prelude.{OnErr, OnOk, is_ok}
use Rattle.std.proofs.lemmas.List.{append-nil}
use Rattle.mt_files.specs.Answer.{IsGiven}
use Rattle.mt_pages.specs.Sending.{Breaks, Sends}
use Rattle.mt_pages.proofs.SendingFacts.{breaks_after, sent_front, sent_whole}

-- a text was put on an empty page and sent, and then the end of it
pub given_by : {X E : Type 0} (result : Result X E) (a b c : Option (List ℕ)) (p q r text : List ℕ) → p ≡ [] → Sends a b p q text
    → OnOk result (Sends b c q r []) → OnOk result (r ≡ []) → OnErr result (Breaks b c q []) → IsGiven (record { code = 0; text = text }) a c 0 (is_ok result)
given_by (Ok x) a b c p q r text empty first second none broken =
    record { is_code = refl; written = length text; is_written = sent_whole a b c q r text (subst (λ (w : List ℕ). Sends a b w q text) empty first) second none }
given_by (Err e) a b c p q r text empty first second none broken =
    let start : Sends a b [] q text = subst (λ (w : List ℕ). Sends a b w q text) empty first in
    let cut : Breaks a c [] text = subst (Breaks a c []) (append-nil text) (breaks_after a b c [] q text [] start broken) in
    record { is_code = refl; written = cut.written; is_written = sent_front a c text cut }
