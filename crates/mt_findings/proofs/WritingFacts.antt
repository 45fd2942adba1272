-- Lines of findings, one after another: what was written of two lists in turn was written of both, and a writer that
-- failed within some of them failed within all.
use Rattle.std.proofs.Common.{◌≡◌, ℕ, zero, suc, ◌+◌, ◌^◌, ◌<◌, List, [], ◌++◌, length, Option, Result, Ok, Err, refl, sym, ap, ◌∙◌, subst, arith, length-append}
use Rattle.std.specs.Prelude.{IsErrAnd, OnErr, OnOk, is_ok}
use Rattle.std.proofs.lemmas.Grind.{flat_map-append}
use Rattle.std.proofs.lemmas.List.{append-nil}
use Rattle.std.proofs.Math.Nat.{add-zero, add_assoc}
use Rattle.mt_terms.specs.Market.{Registered}
use Rattle.mt_report.specs.Drains.{contents_of}
use Rattle.mt_report.specs.declared.drain.Drain.{Drain}
use Rattle.mt_first_finding.specs.Text.{finding_line}
use Rattle.mt_first_finding.specs.declared.finding.Finding.{Finding}
use Rattle.mt_files.specs.Answer.{IsGiven}
use Rattle.mt_pages.specs.Sending.{Breaks, Sends}
use Rattle.mt_pages.proofs.SendingFacts.{breaks_after, breaks_more, sends_put, sends_then, sent_front, sent_whole}
use Rattle.mt_findings.specs.Answer.{found_answer, number_code}
use Rattle.mt_findings.specs.Text.{finding_lines, last_line}
use Rattle.mt_findings.specs.Writing.{Failed, Wrote}
use Rattle.mt_findings.specs.declared.lines.FindingLines.{FindingLines}

lines-append : (r : Registered) (some more : List Finding) → finding_lines r (some ++ more) ≡ finding_lines r some ++ finding_lines r more
lines-append r some more = flat_map-append (finding_line r 0) some more

module _ {W : Type 0} (contents : W → Option (List ℕ)) (r : Registered) where
  pub wrote_none : (d : Drain W) (a : FindingLines) → Wrote contents r d d a a []
  wrote_none d a =
      let at : Option (List ℕ) = contents_of contents d in
      record {
        sends = subst (λ (page : List ℕ). Sends at at a.page page []) (append-nil a.page) (sends_put at a.page []);
        counted = sym (add-zero a.count);
        none_failed = refl;
      }

  pub wrote_then : (d e f : Drain W) (a b c : FindingLines) (some more : List Finding) → Wrote contents r d e a b some → Wrote contents r e f b c more
      → Wrote contents r d f a c (some ++ more)
  wrote_then d e f a b c some more first second = record {
    sends = subst (Sends (contents_of contents d) (contents_of contents f) a.page c.page) (sym (lines-append r some more))
        (sends_then _ _ _ _ _ _ _ _ first.sends second.sends);
    counted = second.counted ∙ ap (λ (n : ℕ). n + length more) first.counted ∙ add_assoc a.count (length some) (length more)
        ∙ ap (λ (n : ℕ). a.count + n) (sym (length-append some more));
    none_failed = second.none_failed ∙ first.none_failed;
  }

  -- the writer failed after some findings, and within those that came next
  pub failed_then : (d e f : Drain W) (a b c : FindingLines) (some more : List Finding) → Wrote contents r d e a b some → Failed contents r e f b c more
      → Failed contents r d f a c (some ++ more)
  failed_then d e f a b c some more first failed = record {
    breaks = subst (Breaks (contents_of contents d) (contents_of contents f) a.page) (sym (lines-append r some more))
        (breaks_after _ _ _ _ _ _ _ first.sends failed.breaks);
    some = let sizes = length-append some more in let part = failed.some in omega arith;
    counted = failed.counted;
    one_failed = failed.one_failed ∙ ap (λ (n : ℕ). n + 1) first.none_failed;
  }

  -- and others should have come later
  pub failed_more : (d e : Drain W) (a b : FindingLines) (some more : List Finding) → Failed contents r d e a b some → Failed contents r d e a b (some ++ more)
  failed_more d e a b some more failed = record {
    breaks = subst (Breaks (contents_of contents d) (contents_of contents e) a.page) (sym (lines-append r some more)) (breaks_more _ _ _ _ _ failed.breaks);
    some = let sizes = length-append some more in let part = failed.some in omega arith;
    counted = failed.counted;
    one_failed = failed.one_failed;
  }

  pub failed_within : (d e f : Drain W) (a b c : FindingLines) (some more rest all : List Finding) → Wrote contents r d e a b some → Failed contents r e f b c more
      → some ++ (more ++ rest) ≡ all → Failed contents r d f a c all
  failed_within d e f a b c some more rest all first failed is =
      subst (Failed contents r d f a c) is (failed_then d e f a b c some (more ++ rest) first (failed_more e f b c more rest failed))

-- The lists of the four kinds are known by other names, and so is the market.
module _ {W : Type 0} (contents : W → Option (List ℕ)) (q r : Registered) (market : q ≡ r) (d e : Drain W) (a b : FindingLines) (some found : List Finding) (same : some ≡ found) where
  pub wrote_as : Wrote contents q d e a b some → Wrote contents r d e a b found
  wrote_as wrote = subst (Wrote contents r d e a b) same (subst (λ (x : Registered). Wrote contents x d e a b some) market wrote)

  pub failed_as : Failed contents q d e a b some → Failed contents r d e a b found
  failed_as failed = subst (Failed contents r d e a b) same (subst (λ (x : Registered). Failed contents x d e a b some) market failed)

-- a count has room for what comes next, if it has room for all
pub room_for : (count start : ℕ) (some more rest all : List Finding) → count ≡ start + length some → some ++ (more ++ rest) ≡ all → start + length all < 2 ^ 64
    → count + length more < 2 ^ 64
room_for count start some more rest all counted is few =
    let sizes : length some + (length more + length rest) ≡ length all =
    ap (λ (n : ℕ). length some + n) (sym (length-append more rest)) ∙ sym (length-append some (more ++ rest)) ∙ ap length is in
    omega arith

code_of_some : (n : ℕ) → 0 < n → 1 ≡ number_code n
code_of_some zero some = absurd (omega arith)
code_of_some (suc n) some = refl

-- the code is that of all findings also if the writer failed
pub same_code : (n k : ℕ) → 0 < n → 0 < k → number_code n ≡ number_code k
same_code n k some other = sym (code_of_some n some) ∙ code_of_some k other

module _ {W : Type 0} (contents : W → Option (List ℕ)) (r : Registered) where
  given_finished : {X E : Type 0} (result : Result X E) (d e f : Drain W) (a b : FindingLines) (after aside : ℕ) (found : List Finding)
      → a.page ≡ [] → a.count ≡ 0 → Wrote contents r d e a b found → after ≡ b.count
      → OnOk result (Sends (contents_of contents e) (contents_of contents f) b.page [] (last_line aside b.count))
      → OnErr result (Breaks (contents_of contents e) (contents_of contents f) b.page (last_line aside b.count))
      → IsGiven (found_answer r aside found) (contents_of contents d) (contents_of contents f) (number_code after) (is_ok result)
  given_finished (Ok x) d e f a b after aside found empty start wrote same sends breaks =
      let at : Option (List ℕ) = contents_of contents f in
      let counted : b.count ≡ length found = omega (arith, wrote.counted, start) in
      let whole : Sends (contents_of contents d) at [] [] (finding_lines r found ++ last_line aside (length found)) =
      subst (λ (page : List ℕ). Sends (contents_of contents d) at page [] (finding_lines r found ++ last_line aside (length found))) empty
      (subst (λ (n : ℕ). Sends (contents_of contents d) at a.page [] (finding_lines r found ++ last_line aside n)) counted
      (sends_then _ _ _ _ _ _ _ _ wrote.sends sends)) in
      record {
        is_code = ap number_code (same ∙ counted);
        written = length (finding_lines r found ++ last_line aside (length found));
        is_written = sent_whole (contents_of contents d) at at [] [] (finding_lines r found ++ last_line aside (length found)) whole (sends_put at [] []) refl;
      }
  given_finished (Err x) d e f a b after aside found empty start wrote same sends breaks =
      let at : Option (List ℕ) = contents_of contents f in
      let counted : b.count ≡ length found = omega (arith, wrote.counted, start) in
      let cut : Breaks (contents_of contents d) at [] (finding_lines r found ++ last_line aside (length found)) =
      subst (λ (page : List ℕ). Breaks (contents_of contents d) at page (finding_lines r found ++ last_line aside (length found))) empty
      (subst (λ (n : ℕ). Breaks (contents_of contents d) at a.page (finding_lines r found ++ last_line aside n)) counted
      (breaks_after _ _ _ _ _ _ _ wrote.sends breaks)) in
      record {
        is_code = ap number_code (same ∙ counted);
        written = cut.written;
        is_written = sent_front (contents_of contents d) at (finding_lines r found ++ last_line aside (length found)) cut;
      }

  -- an empty page, all findings, and the last line, which has this number of couples set aside
  pub given_all : {X E : Type 0} (result : Result X E) (d e f : Drain W) (a b : FindingLines) (after told aside : ℕ) (found : List Finding) → told ≡ aside
      → a.page ≡ [] → a.count ≡ 0 → Wrote contents r d e a b found → after ≡ b.count
      → OnOk result (Sends (contents_of contents e) (contents_of contents f) b.page [] (last_line told b.count))
      → OnErr result (Breaks (contents_of contents e) (contents_of contents f) b.page (last_line told b.count))
      → IsGiven (found_answer r aside found) (contents_of contents d) (contents_of contents f) (number_code after) (is_ok result)
  given_all result d e f a b after told aside found is empty start wrote same sends breaks =
      subst (λ (n : ℕ). IsGiven (found_answer r n found) (contents_of contents d) (contents_of contents f) (number_code after) (is_ok result)) is
      (given_finished result d e f a b after told found empty start wrote same sends breaks)

  -- an empty page, and a writer that failed within the findings
  pub given_broken : {X E : Type 0} (result : Result X E) (error : E) (d e : Drain W) (a b : FindingLines) (aside : ℕ) (found : List Finding)
      → IsErrAnd result (λ y. y ≡ error) → a.page ≡ [] → Failed contents r d e a b found
      → IsGiven (found_answer r aside found) (contents_of contents d) (contents_of contents e) (number_code b.count) (is_ok result)
  given_broken (Ok x) error d e a b aside found is empty failed = absurd is
  given_broken (Err y) error d e a b aside found is empty failed =
      let cut : Breaks (contents_of contents d) (contents_of contents e) [] (finding_lines r found ++ last_line aside (length found)) =
      subst (λ (page : List ℕ). Breaks (contents_of contents d) (contents_of contents e) page (finding_lines r found ++ last_line aside (length found))) empty
      (breaks_more _ _ _ _ _ failed.breaks) in
      record {
        is_code = same_code b.count (length found) failed.counted failed.some;
        written = cut.written;
        is_written = sent_front (contents_of contents d) (contents_of contents e) (finding_lines r found ++ last_line aside (length found)) cut;
      }

-- a page that was sent if there was too little room, and the last line put on it
on_page : (a b : Option (List ℕ)) (p q next last : List ℕ) → Sends a b p q [] → next ≡ q ++ last → Sends a b p next last
on_page a b p q next last room put = subst (λ (page : List ℕ). Sends a b p page last) (sym put) (sends_then a b b p q (q ++ last) [] last room (sends_put b q last))

-- and then all of it was sent, or its first bytes
pub sent_last : {X E : Type 0} (result : Result X E) (a b c : Option (List ℕ)) (p q next s last : List ℕ) → Sends a b p q [] → next ≡ q ++ last
    → OnOk result (Sends b c next s []) → OnOk result (s ≡ []) → OnOk result (Sends a c p [] last)
sent_last (Ok x) a b c p q next s last room put sent empty =
    subst (λ (page : List ℕ). Sends a c p page last) empty
    (subst (Sends a c p s) (append-nil last) (sends_then a b c p next s last [] (on_page a b p q next last room put) sent))
sent_last (Err e) a b c p q next s last room put sent empty = tt

pub broken_last : {X E : Type 0} (result : Result X E) (a b c : Option (List ℕ)) (p q next last : List ℕ) → Sends a b p q [] → next ≡ q ++ last
    → OnErr result (Breaks b c next []) → OnErr result (Breaks a c p last)
broken_last (Ok x) a b c p q next last room put broken = tt
broken_last (Err e) a b c p q next last room put broken =
    subst (Breaks a c p) (append-nil last) (breaks_after a b c p next last [] (on_page a b p q next last room put) broken)
