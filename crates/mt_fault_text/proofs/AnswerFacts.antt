-- What was written of a file's faults is the answer, or the first bytes of it.
-- The lines come by the sink, and the end of them by way of its page: `SendingFacts` puts both together.
use Rattle.std.proofs.Common.{◌≡◌, ℕ, Bool, true, false, List, [], ◌∷◌, ◌++◌, length, Option, Result, Ok, Err, refl, sym, ap, ◌∙◌, subst, inl, inr, append_assoc, arith}
use Rattle.std.specs.Prelude.{OnErr, OnOk, is_ok}
use Rattle.std.specs.Io.KnownBytes.{Appends}
use Rattle.std.proofs.lemmas.List.{append-nil, take_all}
use Rattle.mt_report.specs.Drains.{IsWritten}
use Rattle.mt_files.specs.Answer.{IsGiven}
use Rattle.mt_pages.specs.Sending.{Breaks, Sends}
use Rattle.mt_pages.proofs.SendingFacts.{breaks_after, breaks_more, sends_put, sends_then, sent_front}
use Rattle.mt_line_numbers.specs.Records.{line_of_record}
use Rattle.mt_fault_terms.specs.Faults.{FileFault, fault_alone}
use Rattle.mt_fault_text.specs.Answer.{AreListed, IsCutGiven, faults_answer, lines_alone, refusal}
use Rattle.mt_fault_text.specs.Text.{all_lines, count_line, fault_line_at, fault_lines}
use Rattle.mt_fault_text.specs.SinkLaws.{lines_more}
use Rattle.mt_fault_text.proofs.PageFacts.{ended_err, ended_ok}
use Rattle.mt_terms.specs.declared.codes.TheConstants.{OUT_OF_MEMORY}

-- a whole text went from an empty page to the writer, and the page is empty again
pub sent_all : (a b : Option (List ℕ)) (text : List ℕ) → Sends a b [] [] text → IsWritten text a b (length text) true
sent_all a b text s =
    let all : s.sent ≡ text = sym (append-nil s.sent) ∙ s.all in
    record {
      appended = subst (Appends a b) (all ∙ sym (take_all (length text) text (omega arith))) s.appended;
      within = omega arith;
      all = λ _. refl;
    }

-- so it was given, or its first bytes
pub given_all : {X E : Type 0} (result : Result X E) (code : ℕ) (a b : Option (List ℕ)) (text : List ℕ) → OnOk result (Sends a b [] [] text)
    → OnErr result (Breaks a b [] text) → IsGiven (record { code = code; text = text }) a b code (is_ok result)
given_all (Ok x) code a b text sends breaks = record { is_code = refl; written = length text; is_written = sent_all a b text sends }
given_all (Err e) code a b text sends breaks = record { is_code = refl; written = breaks.written; is_written = sent_front a b text breaks }

-- a text on the page, and then its end
pub given_end : {X E : Type 0} (result : Result X E) (code : ℕ) (a b c : Option (List ℕ)) (q lines end : List ℕ) → Sends a b [] q lines
    → OnOk result (Sends b c q [] end) → OnErr result (Breaks b c q end) → IsGiven (record { code = code; text = lines ++ end }) a c code (is_ok result)
given_end {X} {E} (Ok x) code a b c q lines end first sends breaks = given_all {E = E} (Ok x) code a c (lines ++ end) (sends_then a b c [] q [] lines end first sends) tt
given_end {X} {E} (Err e) code a b c q lines end first sends breaks = given_all {X = X} (Err e) code a c (lines ++ end) tt (breaks_after a b c [] q lines end first breaks)

-- the writer failed within the lines of the first faults
pub given_broken : (code : ℕ) (a b : Option (List ℕ)) (text : List ℕ) (some others faults : List FileFault) → some ++ others ≡ faults
    → Breaks a b [] (fault_lines text some) → IsGiven (faults_answer code text faults) a b code false
given_broken code a b text some others faults all breaks =
    let more : Breaks a b [] (fault_lines text some ++ (fault_lines text others ++ count_line (length faults))) =
    breaks_more a b [] (fault_lines text some) (fault_lines text others ++ count_line (length faults)) breaks in
    let same : fault_lines text some ++ (fault_lines text others ++ count_line (length faults)) ≡ all_lines text faults =
    sym (append_assoc (fault_lines text some) (fault_lines text others) (count_line (length faults)))
    ∙ ap (λ (lines : List ℕ). lines ++ count_line (length faults)) (sym (lines_more text some others) ∙ ap (fault_lines text) all) in
    let whole : Breaks a b [] (all_lines text faults) = subst (Breaks a b []) same more in
    record { is_code = refl; written = whole.written; is_written = sent_front a b (all_lines text faults) whole }

-- the same if memory ran out too
pub cut_broken : (a b : Option (List ℕ)) (text : List ℕ) (some others faults : List FileFault) → some ++ others ≡ faults
    → Breaks a b [] (fault_lines text some) → IsCutGiven text faults a b OUT_OF_MEMORY false
cut_broken a b text some others faults all breaks =
    let whole : Breaks a b [] (fault_lines text some ++ refusal OUT_OF_MEMORY) = breaks_more a b [] (fault_lines text some) (refusal OUT_OF_MEMORY) breaks in
    record {
      front = some;
      others = others;
      all = all;
      given = record { is_code = refl; written = whole.written; is_written = sent_front a b (fault_lines text some ++ refusal OUT_OF_MEMORY) whole };
    }

-- the refusal alone is an answer that was cut short before the first fault
pub cut_at_once : (text : List ℕ) (faults : List FileFault) (a b : Option (List ℕ)) (code : ℕ) (whole : Bool)
    → IsGiven (record { code = OUT_OF_MEMORY; text = refusal OUT_OF_MEMORY }) a b code whole → IsCutGiven text faults a b code whole
cut_at_once text faults a b code whole given = record { front = []; others = faults; all = refl; given = given }

-- the lines of all faults and their number were written
pub listed_whole : {X E : Type 0} (result : Result X E) (code : ℕ) (text : List ℕ) (faults : List FileFault) (a b c : Option (List ℕ)) (q : List ℕ) (n : ℕ)
    → n ≡ length faults → Sends a b [] q (fault_lines text faults) → OnOk result (Sends b c q [] (count_line n)) → OnErr result (Breaks b c q (count_line n))
    → AreListed code text faults a c code (is_ok result)
listed_whole result code text faults a b c q n is first sends breaks =
    let at : ℕ → Type 0 = λ n. IsGiven (record { code = code; text = fault_lines text faults ++ count_line n }) a c code (is_ok result) in
    inl (subst at is (given_end result code a b c q (fault_lines text faults) (count_line n) first sends breaks))

-- the lines of the first faults and the refusal for want of memory were written
pub listed_front : {X E : Type 0} (result : Result X E) (code : ℕ) (text : List ℕ) (front others faults : List FileFault) (a b c : Option (List ℕ)) (q : List ℕ)
    → front ++ others ≡ faults → Sends a b [] q (fault_lines text front) → OnOk result (Sends b c q [] (refusal OUT_OF_MEMORY))
    → OnErr result (Breaks b c q (refusal OUT_OF_MEMORY)) → AreListed code text faults a c OUT_OF_MEMORY (is_ok result)
listed_front result code text front others faults a b c q all first sends breaks =
    inr (record {
      front = front;
      others = others;
      all = all;
      given = given_end result OUT_OF_MEMORY a b c q (fault_lines text front) (refusal OUT_OF_MEMORY) first sends breaks;
    })

-- the lines of the one fault of a file without records
pub alone_lines : (text : List ℕ) (code : ℕ) → lines_alone code ≡ all_lines text ((0, fault_alone code 0) ∷ [])
unfolding line_of_record
alone_lines text code = ap (λ (lines : List ℕ). lines ++ count_line 1) (sym (append-nil (fault_line_at 0 (0, fault_alone code 0))))

-- they were written, with the page empty before and after
pub given_alone : {X E : Type 0} (result : Result X E) (code : ℕ) (a b : Option (List ℕ)) (page : List ℕ) (whole : Bool) → whole ≡ is_ok result → page ≡ []
    → OnOk result (Sends a b page [] (lines_alone code)) → OnErr result (Breaks a b page (lines_alone code))
    → IsGiven (record { code = code; text = lines_alone code }) a b code whole
given_alone result code a b page whole is empty sends breaks =
    let on_ok : OnOk result (Sends a b [] [] (lines_alone code)) = subst (λ (p : List ℕ). OnOk result (Sends a b p [] (lines_alone code))) empty sends in
    let on_err : OnErr result (Breaks a b [] (lines_alone code)) = subst (λ (p : List ℕ). OnErr result (Breaks a b p (lines_alone code))) empty breaks in
    subst (λ (w : Bool). IsGiven (record { code = code; text = lines_alone code }) a b code w) (sym is) (given_all result code a b (lines_alone code) on_ok on_err)

-- a text that was on the page was sent
pub given_page : {X E : Type 0} (result : Result X E) (code : ℕ) (a b : Option (List ℕ)) (page after text : List ℕ) (whole : Bool) → whole ≡ is_ok result → page ≡ text
    → OnOk result (Sends a b page after []) → OnOk result (after ≡ []) → OnErr result (Breaks a b page [])
    → IsGiven (record { code = code; text = text }) a b code whole
given_page result code a b page after text whole is same sends empty breaks =
    let on : Sends a a [] page page = sends_put a [] page in
    let ok : OnOk result (Sends a b [] [] page) = ended_ok result a a b [] page after page on sends empty in
    let err : OnErr result (Breaks a b [] page) = ended_err result a a b [] page page on breaks in
    let given : IsGiven (record { code = code; text = page }) a b code (is_ok result) = given_all result code a b page ok err in
    let here : IsGiven (record { code = code; text = text }) a b code (is_ok result) =
    subst (λ (t : List ℕ). IsGiven (record { code = code; text = t }) a b code (is_ok result)) same given in
    subst (λ (w : Bool). IsGiven (record { code = code; text = text }) a b code w) (sym is) here
