-- What the sink did of all faults, by how the search ended and by whether the writer failed.
use Rattle.std.proofs.Common.{◌≡◌, ℕ, Bool, true, false, List, [], ◌++◌, length, Option, Result, Ok, Err, sym, ap, ◌∙◌, subst, inl, inr, append_assoc, arith}
use Rattle.std.specs.Prelude.{◌≢◌, OnErr, OnOk, is_ok}
use Rattle.std.proofs.lemmas.Bool.{cases_eq, true≢false}
use Rattle.mt_terms.specs.declared.codes.TheConstants.{OUT_OF_MEMORY}
use Rattle.mt_fault_terms.specs.Faults.{FileFault}
use Rattle.mt_fault_sink.specs.Telling.{Tells}
use Rattle.mt_fault_sink.specs.declared.fault.FaultEnd.{FaultEnd}
use Rattle.mt_fault_sink.specs.declared.fault.FaultEnd.TheVariants.{Memory, Stopped as StoppedEnd}
use Rattle.mt_report.specs.Drains.{contents_of}
use Rattle.mt_report.specs.declared.drain.Drain.{Drain}
use Rattle.mt_pages.specs.Sending.{Breaks, Sends}
use Rattle.mt_fault_text.specs.Answer.{AreListed, refusal}
use Rattle.mt_fault_text.specs.Text.{count_line, fault_lines}
use Rattle.mt_fault_text.proofs.AnswerFacts.{cut_broken, given_broken, listed_front, listed_whole}
use Rattle.mt_fault_text.specs.Sinking.{CanTake, Failed, Stopped, Wrote}
use Rattle.mt_fault_text.specs.declared.sink.FaultLines.{FaultLines}

-- a fact of the first of some faults, and the others
pub record AtFront (faults : List FileFault) (P : List FileFault → Type 0) : Type 0 where
  pub front : List FileFault
  pub others : List FileFault
  pub all : front ++ others ≡ faults
  pub holds : P front

module _ {W E : Type 0} (contents : W → Option (List ℕ)) (a b : FaultLines W E) (faults : List FileFault) where
  not_broken : (P : Type 0) → CanTake b → b.is_broken ≡ true → P
  not_broken P can broken = absurd (true≢false (sym broken ∙ can.whole))

  by_stop : (rest : List FileFault) (some : List FileFault) → faults ≡ some ++ rest → Stopped contents a b some → b.is_broken ≡ true → AtFront faults (Failed contents a b)
  by_stop rest some all (inl failed) broken = record { front = some; others = rest; all = sym all; holds = failed }
  by_stop rest some all (inr full) broken = not_broken _ full.can_take broken

  -- the writer failed
  pub failed_at : {X : Type 0} (end : Result X FaultEnd) → Tells CanTake (Wrote contents) (Stopped contents) a b faults end → b.is_broken ≡ true
      → AtFront faults (Failed contents a b)
  failed_at (Ok x) tells broken = not_broken _ tells.0 broken
  failed_at (Err Memory) tells broken = not_broken _ tells.0 broken
  failed_at (Err StoppedEnd) tells broken = by_stop tells.rest tells.some tells.parts tells.holds broken

  by_full : (rest : List FileFault) (some : List FileFault) → faults ≡ some ++ rest → Stopped contents a b some → b.is_broken ≡ false
      → CanTake b × AtFront faults (Wrote contents a b)
  by_full rest some all (inl failed) whole = absurd (true≢false (sym failed.broken ∙ whole))
  by_full rest some all (inr full) whole = (
    full.can_take,
    record {
      front = full.front;
      others = full.others ++ rest;
      all = sym (append_assoc full.front full.others rest) ∙ ap (λ (faults : List FileFault). faults ++ rest) full.all ∙ sym all;
      holds = full.wrote;
    },
  )

  -- the search ended before the last fault, and the writer didn't fail
  pub wrote_front : {X : Type 0} (end : Result X FaultEnd) (e : FaultEnd) → end ≡ Err e → Tells CanTake (Wrote contents) (Stopped contents) a b faults end → b.is_broken ≡ false
      → CanTake b × AtFront faults (Wrote contents a b)
  wrote_front (Ok x) e is tells whole = absurd cc
  wrote_front (Err Memory) e is tells whole = (tells.0, record { front = tells.1.some; others = tells.1.rest; all = sym tells.1.parts; holds = tells.1.holds })
  wrote_front (Err StoppedEnd) e is tells whole = by_full tells.rest tells.some tells.parts tells.holds whole

-- What is left behind the drain that the sink held is what the drain's last call left there.
abbrev IsLast : {W E : Type 0} → FaultLines W E → FaultLines W E → Drain W → Drain W → Type 0
IsLast a b d last = a.drain.ghost_name ≡ b.drain.ghost_name → d ≡ last

-- the lines of some faults were sent, from an empty page on
sent_lines : {W E : Type 0} (contents : W → Option (List ℕ)) (a b : FaultLines W E) (text : List ℕ) (faults : List FileFault)
    → a.page ≡ [] → a.numbers ≡ text → Wrote contents a b faults
    → Sends (contents_of contents a.drain.now) (contents_of contents b.drain.now) [] b.page (fault_lines text faults)
sent_lines contents a b text faults empty same wrote =
    let old : Option (List ℕ) = contents_of contents a.drain.now in
    let new : Option (List ℕ) = contents_of contents b.drain.now in
    let on_page : Sends old new [] b.page (fault_lines a.numbers faults) = subst (λ (page : List ℕ). Sends old new page b.page (fault_lines a.numbers faults)) empty wrote.sends in
    subst (λ (t : List ℕ). Sends old new [] b.page (fault_lines t faults)) same on_page

module _ {W E : Type 0} (contents : W → Option (List ℕ)) (a b : FaultLines W E) (text : List ℕ) (faults : List FileFault) (code : ℕ) (d : Drain W)
    (empty : a.page ≡ []) (same : a.numbers ≡ text) where
  -- the writer failed within the lines
  pub listed_broken : {X : Type 0} (end : Result X FaultEnd) (found : ℕ) → Tells CanTake (Wrote contents) (Stopped contents) a b faults end → b.is_broken ≡ true
      → IsLast a b d b.drain.now → (found ≢ OUT_OF_MEMORY → found ≡ code)
      → AreListed code text faults (contents_of contents a.drain.now) (contents_of contents d) found false
  listed_broken end found tells broken is_last is_code =
      let at = failed_at contents a b faults end tells broken in
      let old : Option (List ℕ) = contents_of contents a.drain.now in
      let new : Option (List ℕ) = contents_of contents b.drain.now in
      let on_page : Breaks old new [] (fault_lines a.numbers at.front) = subst (λ (page : List ℕ). Breaks old new page (fault_lines a.numbers at.front)) empty at.holds.breaks in
      let breaks : Breaks old new [] (fault_lines text at.front) = subst (λ (t : List ℕ). Breaks old new [] (fault_lines t at.front)) same on_page in
      let given : AreListed code text faults old new code false = inl (given_broken code old new text at.front at.others faults at.all breaks) in
      let cut : AreListed code text faults old new OUT_OF_MEMORY false = inr (cut_broken old new text at.front at.others faults at.all breaks) in
      let listed : AreListed code text faults old new found false = elim (cases_eq found OUT_OF_MEMORY) [
        | inl memory ↦ subst (λ (c : ℕ). AreListed code text faults old new c false) (sym memory) cut
        | inr some ↦ subst (λ (c : ℕ). AreListed code text faults old new c false) (sym (is_code some)) given
      ] in
      subst (λ (x : Drain W). AreListed code text faults old (contents_of contents x) found false) (sym (is_last (sym at.holds.same_drain))) listed

  -- all lines went to the page, and then their number
  pub listed_whole_by : {X F : Type 0} (result : Result X F) (last : Drain W) (whole : Bool) → whole ≡ is_ok result → a.count ≡ 0 → Wrote contents a b faults
      → IsLast a b d last → OnOk result (Sends (contents_of contents b.drain.now) (contents_of contents last) b.page [] (count_line b.count))
      → OnErr result (Breaks (contents_of contents b.drain.now) (contents_of contents last) b.page (count_line b.count))
      → AreListed code text faults (contents_of contents a.drain.now) (contents_of contents d) code whole
  listed_whole_by result last whole is_whole none wrote is_last sends breaks =
      let old : Option (List ℕ) = contents_of contents a.drain.now in
      let count : b.count ≡ length faults = omega (arith, wrote.counted) in
      let listed : AreListed code text faults old (contents_of contents last) code (is_ok result) =
      listed_whole result code text faults old (contents_of contents b.drain.now) (contents_of contents last) b.page b.count count
      (sent_lines contents a b text faults empty same wrote) sends breaks in
      let here : AreListed code text faults old (contents_of contents d) code (is_ok result) =
      subst (λ (x : Drain W). AreListed code text faults old (contents_of contents x) code (is_ok result)) (sym (is_last (sym wrote.same_drain))) listed in
      subst (λ (w : Bool). AreListed code text faults old (contents_of contents d) code w) (sym is_whole) here

  -- the first lines went to the page, and then the refusal for want of memory
  pub listed_front_by : {X F : Type 0} (result : Result X F) (last : Drain W) (whole : Bool) → whole ≡ is_ok result → AtFront faults (Wrote contents a b)
      → IsLast a b d last → OnOk result (Sends (contents_of contents b.drain.now) (contents_of contents last) b.page [] (refusal OUT_OF_MEMORY))
      → OnErr result (Breaks (contents_of contents b.drain.now) (contents_of contents last) b.page (refusal OUT_OF_MEMORY))
      → AreListed code text faults (contents_of contents a.drain.now) (contents_of contents d) OUT_OF_MEMORY whole
  listed_front_by result last whole is_whole at is_last sends breaks =
      let old : Option (List ℕ) = contents_of contents a.drain.now in
      let listed : AreListed code text faults old (contents_of contents last) OUT_OF_MEMORY (is_ok result) =
      listed_front result code text at.front at.others faults old (contents_of contents b.drain.now) (contents_of contents last) b.page at.all
      (sent_lines contents a b text at.front empty same at.holds) sends breaks in
      let here : AreListed code text faults old (contents_of contents d) OUT_OF_MEMORY (is_ok result) =
      subst (λ (x : Drain W). AreListed code text faults old (contents_of contents x) OUT_OF_MEMORY (is_ok result)) (sym (is_last (sym at.holds.same_drain))) listed in
      subst (λ (w : Bool). AreListed code text faults old (contents_of contents d) OUT_OF_MEMORY w) (sym is_whole) here
