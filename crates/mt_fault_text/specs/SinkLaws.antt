-- What the sink of faults did in turn is what it did in all. Each law is that of the bytes, and of the lines of two lists of
-- faults one after another.
use Rattle.std.proofs.Common.{◌≡◌, ℕ, ◌+◌, List, [], ◌∷◌, ◌++◌, length, Option, Some, refl, sym, ap, ◌∙◌, subst, inl, inr, append_assoc, length-append}
use Rattle.std.proofs.lemmas.Grind.{flat_map-append}
use Rattle.std.proofs.lemmas.List.{append-nil}
use Rattle.std.proofs.Math.Nat.{add-zero, add_assoc}
use Rattle.mt_report.specs.Drains.{contents_of}
use Rattle.mt_pages.specs.Sending.{Breaks, Sends}
use Rattle.mt_pages.proofs.SendingFacts.{breaks_after, sends_put, sends_then}
use Rattle.mt_fault_terms.specs.Faults.{FileFault}
use Rattle.mt_fault_text.specs.Named.{named_after, named_with}
use Rattle.mt_fault_text.specs.Sinking.{Failed, IsFull, Stopped, Wrote}
use Rattle.mt_fault_text.specs.Text.{fault_line, fault_lines}
use Rattle.mt_fault_text.specs.declared.sink.FaultLines.{FaultLines}

-- the lines of faults and more
pub lines_more : (text : List ℕ) (some more : List FileFault) → fault_lines text (some ++ more) ≡ fault_lines text some ++ fault_lines text more
lines_more text some more = flat_map-append (fault_line text) some more

-- the code that a match names of faults and more
named_more : (named : Option ℕ) (some more : List FileFault) → named_after named (some ++ more) ≡ named_after (named_after named some) more
named_more named [] more = refl
named_more named (fault ∷ some) more = named_more (Some (named_with named fault.1.code)) some more

pub wrote_none : {W E : Type 0} (contents : W → Option (List ℕ)) (s : FaultLines W E) → Wrote contents s s []
wrote_none contents s =
    let at : Option (List ℕ) = contents_of contents s.drain.now in
    record {
      same_drain = refl;
      same_text = refl;
      sends = subst (λ (page : List ℕ). Sends at at s.page page []) (append-nil s.page) (sends_put at s.page []);
      failures = refl;
      counted = sym (add-zero s.count);
      named = refl;
    }

pub wrote_more : {W E : Type 0} (contents : W → Option (List ℕ)) (a b c : FaultLines W E) (some more : List FileFault)
    → Wrote contents a b some → Wrote contents b c more → Wrote contents a c (some ++ more)
wrote_more contents a b c some more first second =
    let A : Option (List ℕ) = contents_of contents a.drain.now in
    let B : Option (List ℕ) = contents_of contents b.drain.now in
    let C : Option (List ℕ) = contents_of contents c.drain.now in
    let later : Sends B C b.page c.page (fault_lines a.numbers more) =
    subst (λ (text : List ℕ). Sends B C b.page c.page (fault_lines text more)) first.same_text second.sends in
    record {
      same_drain = second.same_drain ∙ first.same_drain;
      same_text = second.same_text ∙ first.same_text;
      sends = subst (λ (text : List ℕ). Sends A C a.page c.page text) (sym (lines_more a.numbers some more))
          (sends_then A B C a.page b.page c.page (fault_lines a.numbers some) (fault_lines a.numbers more) first.sends later);
      failures = second.failures ∙ first.failures;
      counted = second.counted ∙ ap (λ (n : ℕ). n + length more) first.counted ∙ add_assoc a.count (length some) (length more)
          ∙ ap (λ (n : ℕ). a.count + n) (sym (length-append some more));
      named = second.named ∙ ap (λ (named : Option ℕ). named_after named more) first.named ∙ sym (named_more a.named some more);
    }

failed_after : {W E : Type 0} (contents : W → Option (List ℕ)) (a b c : FaultLines W E) (some more : List FileFault)
    → Wrote contents a b some → Failed contents b c more → Failed contents a c (some ++ more)
failed_after contents a b c some more first failed =
    let A : Option (List ℕ) = contents_of contents a.drain.now in
    let B : Option (List ℕ) = contents_of contents b.drain.now in
    let C : Option (List ℕ) = contents_of contents c.drain.now in
    let later : Breaks B C b.page (fault_lines a.numbers more) =
    subst (λ (text : List ℕ). Breaks B C b.page (fault_lines text more)) first.same_text failed.breaks in
    record {
      same_drain = failed.same_drain ∙ first.same_drain;
      broken = failed.broken;
      breaks = subst (λ (text : List ℕ). Breaks A C a.page text) (sym (lines_more a.numbers some more))
          (breaks_after A B C a.page b.page (fault_lines a.numbers some) (fault_lines a.numbers more) first.sends later);
      failures = failed.failures ∙ ap (λ (n : ℕ). n + 1) first.failures;
    }

full_after : {W E : Type 0} (contents : W → Option (List ℕ)) (a b c : FaultLines W E) (some more : List FileFault)
    → Wrote contents a b some → IsFull contents b c more → IsFull contents a c (some ++ more)
full_after contents a b c some more first full = record {
  front = some ++ full.front;
  others = full.others;
  all = append_assoc some full.front full.others ∙ ap (λ (faults : List FileFault). some ++ faults) full.all;
  can_take = full.can_take;
  full = full.full;
  wrote = wrote_more contents a b c some full.front first full.wrote;
}

pub stopped_after : {W E : Type 0} (contents : W → Option (List ℕ)) (a b c : FaultLines W E) (some more : List FileFault)
    → Wrote contents a b some → Stopped contents b c more → Stopped contents a c (some ++ more)
stopped_after contents a b c some more first (inl failed) = inl (failed_after contents a b c some more first failed)
stopped_after contents a b c some more first (inr full) = inr (full_after contents a b c some more first full)
