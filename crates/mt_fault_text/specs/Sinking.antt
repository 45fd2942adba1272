-- What the sink of faults did between two of its states.
use Rattle.std.specs.Prelude.{◌≡◌, ◌⊎◌, ℕ, ◌+◌, ◌<◌, ◌^◌, false, true, List, ◌++◌, length, Option}
use Rattle.mt_report.specs.Drains.{contents_of, failures_of}
use Rattle.mt_pages.specs.Sending.{Breaks, Sends}
use Rattle.mt_fault_terms.specs.Faults.{FileFault}
use Rattle.mt_fault_text.specs.Named.{named_after}
use Rattle.mt_fault_text.specs.Text.{fault_lines}
use Rattle.mt_fault_text.specs.declared.sink.FaultLines.{FaultLines}

-- it can take another fault: it isn't broken, and there is room to count a failure
pub record CanTake {W E : Type 0} (a : FaultLines W E) : Type 0 where
  pub whole : a.is_broken ≡ false
  pub room : failures_of a.drain.now + 1 < 2 ^ 64

-- It wrote the lines of these faults, of which the last may be on its page. It has counted them, and has the code that a match names.
pub record Wrote {W E : Type 0} (contents : W → Option (List ℕ)) (a b : FaultLines W E) (faults : List FileFault) : Type 0 where
  pub same_drain : b.drain.ghost_name ≡ a.drain.ghost_name
  pub same_text : b.numbers ≡ a.numbers
  pub sends : Sends (contents_of contents a.drain.now) (contents_of contents b.drain.now) a.page b.page (fault_lines a.numbers faults)
  pub failures : failures_of b.drain.now ≡ failures_of a.drain.now
  pub counted : b.count ≡ a.count + length faults
  pub named : b.named ≡ named_after a.named faults

-- its writer failed within the lines of these faults
pub record Failed {W E : Type 0} (contents : W → Option (List ℕ)) (a b : FaultLines W E) (faults : List FileFault) : Type 0 where
  pub same_drain : b.drain.ghost_name ≡ a.drain.ghost_name
  pub broken : b.is_broken ≡ true
  pub breaks : Breaks (contents_of contents a.drain.now) (contents_of contents b.drain.now) a.page (fault_lines a.numbers faults)
  pub failures : failures_of b.drain.now ≡ failures_of a.drain.now + 1

-- it has no room to count one more, after the first of these faults
pub record IsFull {W E : Type 0} (contents : W → Option (List ℕ)) (a b : FaultLines W E) (faults : List FileFault) : Type 0 where
  pub front : List FileFault
  pub others : List FileFault
  pub all : front ++ others ≡ faults
  pub can_take : CanTake b
  pub full : b.count + 1 ≡ 2 ^ 64
  pub wrote : Wrote contents a b front

-- it stopped within these faults
abbrev pub Stopped : {W E : Type 0} → (W → Option (List ℕ)) → FaultLines W E → FaultLines W E → List FileFault → Type 0
Stopped contents a b faults = Failed contents a b faults ⊎ IsFull contents a b faults
