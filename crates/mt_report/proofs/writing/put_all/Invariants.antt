use Rattle.std.proofs.Common.{length, ◌-◌, ◌≡◌, ◌≤◌, take}
use Rattle.std.specs.Io.KnownBytes.{Appends}
use Rattle.mt_report.specs.Drains.{contents_of, failures_of}
use Rattle.mt_report.proofs.writing.put_all.Given as goal

-- the bytes that were taken so far are appended, and nothing failed yet
abbrev pub invariant-loop-written : goal.invariant-loop-written
invariant-loop-written g l =
    let contents = g.W.Write.contents in
    record {
      within : l.written ≤ length l.bytes;
      appended : Appends (contents_of contents l.fn.drain) (contents_of contents l.drain) (take l.written l.bytes);
      failures : failures_of l.drain ≡ failures_of l.fn.drain;
    }

abbrev pub decreases-loop-written : goal.decreases-loop-written
decreases-loop-written g l = length l.bytes - l.written
