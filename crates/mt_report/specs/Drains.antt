-- What a clause reads of a drain: how often its writer failed, and whether no byte that it took waits for a flush.
-- The bytes that the writer holds are known only if the writer tells them.
use Rattle.std.specs.Prelude.{◌≡◌, ℕ, ◌≤◌, Bool, List, length, take, Option, IsTrue}
use Rattle.std.specs.Io.KnownBytes.{Appends}
use Rattle.mt_report.specs.declared.drain.Drain.{Drain}

-- how often the writer under a drain has failed
abbrev pub failures_of : {W : Type 0} → Drain W → ℕ
failures_of d = d.failures

-- whether no byte that the writer took waits for a flush
abbrev pub is_flushed : {W : Type 0} → Drain W → Bool
is_flushed d = d.flushed

-- the bytes that the writer under a drain holds, if writers of its type report them
abbrev pub contents_of : {W : Type 0} → (W → Option (List ℕ)) → Drain W → Option (List ℕ)
contents_of contents d = contents d.writer

-- The writer took the first bytes of a text, as many as were written. It took all of them if nothing failed.
pub record IsWritten (text : List ℕ) (old new : Option (List ℕ)) (written : ℕ) (whole : Bool) : Type 0 where
  pub appended : Appends old new (take written text)
  pub within : written ≤ length text
  pub all : IsTrue whole → written ≡ length text
