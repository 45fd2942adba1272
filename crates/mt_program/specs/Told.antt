-- What a program did that wrote one text and ended.
use Rattle.std.specs.Prelude.{◌≡◌, ℕ, ◌+◌, Bool, List, Option, if◌then◌else◌}
use Rattle.mt_report.specs.Drains.{IsWritten, contents_of, failures_of}
use Rattle.mt_report.specs.declared.drain.Drain.{Drain}

-- The program wrote a text. If the writer failed, it wrote the first bytes of the text. It ends with the one status if
-- the writer didn't fail, and with the other if it did.
pub record IsTold {W : Type 0} (contents : W → Option (List ℕ)) (old new : Drain W) (text : List ℕ) (done undone status : ℕ) : Type 0 where
  pub written : ℕ
  pub whole : Bool
  pub is_written : IsWritten text (contents_of contents old) (contents_of contents new) written whole
  pub failures : failures_of new ≡ failures_of old + (if whole then 0 else 1)
  pub is_status : status ≡ (if whole then done else undone)
