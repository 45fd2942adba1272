-- How a text goes to a writer by way of a page.
use Rattle.std.specs.Prelude.{◌≡◌, ℕ, ◌+◌, ◌≤◌, List, ◌++◌, length, take, Option}
use Rattle.std.specs.Io.KnownBytes.{Appends}
use Rattle.mt_report.specs.Drains.{contents_of, failures_of}
use Rattle.mt_report.specs.declared.drain.Drain.{Drain}

-- The writer took some bytes. With what is on the page now they are what was on it before, and more.
pub record Sends (old new : Option (List ℕ)) (before after more : List ℕ) : Type 0 where
  pub sent : List ℕ
  pub appended : Appends old new sent
  pub all : sent ++ after ≡ before ++ more

-- The writer failed. It took the first bytes of what was on the page, and of what should come after that.
pub record Breaks (old new : Option (List ℕ)) (before more : List ℕ) : Type 0 where
  pub written : ℕ
  pub appended : Appends old new (take written (before ++ more))
  pub within : written ≤ length (before ++ more)

-- This text came after what was on the page. The last of it may still be on the page. The writer didn't fail.
pub record IsSent {W : Type 0} (contents : W → Option (List ℕ)) (old new : Drain W) (before after text : List ℕ) : Type 0 where
  pub sends : Sends (contents_of contents old) (contents_of contents new) before after text
  pub none_failed : failures_of new ≡ failures_of old

-- The writer failed once, within what was on the page and this text after it.
pub record IsCut {W : Type 0} (contents : W → Option (List ℕ)) (old new : Drain W) (before text : List ℕ) : Type 0 where
  pub breaks : Breaks (contents_of contents old) (contents_of contents new) before text
  pub one_failed : failures_of new ≡ failures_of old + 1
