-- What a program over two files does to what it reads and to what it writes.
use Rattle.std.specs.Prelude.{◌≡◌, ◌⊎◌, ◌+◌, ◌<◌, ◌↔◌, ℕ, Bool, List, Option, if◌then◌else◌, IsTrue}
use Rattle.mt_lists.specs.Tap.{failures_of as read_failures_of}
use Rattle.mt_lists.specs.declared.tap.Tap.{Tap}
use Rattle.mt_terms.specs.declared.codes.TheConstants.{READ_FAULT}
use Rattle.mt_report.specs.Drains.{failures_of, is_flushed}
use Rattle.mt_report.specs.declared.drain.Drain.{Drain}
use Rattle.mt_input.specs.Left.{TakesFile}

-- Each file was read, or a part of it. The code is that of a failed read exactly if a read failed. The writer failed
-- once if the text wasn't written whole, and else not at all. It was flushed after a whole text.
pub record UsesFiles {R S W : Type 0} (in_market : R → Option (List ℕ)) (in_match : S → Option (List ℕ)) (market market_after : Tap R) (matched matched_after : Tap S) (drain drain_after : Drain W) (code : ℕ) (whole : Bool) : Type 0 where
  pub market_taken : TakesFile in_market market market_after
  pub match_taken : TakesFile in_match matched matched_after
  pub fault : (code ≡ READ_FAULT)
      ↔ ((read_failures_of market < read_failures_of market_after) ⊎ (read_failures_of matched < read_failures_of matched_after))
  pub writer : failures_of drain_after ≡ failures_of drain + (if whole then 0 else 1)
  pub flushed : IsTrue whole → IsTrue (is_flushed drain_after)
