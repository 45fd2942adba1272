-- An input without the mark at its start is the text that the code strips, or the input if it has no mark.
use Rattle.std.proofs.Common.{◌≡◌, ◌≢◌, ℕ, List, ◌++◌, refl}
use Rattle.mt_lists.specs.Records.{mark, without_mark}
use Rattle.mt_lists.proofs.MarkFacts.{no_mark}

pub marked : (bytes text : List ℕ) → bytes ≡ mark ++ text → text ≡ without_mark bytes
marked bytes text e = rw e refl

pub unmarked : (bytes : List ℕ) → ((text : List ℕ) → bytes ≢ mark ++ text) → bytes ≡ without_mark bytes
unmarked bytes none = rw (no_mark bytes none) refl
