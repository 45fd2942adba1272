-- What a program's answer to a proposal by ranks says of applicants.
use Rattle.std.specs.Prelude.{◌≡◌, ℕ, ◌<◌, not, ◌&&◌, List, length, slice_index, if◌then◌else◌}
use Rattle.std.specs.List.{find}
use Rattle.mt_terms.specs.Lists.{Set, with_one}
use Rattle.mt_terms.specs.Market.{Program}
use Rattle.mt_terms.specs.Choice.{choice}
use Rattle.mt_terms.specs.Floor.{kept_reply}
use Rattle.mt_hold.specs.declared.holding.Taken.{Taken}
use Rattle.mt_hold.specs.declared.holding.Taken.TheVariants as taken
use Rattle.mt_terms.specs.declared.events.Reply.{Reply}
use Rattle.mt_terms.specs.declared.events.Reply.TheVariants.{Kept, KeptInstead, Refused}

-- the reply for an answer by ranks on this list
abbrev pub reply_from : List ℕ → Taken → Reply
reply_from ranking taken.Kept = Kept
reply_from ranking (taken.KeptInstead rank) = KeptInstead (slice_index ranking rank)
reply_from ranking taken.Refused = Refused

-- an answer names no rank that isn't on the list
abbrev pub IsAnswerOn : List ℕ → Taken → Type 0
IsAnswerOn ranking answer = (rank : ℕ) → answer ≡ taken.KeptInstead rank → rank < length ranking

-- the reply of a program that has received proposals from these applicants to one more
abbrev pub reply_to : Program → Set → ℕ → Reply
reply_to p set a =
    if choice p (with_one set a) a then kept_reply (find (λ b. choice p set b && not (choice p (with_one set a) b)) p.ranking) else Refused
