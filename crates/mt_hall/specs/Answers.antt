-- What an answer of `advance` shows, and what it does to the pass.
use Rattle.std.specs.Prelude.{◌≡◌, ℕ, Bool, Option, IfSome, false, true, IsTrue, slice_index_or}
use Rattle.mt_terms.specs.Lists.{has}
use Rattle.mt_terms.specs.Market.{Market, live}
use Rattle.mt_terms.specs.Best.{IsExcluded}
use Rattle.mt_terms.specs.declared.events.Reply.{Reply}
use Rattle.mt_terms.specs.declared.events.Reply.TheVariants.{Kept, KeptInstead, Refused, Noticed, NotDue}
use Rattle.mt_ranks.specs.Ranked.{Ranked}
use Rattle.mt_desks.specs.Parts.{PassView, AllAboveExcluded, one_more}
use Rattle.mt_hall.specs.declared.answer.Answer.{Answer}
use Rattle.mt_hall.specs.declared.answer.Answer.TheVariants.{Moved, Told, At, Out, Stranger}

-- A proposal went to a live entry. If it was refused, the program is excluded for the applicant. If it displaced
-- another applicant, the program is excluded for that one.
pub record IsMove (m : Market) (a to : ℕ) (kept : Bool) (displaced : Option ℕ) : Type 0 where
  pub is_live : IsTrue (has (live m a) to)
  pub refused : kept ≡ false → IsExcluded m a to
  pub fallen : IfSome displaced (λ b. IsExcluded m b to)

-- What an answer shows of the market. Each program that it names is a live entry. A program is excluded for
-- an applicant that it refused or displaced, or that learns that it isn't held. All live entries above a
-- place are excluded. If the applicant is out, all its live entries are.
abbrev pub Tells : Market → ℕ → Answer → Type 0
Tells m a (Moved to kept displaced) = IsMove m a to kept displaced
Tells m a (Told by) = IsTrue (has (live m a) by) × IsExcluded m a by
Tells m a (At place) = IsTrue (has (live m a) place) × AllAboveExcluded m a place
Tells m a Out = (p : ℕ) → IsTrue (has (live m a) p) → IsExcluded m a p
Tells m a Stranger = Unit {0}

-- the pass after an answer: with one proposal more if the answer says that one was made, and else as before
abbrev pub pass_after : PassView → ℕ → Answer → PassView
pass_after s a (Moved to kept displaced) = one_more s to a
pass_after s a (Told by) = s
pass_after s a (At place) = s
pass_after s a Out = s
pass_after s a Stranger = s

-- whether a reply is one to a proposal
abbrev pub is_of_proposal : Reply → Bool
is_of_proposal Kept = true
is_of_proposal (KeptInstead b) = true
is_of_proposal Refused = true
is_of_proposal Noticed = false
is_of_proposal NotDue = false
