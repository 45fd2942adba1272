-- Proposals and notices one at a time, in two orders.
use Rattle.std.specs.Prelude.{◌≡◌, ℕ, true, false, List, [], ◌∷◌}
use Rattle.mt_terms.specs.Examples.Markets
use Rattle.mt_terms.specs.Floor.{Floor, opening, after_all, replies, due_count, is_settled, is_quiet, reply_of}
use Rattle.mt_terms.specs.declared.events.Event.{Event}
use Rattle.mt_terms.specs.declared.events.Event.TheVariants.{Propose, Notice}
use Rattle.mt_terms.specs.declared.events.Reply.TheVariants.{Kept, KeptInstead, Refused, Noticed, NotDue}

-- each applicant's first wish first, and then those that were displaced
abbrev pub by_wishes : List Event
by_wishes =
    Propose 0 ∷ Propose 1 ∷ Propose 2 ∷ Notice 0 ∷ Propose 0 ∷ Notice 1 ∷ Propose 1 ∷ Notice 2 ∷ Propose 2 ∷ []

-- the last applicant first
abbrev pub from_the_last : List Event
from_the_last = Propose 2 ∷ Propose 0 ∷ Propose 0 ∷ Propose 1 ∷ Propose 1 ∷ Notice 2 ∷ []

-- how many proposals each applicant has made
abbrev pub made_by : Floor → List ℕ
made_by f = f.made 0 ∷ f.made 1 ∷ f.made 2 ∷ []

-- The replies differ with the order. The proposals made and the quiet end don't.
pub record TwoOrders : Type 0 where
  pub wishes : replies Markets.chain opening by_wishes
      ≡ Kept ∷ Kept ∷ KeptInstead 0 ∷ Noticed ∷ KeptInstead 1 ∷ Noticed ∷ KeptInstead 2 ∷ Noticed ∷ NotDue ∷ []
  pub wishes_due : due_count Markets.chain opening by_wishes ≡ 8
  pub wishes_made : made_by (after_all Markets.chain opening by_wishes) ≡ 2 ∷ 2 ∷ 1 ∷ []
  pub wishes_quiet : is_quiet Markets.chain (after_all Markets.chain opening by_wishes) ≡ true
  pub last : replies Markets.chain opening from_the_last ≡ Kept ∷ Refused ∷ Kept ∷ Refused ∷ KeptInstead 2 ∷ Noticed ∷ []
  pub last_due : due_count Markets.chain opening from_the_last ≡ 6
  pub last_made : made_by (after_all Markets.chain opening from_the_last) ≡ 2 ∷ 2 ∷ 1 ∷ []
  pub last_quiet : is_quiet Markets.chain (after_all Markets.chain opening from_the_last) ≡ true
  pub not_at_first : is_quiet Markets.chain opening ≡ false
  pub member : reply_of Markets.single_between opening (Propose 1) ≡ NotDue
  pub standing : reply_of Markets.chain (after_all Markets.chain opening (Propose 1 ∷ [])) (Propose 1) ≡ NotDue
  pub still_held : reply_of Markets.chain (after_all Markets.chain opening (Propose 1 ∷ [])) (Notice 1) ≡ NotDue
  pub dropped : is_settled Markets.chain (after_all Markets.chain opening (Propose 0 ∷ Propose 1 ∷ Propose 2 ∷ [])) 0 ≡ false
