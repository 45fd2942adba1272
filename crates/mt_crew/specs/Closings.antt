-- What the closing of a hall found.
use Rattle.std.specs.Prelude.{◌≡◌, ◌≢◌, ℕ, ◌+◌, List, length, IfNone, IfSome}
use Rattle.mt_terms.specs.Best.{proposed_to}
use Rattle.mt_terms.specs.Floor.{Floor, IsLegal, proposals_made}
use Rattle.mt_terms.specs.Lists.{total_below}
use Rattle.mt_terms.specs.Market.{Market, applicants}
use Rattle.mt_terms.specs.Matching.{Places}
use Rattle.mt_ranks.specs.Ranked.{Ranked}
use Rattle.mt_desks.specs.Parts.{PassView}
use Rattle.mt_hall.specs.Audits.{all_agree, all_proposals}
use Rattle.mt_crew.specs.declared.gate.Closing.{Closing}

-- how many proposals are on the way to a match: those of each applicant, down to its place
abbrev pub all_on_the_way : Market → Places → ℕ
all_on_the_way m places = total_below (λ a. length (proposed_to m places a)) (applicants m)

-- The workers left a legal floor. The closing says truly whether the passes' counts add up to it, and a desk that it
-- names is not in its place. If no desk is astray, the passes have all proposals of that floor. Those that were late
-- are the others on the way to the match.
pub record IsClosing (r : Ranked) (passes : List PassView) (places : Places) (c : Closing) : Type 0 where
  pub floor : Floor
  pub is_legal : IsLegal r.market floor
  pub agrees : c.agrees ≡ all_agree r floor passes
  pub astray : IfSome c.astray (λ numbers. numbers.0 ≢ numbers.1)
  pub made : IfNone c.astray (proposals_made r.market floor ≡ all_proposals passes)
  pub late : all_on_the_way r.market places ≡ proposals_made r.market floor + c.late
