-- Whom the index finds when programs were left.
use Rattle.std.specs.Prelude.{◌≡◌, ℕ, Bool, ◌&&◌, ◌<◌, true, List, [], ◌∷◌, Some, slice_index_or}
use Rattle.mt_terms.specs.Lists.{Set, has}
use Rattle.mt_terms.specs.Market.{applicants, agent_of}
use Rattle.mt_terms.specs.declared.numbers.Agent.{Agent}
use Rattle.mt_terms.specs.declared.numbers.Agent.TheVariants.{Single, Couple}
use Rattle.mt_ranks.specs.Ranked.{rank_of}
use Rattle.mt_assignment.specs.Assigned.{Assigned}
use Rattle.mt_assignment.specs.Moves.{opens}
use Rattle.mt_assignment.specs.Blocking.{is_idle, is_reopened}
use Rattle.mt_stage_tables.specs.Indexing.{end_of}
use Rattle.mt_assignment.specs.Watched.{opens_between}
use Rattle.mt_stage_tables.specs.declared.couple_list.NamedPairs.{NamedPairs}
use Rattle.mt_watch.specs.declared.watch.Watch.{Watch}

-- a single that has one of these ranks on a program's list, and a better option there that would be taken, is found
abbrev pub AddsSingles : Assigned → ℕ → Set → List ℕ → Type 0
AddsSingles s p ranks found =
    (r a : ℕ) → ranks r ≡ true → rank_of s.market p a ≡ Some r → agent_of s.market a ≡ Single a
    → opens s (p ∷ []) (Single a) ≡ true → has found a ≡ true

-- Whether a couple that is indexed at a program has entered, doesn't wait, and has a pair there that would be taken. The
-- pairs are those from the first indexed one to the last that it wants more than what it has.
abbrev pub is_couple_reopened : ℕ → Assigned → Watch → ℕ → List Agent → NamedPairs → Bool
is_couple_reopened k s w p waiting n =
    is_idle k waiting (Couple n.couple) && opens_between s n.couple p n.from (end_of n.until (slice_index_or w.better.items n.couple 0))

-- each applicant whose agent is reopened is one of these
abbrev pub Covers : ℕ → Assigned → List ℕ → List Agent → List ℕ → Type 0
Covers k s ps waiting found = (a : ℕ) → a < applicants s.market → is_reopened k s ps waiting (agent_of s.market a) ≡ true → has found a ≡ true
