-- The text of explanations: a line for what an agent has, and one for each place that an option names that it wants more.
-- This project's own format.
use Rattle.std.specs.Prelude.{ℕ, ◌+◌, Bool, List, [], ◌∷◌, ◌++◌, Option, Some, None, codes, decimal, option_map, if◌then◌else◌}
use Rattle.std.specs.List.{flat_map}
use Rattle.mt_terms.specs.Market.{Names, Registered, couple_of}
use Rattle.mt_terms.specs.Matching.{Places, place_of}
use Rattle.mt_terms.specs.Registration.Ids.{Bytes}
use Rattle.mt_terms.specs.Text.{line, name_of, place_text}
use Rattle.mt_terms.specs.declared.numbers.Agent.{Agent}
use Rattle.mt_terms.specs.declared.numbers.Agent.TheVariants.{Couple, Single}
use Rattle.mt_explain.specs.Lines.{explanation, why}
use Rattle.mt_explain.specs.declared.line.Line.{Line}
use Rattle.mt_explain.specs.declared.line.Why.{Why}
use Rattle.mt_explain.specs.declared.line.Why.TheVariants.{Full, Open, Unlisted}
use Rattle.mt_verify.specs.Held.{held_option, rank_at}

-- the number from 1 of a position from 0
abbrev pub number_of : Option ℕ → Option ℕ
number_of position = option_map (λ k. k + 1) position

-- a number as a field, which is empty if there is none
abbrev pub number_text : Option ℕ → Bytes
number_text None = []
number_text (Some n) = decimal n

-- a number that a public explanation leaves out, as a field
abbrev pub told_text : Bool → Option ℕ → Bytes
told_text is_public number = number_text (if is_public then None else number)

-- the id of an agent: that of the single, or that of the couple
abbrev pub agent_id : Names → Agent → Bytes
agent_id names (Single a) = name_of names.applicants a
agent_id names (Couple c) = name_of names.couples c

-- The line of what an agent has: its place, or its members' two, and the number of that option on its list. A single's
-- line also has the single's rank at its place.
abbrev pub own_line : Registered → Places → Bool → Agent → Bytes
own_line r places is_public (Single a) =
    line (
    codes "applicant" ∷ name_of r.names.applicants a ∷ place_text r.names (place_of places a)
    ∷ number_text (number_of (held_option r.market places (Single a)))
    ∷ told_text is_public (number_of (rank_at r.market a (place_of places a))) ∷ [] ∷ [] ∷ [] ∷ [] ∷ []
    )
own_line r places is_public (Couple c) =
    line (
    codes "couple" ∷ name_of r.names.couples c ∷ place_text r.names (place_of places (couple_of r.market c).first)
    ∷ place_text r.names (place_of places (couple_of r.market c).second)
    ∷ number_text (number_of (held_option r.market places (Couple c))) ∷ [] ∷ [] ∷ [] ∷ [] ∷ []
    )

-- the word for why a program would take a member, or wouldn't
abbrev pub why_text : Why → Bytes
why_text Unlisted = codes "unlisted"
why_text Full = codes "full"
why_text Open = codes "open"

-- the rank from 1 that a line gives its member, if the program lists it
abbrev pub rank_of : Line → Option ℕ
rank_of l = option_map (λ x. x.rank + 1) l.prospect

-- how many are ahead of the member, if the program lists it
abbrev pub ahead_of : Line → Option ℕ
ahead_of l = option_map (λ x. x.ahead) l.prospect

-- The line of a place that a better option of an agent names: the option's number, the program, and the member that would
-- go there. The member's rank, the quota and how many are ahead come next, and at last why.
abbrev pub above_line : Registered → Bool → Agent → Line → Bytes
above_line r is_public g l =
    line (
    codes "above" ∷ agent_id r.names g ∷ decimal (l.option + 1) ∷ name_of r.names.programs l.program
    ∷ name_of r.names.applicants l.member ∷ told_text is_public (rank_of l)
    ∷ told_text is_public (Some l.quota) ∷ told_text is_public (ahead_of l)
    ∷ why_text (why l.quota l.prospect) ∷ []
    )

-- the lines of some places, one after another
abbrev pub above_lines : Registered → Bool → Agent → List Line → Bytes
above_lines r is_public g lines = flat_map (above_line r is_public g) lines

-- the lines of an agent: that of what it has, and those of its explanation
abbrev pub agent_text : Registered → Places → Bool → Agent → Bytes
agent_text r places is_public g = own_line r places is_public g ++ above_lines r is_public g (explanation r.market places g)

-- the lines of several agents, in their order
abbrev pub agents_text : Registered → Places → Bool → List Agent → Bytes
agents_text r places is_public agents = flat_map (agent_text r places is_public) agents
