-- A market: programs with quotas and rank order lists of applicants, applicants with rank order lists of programs,
-- and couples with rank order lists of pairs. Applicants, programs and couples are numbers, by order of registration
-- from 0. (Gale and Shapley 1962. Couples are as in Roth and Peranson 1999. By this project's own rule one member of
-- a pair may be unplaced.)
use Rattle.std.specs.Prelude.{ℕ, ◌+◌, ◌<◌, Bool, true, ◌||◌, ◌==◌, List, [], ◌∷◌, map, filter, length, Option, slice_index_or, if◌then◌else◌}
use Rattle.mt_terms.specs.Lists.{has, below, total_below}
use Rattle.mt_terms.specs.declared.numbers.Agent.{Agent}
use Rattle.mt_terms.specs.declared.numbers.Agent.TheVariants.{Single, Couple}

-- a program: its quota, and the applicants that it lists, the most wanted first
pub record Program : Type 0 where
  pub quota : ℕ
  pub ranking : List ℕ

-- a pair of a couple's list: where it sends each of the two members, a program or none
abbrev pub Pair : Type 0
Pair = Option ℕ × Option ℕ

-- a couple: its two members, and its pairs, the most wanted first
pub record Partners : Type 0 where
  pub first : ℕ
  pub second : ℕ
  pub pairs : List Pair

-- A market. An applicant's list has the programs that it wants, the most wanted first. A couple's member has no list
-- of its own, so its list is empty.
pub record Market : Type 0 where
  pub programs : List Program
  pub lists : List (List ℕ)
  pub couples : List Partners

-- how many applicants there are, members of couples included
abbrev pub applicants : Market → ℕ
applicants m = length m.lists

-- the program with a number. A number that no program has gives one that takes nobody
abbrev pub program_of : Market → ℕ → Program
program_of m p = slice_index_or m.programs p (record { quota = 0; ranking = [] })

-- the list of an applicant, by number. A number that no applicant has gives an empty list
abbrev pub list_of : Market → ℕ → List ℕ
list_of m a = slice_index_or m.lists a []

-- the couple with a number. A number that no couple has gives one that wants nothing
abbrev pub couple_of : Market → ℕ → Partners
couple_of m c = slice_index_or m.couples c (record { first = 0; second = 0; pairs = [] })

-- the market without its couples: their members stay on the programs' lists, and want nothing
abbrev pub singles_market : Market → Market
singles_market m = record m { couples = [] }

-- an applicant's live list: the programs on its list whose list has the applicant
abbrev pub live : Market → ℕ → List ℕ
live m a = filter (λ p. has (program_of m p).ranking a) (list_of m a)

-- the singles' market with live lists alone: nothing else can be a place, or block
abbrev pub live_market : Market → Market
live_market m = record { programs = m.programs; lists = map (live m) (below (applicants m)); couples = [] }

-- how many entries the live lists of all applicants have
abbrev pub live_entries : Market → ℕ
live_entries m = total_below (λ a. length (live m a)) (applicants m)

-- whether an applicant is one of these two
abbrev pub is_member : Partners → ℕ → Bool
is_member c a = (c.first == a) || (c.second == a)

-- an applicant's agent, by couples that are numbered from c on
abbrev pub agent_from : List Partners → ℕ → ℕ → Agent
agent_from [] c a = Single a
agent_from (x ∷ xs) c a = if is_member x a then Couple c else agent_from xs (c + 1) a

-- the agent of an applicant: its couple if it is a member of one, or else itself
abbrev pub agent_of : Market → ℕ → Agent
agent_of m a = agent_from m.couples 0 a

-- the applicants of an agent
abbrev pub members : Market → Agent → List ℕ
members m (Single a) = a ∷ []
members m (Couple c) = (couple_of m c).first ∷ (couple_of m c).second ∷ []

-- the agent is an applicant or a couple of the market, by its number
abbrev pub IsAgentOf : Market → Agent → Type 0
IsAgentOf m (Single a) = a < applicants m
IsAgentOf m (Couple c) = c < length m.couples

-- whether an applicant is a single, or the first member of its couple
abbrev pub leads : Market → ℕ → Bool
leads m a = leads_agent (agent_of m a)
  where
    leads_agent : Agent → Bool
    leads_agent (Single b) = true
    leads_agent (Couple c) = (couple_of m c).first == a

-- every agent once: by the number of the single or of the couple's first member
abbrev pub agents : Market → List Agent
agents m = map (agent_of m) (filter (leads m) (below (applicants m)))

-- the ids of programs, applicants and couples, by number
pub record Names : Type 0 where
  pub programs : List (List ℕ)
  pub applicants : List (List ℕ)
  pub couples : List (List ℕ)

-- a market with its ids, which matter for the text alone
pub record Registered : Type 0 where
  pub market : Market
  pub names : Names
