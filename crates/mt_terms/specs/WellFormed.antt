-- What the laws ask of a market, and what every market that is read from a file has.
use Rattle.std.specs.Prelude.{◌≡◌, ◌≢◌, ℕ, ◌<◌, Bool, true, false, not, ◌&&◌, ◌==◌, nat_lt, List, [], ◌∷◌, length, IsTrue}
use Rattle.std.specs.List.{list_all}
use Rattle.mt_terms.specs.Lists.{has, below, is_distinct}
use Rattle.mt_terms.specs.Market.{Market, Program, applicants, program_of, list_of, couple_of, agent_of}
use Rattle.mt_terms.specs.declared.numbers.Agent.{Agent}
use Rattle.mt_terms.specs.declared.numbers.Agent.TheVariants.{Single, Couple}

-- A member is an applicant that wants nothing by itself and belongs to this couple alone.
pub record IsMember (m : Market) (c a : ℕ) : Type 0 where
  pub within : a < applicants m
  pub no_list : list_of m a ≡ []
  pub belongs : agent_of m a ≡ Couple c

-- Lists have no repeats and name only what the market has, and each couple has two members of its own.
pub record IsWellFormed (m : Market) : Type 0 where
  pub lists_distinct : (a : ℕ) → IsTrue (is_distinct (list_of m a))
  pub lists_within : (a p : ℕ) → IsTrue (has (list_of m a) p) → p < length m.programs
  pub rankings_distinct : (p : ℕ) → IsTrue (is_distinct (program_of m p).ranking)
  pub rankings_within : (p a : ℕ) → IsTrue (has (program_of m p).ranking a) → a < applicants m
  pub first_member : (c : ℕ) → c < length m.couples → IsMember m c (couple_of m c).first
  pub second_member : (c : ℕ) → c < length m.couples → IsMember m c (couple_of m c).second
  pub two_members : (c : ℕ) → c < length m.couples → (couple_of m c).first ≢ (couple_of m c).second

-- the same as a test
abbrev pub is_list_within : ℕ → List ℕ → Bool
is_list_within n xs = is_distinct xs && list_all (λ x. nat_lt x n) xs

abbrev pub is_empty : List ℕ → Bool
is_empty [] = true
is_empty (x ∷ xs) = false

abbrev pub is_couple : ℕ → Agent → Bool
is_couple c (Single a) = false
is_couple c (Couple d) = c == d

abbrev pub has_member : Market → ℕ → ℕ → Bool
has_member m c a = nat_lt a (applicants m) && is_empty (list_of m a) && is_couple c (agent_of m a)

abbrev pub has_two_members : Market → ℕ → Bool
has_two_members m c =
    has_member m c (couple_of m c).first && has_member m c (couple_of m c).second && not ((couple_of m c).first == (couple_of m c).second)

abbrev pub is_well_formed : Market → Bool
is_well_formed m =
    list_all (λ p. is_list_within (applicants m) (Program.ranking p)) m.programs
    && list_all (is_list_within (length m.programs)) m.lists
    && list_all (has_two_members m) (below (length m.couples))
