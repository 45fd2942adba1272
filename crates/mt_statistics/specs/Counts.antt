-- The numbers of a match that services publish. Which numbers these are is this project's own choice.
use Rattle.std.specs.Prelude.{ℕ, zero, suc, ◌+◌, ◌-◌, Bool, false, not, ◌&&◌, ◌==◌, nat_le, List, [], ◌∷◌, length, map, max, Option, Some, None, is_some, if◌then◌else◌}
use Rattle.mt_terms.specs.Lists.{below, count_below, total_below}
use Rattle.mt_terms.specs.Market.{Market, applicants, couple_of, program_of}
use Rattle.mt_terms.specs.Matching.{Places, filled, is_program, place_of, placed_ranks}
use Rattle.mt_terms.specs.declared.numbers.Agent.TheVariants.{Couple, Single}
use Rattle.mt_ranks.specs.Ranked.{is_single}
use Rattle.mt_verify.specs.Held.{held_option}
use Rattle.mt_statistics.specs.declared.counts.Standing.{Standing}

-- how many singles there are
abbrev pub singles : Market → ℕ
singles m = count_below (is_single m) (applicants m)

-- whether a single has the option with this number from 0 of its list
abbrev pub has_choice : Market → Places → ℕ → ℕ → Bool
has_choice m places k a = is_single m a && is_program k (held_option m places (Single a))

-- how many singles do
abbrev pub at_choice : Market → Places → ℕ → ℕ
at_choice m places k = count_below (has_choice m places k) (applicants m)

-- whether an applicant is a single that has no place
abbrev pub is_unmatched_single : Market → Places → ℕ → Bool
is_unmatched_single m places a = is_single m a && not (is_some (place_of places a))

-- how many singles have no place
abbrev pub unmatched_singles : Market → Places → ℕ
unmatched_singles m places = count_below (is_unmatched_single m places) (applicants m)

-- whether there is a number, and it is this one or a larger one
abbrev pub is_from : ℕ → Option ℕ → Bool
is_from k None = false
is_from k (Some number) = nat_le k number

-- whether a single has the option with this number from 0 of its list, or a later one
abbrev pub has_choice_from : Market → Places → ℕ → ℕ → Bool
has_choice_from m places k a = is_single m a && is_from k (held_option m places (Single a))

-- how many singles do
abbrev pub choices_from : Market → Places → ℕ → ℕ
choices_from m places k = count_below (has_choice_from m places k) (applicants m)

-- how many couples have the pair with this number from 0 of their lists
abbrev pub at_pair : Market → Places → ℕ → ℕ
at_pair m places k = count_below (λ c. is_program k (held_option m places (Couple c))) (length m.couples)

-- how many couples have the pair with this number, or a later one
abbrev pub pairs_from : Market → Places → ℕ → ℕ
pairs_from m places k = count_below (λ c. is_from k (held_option m places (Couple c))) (length m.couples)

-- how many members of a couple are placed
abbrev pub placed_members : Market → Places → ℕ → ℕ
placed_members m places c =
    (if is_some (place_of places (couple_of m c).first) then 1 else 0) + (if is_some (place_of places (couple_of m c).second) then 1 else 0)

-- how many couples have this number of members placed
abbrev pub couples_with : Market → Places → ℕ → ℕ
couples_with m places n = count_below (λ c. placed_members m places c == n) (length m.couples)

-- whether a program has no open post. One without posts has none
abbrev pub is_full : Market → Places → ℕ → Bool
is_full m places p = nat_le (program_of m p).quota (filled places p)

-- whether nobody is placed at a program
abbrev pub has_nobody : Places → ℕ → Bool
has_nobody places p = filled places p == 0

-- whether a program has an open post, and somebody is placed there
abbrev pub is_partly_filled : Market → Places → ℕ → Bool
is_partly_filled m places p = not (is_full m places p) && not (has_nobody places p)

-- whether a program has an open post, and nobody is placed there
abbrev pub is_empty : Market → Places → ℕ → Bool
is_empty m places p = not (is_full m places p) && has_nobody places p

-- how many programs have no open post
abbrev pub full_programs : Market → Places → ℕ
full_programs m places = count_below (is_full m places) (length m.programs)

-- how many programs have an open post and somebody
abbrev pub partly_filled_programs : Market → Places → ℕ
partly_filled_programs m places = count_below (is_partly_filled m places) (length m.programs)

-- how many programs have an open post and nobody
abbrev pub empty_programs : Market → Places → ℕ
empty_programs m places = count_below (is_empty m places) (length m.programs)

-- how many posts of a program are open: those that its applicants leave, and none if it has too many applicants
abbrev pub open_at : Market → Places → ℕ → ℕ
open_at m places p = (program_of m p).quota - filled places p

-- how many posts are open at all programs together
abbrev pub open_posts : Market → Places → ℕ
open_posts m places = total_below (open_at m places) (length m.programs)

-- the last element of a list
abbrev pub last_of : List ℕ → Option ℕ
last_of [] = None
last_of (x ∷ []) = Some x
last_of (x ∷ y ∷ xs) = last_of (y ∷ xs)

-- the rank from 0 of the last one in: of those placed at a program, the one that it ranks lowest
abbrev pub last_rank : Market → Places → ℕ → Option ℕ
last_rank m places p = last_of (placed_ranks m places p)

-- where a program stands: its quota, how many are placed there, how many it lists, and the rank of the last one in
abbrev pub standing : Market → Places → ℕ → Standing
standing m places p =
    let program = program_of m p in
    record { quota = program.quota; filled = filled places p; listed = length program.ranking; last = last_rank m places p }

-- the largest value of a function below n, or 0 if there is none
abbrev pub greatest_below : (ℕ → ℕ) → ℕ → ℕ
greatest_below f zero = 0
greatest_below f (suc n) = max (f n) (greatest_below f n)

-- one more than a number, or 0 if there is none
abbrev pub ordinal : Option ℕ → ℕ
ordinal None = 0
ordinal (Some k) = k + 1

-- the largest choice that a single has, counted from 1, or 0 if none has one of its list
abbrev pub most_choices : Market → Places → ℕ
most_choices m places = greatest_below (λ a. ordinal (held_option m places (Single a))) (applicants m)

-- the same of couples and their pairs
abbrev pub most_pairs : Market → Places → ℕ
most_pairs m places = greatest_below (λ c. ordinal (held_option m places (Couple c))) (length m.couples)

-- for each choice from 1 to the largest one that a single has, how many singles have it
abbrev pub choice_counts : Market → Places → List ℕ
choice_counts m places = map (at_choice m places) (below (most_choices m places))

-- for each pair's number from 1 to the largest one that a couple has, how many couples have it
abbrev pub pair_counts : Market → Places → List ℕ
pair_counts m places = map (at_pair m places) (below (most_pairs m places))
