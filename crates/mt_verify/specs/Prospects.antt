-- How an applicant would fare at a program, in the counts on which a program's choice rests. This project's own words.
use Rattle.std.specs.Prelude.{ℕ, ◌==◌, Option, position}
use Rattle.std.specs.Option.{option_map}
use Rattle.mt_terms.specs.Lists.{above}
use Rattle.mt_terms.specs.Market.{Market, program_of}
use Rattle.mt_terms.specs.Matching.{Places, at}
use Rattle.mt_verify.specs.declared.prospect.Prospect.{Prospect}

-- how many of those placed at a program it ranks above an applicant
abbrev pub ahead : Market → Places → ℕ → ℕ → ℕ
ahead m places p a = above (at places p) (program_of m p).ranking a

-- an applicant's rank on a program's list, and how many of those placed there are ahead. None if the list lacks it
abbrev pub prospect : Market → Places → ℕ → ℕ → Option Prospect
prospect m places p a =
    option_map (λ rank. record { rank = rank; ahead = ahead m places p a }) (position (λ x. x == a) (program_of m p).ranking)
