-- Why an agent has none of the options that it wants more: a line for each place that such an option names. This
-- project's own form.
use Rattle.std.specs.Prelude.{ℕ, ◌+◌, Bool, true, false, ◌==◌, nat_lt, List, [], ◌∷◌, ◌++◌, filter, Option, Some, None, if◌then◌else◌}
use Rattle.std.specs.List.{flat_map, list_all, list_any}
use Rattle.mt_terms.specs.Market.{Market, program_of}
use Rattle.mt_terms.specs.Matching.{Places, Placement, better, send}
use Rattle.mt_terms.specs.declared.numbers.Agent.{Agent}
use Rattle.mt_verify.specs.Prospects.{prospect}
use Rattle.mt_verify.specs.declared.prospect.Prospect.{Prospect}
use Rattle.mt_explain.specs.declared.line.Line.{Line}
use Rattle.mt_explain.specs.declared.line.Why.{Why}
use Rattle.mt_explain.specs.declared.line.Why.TheVariants.{Unlisted, Full, Open}

-- Why a program with this quota would take an applicant, or wouldn't. It takes one that it lists if fewer than quota
-- are ahead.
abbrev pub why : ℕ → Option Prospect → Why
why quota None = Unlisted
why quota (Some x) = if nat_lt x.ahead quota then Open else Full

-- the line of an option's number, a program and the member that goes there, in the match with the members moved
abbrev pub line_at : Market → Places → ℕ → ℕ → ℕ → Line
line_at m moved k a p =
    record { option = k; program = p; member = a; quota = (program_of m p).quota; prospect = prospect m moved p a }

-- the line of where one member is sent: none if it is sent nowhere
abbrev pub lines_at : Market → Places → ℕ → ℕ → Option ℕ → List Line
lines_at m moved k a None = []
lines_at m moved k a (Some p) = line_at m moved k a p ∷ []

-- none or one line, as a list
abbrev pub line_if : Option Line → List Line
line_if None = []
line_if (Some line) = line ∷ []

-- the lines of an option's two places, as a list
abbrev pub both_lines : Option Line × Option Line → List Line
both_lines x = line_if x.0 ++ line_if x.1

-- the lines of an option with its number on the list: all members are first sent where it sends them
abbrev pub option_lines : Market → Places → ℕ → Placement → List Line
option_lines m places k sent = flat_map (λ s. lines_at m (send sent places) k s.0 s.1) sent

-- the lines of several options, which are numbered from k on
abbrev pub lines_from : Market → Places → ℕ → List Placement → List Line
lines_from m places k [] = []
lines_from m places k (sent ∷ rest) = option_lines m places k sent ++ lines_from m places (k + 1) rest

-- the explanation of what an agent has: the lines of each option that it wants more, in the order of its list
abbrev pub explanation : Market → Places → Agent → List Line
explanation m places g = lines_from m places 0 (better m places g)

-- whether a post is open
abbrev pub says_open : Why → Bool
says_open Unlisted = false
says_open Full = false
says_open Open = true

-- whether a line says that a post is open
abbrev pub is_open : Line → Bool
is_open line = says_open (why line.quota line.prospect)

-- the lines among some that are of the option with a number
abbrev pub lines_of : ℕ → List Line → List Line
lines_of k lines = filter (λ line. line.option == k) lines

-- whether some option among these lines has open lines alone
abbrev pub has_open_option : List Line → Bool
has_open_option lines = list_any (λ line. list_all is_open (lines_of line.option lines)) lines
