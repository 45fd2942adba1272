-- What a step of the reading of a match gives.
use Rattle.std.specs.Prelude.{◌≡◌, ℕ, ◌+◌, ◌<◌, List, ◌∷◌, length, Result, Ok, Err}
use Rattle.mt_terms.specs.Market.{Market, Names, applicants}
use Rattle.mt_terms.specs.Registration.Faults.{Fault}
use Rattle.mt_terms.specs.Registration.Ids.{Bytes}
use Rattle.mt_terms.specs.Registration.Passes.{Numbered, numbered_from}
use Rattle.mt_match_file.specs.Errors.{Tells}
use Rattle.mt_match_file.specs.Submitted.{SoFar, Submitted, all_read}
use Rattle.mt_match_file.specs.View.{read_so_far}
use Rattle.mt_match_file.specs.declared.fault.MatchError.{MatchError}
use Rattle.mt_match_file.specs.declared.line.Line.{Line}
use Rattle.mt_match_file.specs.declared.line.Line.TheVariants.{Head, Place, Counts, Aside}
use Rattle.mt_match_file.specs.declared.so_far.SoFar as code

-- what was read has room for each applicant and each couple of a market
pub record HasRoomFor (m : Market) (s : code.SoFar) : Type 0 where
  pub applicants : length s.places.items ≡ applicants m
  pub couples : length s.aside.marks.items ≡ length m.couples

-- a record fits this number of applicants and of couples: a number in it is below
abbrev pub FitsInto : ℕ → ℕ → Line → Type 0
FitsInto n k Head = Unit {0}
FitsInto n k (Place a place) = a < n
FitsInto n k (Counts c) = Unit {0}
FitsInto n k (Aside c) = c < k

-- What a step returned is what the definition gives, unless memory ran out.
abbrev pub Gives : Result Submitted MatchError → Result Submitted Fault → Type 0
Gives (Ok submitted) defined = defined ≡ Ok submitted
Gives (Err e) defined = Tells e defined

-- After a record the reading goes on from what was read up to it, or ends with the fault that was returned, whatever
-- follows.
abbrev pub Reads : {Y : Type 0} → Names → SoFar → SoFar → Numbered (List Bytes) → Result Y MatchError → Type 0
Reads names old new row (Ok _) = (rest : List (Numbered (List Bytes))) → all_read names old (row ∷ rest) ≡ all_read names new rest
Reads names old new row (Err e) = (rest : List (Numbered (List Bytes))) → Tells e (all_read names old (row ∷ rest))

-- The same of a row with this number, which may have no field.
abbrev pub ReadsRow : {Y : Type 0} → Names → SoFar → SoFar → ℕ → List Bytes → Result Y MatchError → Type 0
ReadsRow names old new n row (Ok _) = (rest : List (List Bytes)) → all_read names old (numbered_from n (row ∷ rest)) ≡ all_read names new (numbered_from (n + 1) rest)
ReadsRow names old new n row (Err e) = (rest : List (List Bytes)) → Tells e (all_read names old (numbered_from n (row ∷ rest)))

-- What the whole reading gives: the places and counts of this number of applicants, or the first fault.
abbrev pub GivesSoFar : Result code.SoFar MatchError → Result SoFar Fault → Type 0
GivesSoFar (Ok s) submitted = submitted ≡ Ok (read_so_far s)
GivesSoFar (Err e) submitted = Tells e submitted
