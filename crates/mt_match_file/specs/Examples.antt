-- Records of matches of a small market, and what they say.
use Rattle.std.specs.Prelude.{ℕ, List, [], Option, Result, Ok}
use Prim.Native.String.{String}
use Rattle.mt_terms.specs.Examples.Markets.{crossed, unstable}
use Rattle.mt_terms.specs.Examples.RegistrationText.{file, named}
use Rattle.mt_terms.specs.Market.{Registered}
use Rattle.mt_terms.specs.Registration.Faults.{Fault}
use Rattle.mt_match_file.specs.Submitted.{Submitted, submitted_by}
use Rattle.mt_match_file.specs.declared.submitted_match.Count.{Count}
use Rattle.mt_match_file.specs.declared.submitted_match.Counted.{Counted}

-- Two programs with one post each, and two applicants of crossed wishes.
--     program,P1,1,a2,a1    program,P2,1,a1,a2    applicant,a1,P1,P2    applicant,a2,P2,P1
abbrev pub crossed_market : Registered
crossed_market = named crossed "P1,P2" "a1,a2" ""

-- what the records of these lines say of it
abbrev pub submitted_of : List String → Result Submitted Fault
submitted_of lines = submitted_by crossed_market (file lines)

-- Two programs, a single and a couple.
--     program,x,1,a,s    program,y,1,s,b    applicant,s,x,y    couple,c,a,b,x,y
abbrev pub couple_market : Registered
couple_market = named unstable "x,y" "s,a,b" "c"

abbrev pub submitted_beside_couple : List String → Result Submitted Fault
submitted_beside_couple lines = submitted_by couple_market (file lines)

-- these places with no counts, and a count of a record
abbrev pub places_alone : List (Option ℕ) → Result Submitted Fault
places_alone places = Ok (record { places = places; counts = []; aside = [] })

abbrev pub counted : ℕ → Count → Counted
counted n c = record { row = n; count = c }
