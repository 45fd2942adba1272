-- Files of records, each but for the record that names the version, and the markets that are left after withdrawals.
use Rattle.std.specs.Prelude.{List, [], ◌∷◌, ◌++◌, Some, None, Result}
use Prim.Native.String.{String}
use Rattle.mt_terms.specs.declared.limits.TheConstants.{LIMITS_2}
use Rattle.mt_terms.specs.Market.{Market, Registered}
use Rattle.mt_terms.specs.Registration.{market_under}
use Rattle.mt_terms.specs.Registration.Faults.{Fault}
use Rattle.mt_terms.specs.Registration.Records.{Rules, version_2}
use Rattle.mt_terms.specs.Registration.Passes.{numbered_from}
use Rattle.mt_terms.specs.Examples.RegistrationText.{file, named}

-- two programs and two applicants that want each other crosswise
abbrev pub crossed_file : List String
crossed_file = "program,P1,1,a2,a1" ∷ "program,P2,1,a1,a2" ∷ "applicant,a1,P1,P2" ∷ "applicant,a2,P2,P1" ∷ []

-- the same with its version, a blank record in between, and a quota with a leading zero
abbrev pub padded_file : List String
padded_file =
    "match,1" ∷ "program,P1,1,a2,a1" ∷ "program,P2,01,a1,a2" ∷ "" ∷ "applicant,a1,P1,P2" ∷ "applicant,a2,P2,P1" ∷ []

-- a third applicant, whom the first program wants in between
abbrev pub chain_file : List String
chain_file = "program,P1,1,a2,a3,a1" ∷ "program,P2,1,a1,a2" ∷ "applicant,a1,P1,P2" ∷ "applicant,a2,P2,P1" ∷ "applicant,a3,P1" ∷ []

-- the same without a1: a2 and a3 are the applicants 0 and 1
abbrev pub chain_without_applicant : Market
chain_without_applicant = record {
  programs = record { quota = 1; ranking = 0 ∷ 1 ∷ [] } ∷ record { quota = 1; ranking = 0 ∷ [] } ∷ [];
  lists = (1 ∷ 0 ∷ []) ∷ (0 ∷ []) ∷ [];
  couples = [];
}

-- a couple that wants one program for both members, and a single whom the program wants in between
abbrev pub single_between_file : List String
single_between_file = "program,x,2,a,s,b" ∷ "applicant,s,x" ∷ "couple,c,a,b,x,x" ∷ []

-- the same with a member of the couple withdrawn by itself
abbrev pub member_withdrawn_file : List String
member_withdrawn_file = single_between_file ++ "withdraw,applicant,a" ∷ []

-- a single, and a couple that also takes a pair in which its second member stays unplaced
abbrev pub half_pair_file : List String
half_pair_file = "program,x,1,a,s" ∷ "program,y,1,s,b" ∷ "applicant,s,x,y" ∷ "couple,c,a,b,x,y,x,-" ∷ []

-- a single, and a couple that wants two programs
abbrev pub unstable_file : List String
unstable_file = "program,x,1,a,s" ∷ "program,y,1,s,b" ∷ "applicant,s,x,y" ∷ "couple,c,a,b,x,y" ∷ []

-- the same without the couple
abbrev pub unstable_without_couple : Market
unstable_without_couple = record {
  programs = record { quota = 1; ranking = 0 ∷ [] } ∷ record { quota = 1; ranking = 0 ∷ [] } ∷ [];
  lists = (0 ∷ 1 ∷ []) ∷ [];
  couples = [];
}

-- three couples
abbrev pub three_couples_file : List String
three_couples_file =
    "program,p,1,d1,a1" ∷ "program,q,1,a2" ∷ "program,r,1,e1,d2" ∷ "program,t,1,e2" ∷ "program,u,1,a1" ∷ "program,v,1,a2"
    ∷ "couple,D,d1,d2,p,r" ∷ "couple,A,a1,a2,p,q,u,v" ∷ "couple,E,e1,e2,r,t" ∷ []

-- the same without q: the first pair of the second couple is gone
abbrev pub three_couples_without_program : Market
three_couples_without_program = record {
  programs =
      record { quota = 1; ranking = 0 ∷ 2 ∷ [] } ∷ record { quota = 1; ranking = 4 ∷ 1 ∷ [] } ∷ record { quota = 1; ranking = 5 ∷ [] }
      ∷ record { quota = 1; ranking = 2 ∷ [] } ∷ record { quota = 1; ranking = 3 ∷ [] } ∷ [];
  lists = [] ∷ [] ∷ [] ∷ [] ∷ [] ∷ [] ∷ [];
  couples =
      record { first = 0; second = 1; pairs = (Some 0, Some 1) ∷ [] }
      ∷ record { first = 2; second = 3; pairs = (Some 3, Some 4) ∷ [] }
      ∷ record { first = 4; second = 5; pairs = (Some 1, Some 2) ∷ [] }
      ∷ [];
}

-- the three couples with the program q withdrawn
abbrev pub program_withdrawn_file : List String
program_withdrawn_file = three_couples_file ++ "withdraw,program,q" ∷ []

abbrev pub program_withdrawn_registered : Registered
program_withdrawn_registered = named three_couples_without_program "p,r,t,u,v" "d1,d2,a1,a2,e1,e2" "D,A,E"

-- one applicant that lists nothing
abbrev pub one_applicant : Market
one_applicant = record { programs = []; lists = [] ∷ []; couples = [] }

-- the same with an id of 64 bytes, the longest one
abbrev pub longest_id_file : List String
longest_id_file = "applicant,abcdefghijklmnopqrstuvwxyz012345abcdefghijklmnopqrstuvwxyz012345" ∷ []

abbrev pub longest_id_registered : Registered
longest_id_registered = named one_applicant "" "abcdefghijklmnopqrstuvwxyz012345abcdefghijklmnopqrstuvwxyz012345" ""

-- a couple that would have either of its members unplaced
abbrev pub each_member_alone_file : List String
each_member_alone_file = "program,x,1" ∷ "couple,c,a,b,x,-,-,x" ∷ []

abbrev pub each_member_alone : Market
each_member_alone = record {
  programs = record { quota = 1; ranking = [] } ∷ [];
  lists = [] ∷ [] ∷ [];
  couples = record { first = 0; second = 1; pairs = (Some 0, None) ∷ (None, Some 0) ∷ [] } ∷ [];
}

-- a program, an applicant and a couple of one name
abbrev pub one_name_file : List String
one_name_file = "program,n,1,n" ∷ "applicant,n,n" ∷ "couple,n,a,b,n,n" ∷ []

-- the same without the program
abbrev pub one_name_without_program : Market
one_name_without_program = record { programs = []; lists = [] ∷ [] ∷ [] ∷ []; couples = record { first = 1; second = 2; pairs = [] } ∷ [] }

-- version 2 with limits that a few records pass
abbrev pub small : Rules
small = record version_2 { limits = record LIMITS_2 { applicants = 3; programs = 2; entries = 4 } }

-- the same with the program withdrawn
abbrev pub one_name_withdrawn_file : List String
one_name_withdrawn_file = one_name_file ++ "withdraw,program,n" ∷ []

abbrev pub one_name_registered : Registered
one_name_registered = named one_name_without_program "" "n,a,b" "n"

-- what these records give after a first one, by rules
abbrev pub market_within : Rules → List String → Result Registered Fault
market_within rules lines = market_under rules (numbered_from 2 (file lines))

-- a program too many for the small version, one of the others being withdrawn
abbrev pub withdrawn_program_file : List String
withdrawn_program_file = "program,p1,0" ∷ "program,p2,0" ∷ "withdraw,program,p1" ∷ "program,p3,0" ∷ []

-- records that reach each limit of the small version
abbrev pub full_file : List String
full_file = "program,x,0" ∷ "program,y,0" ∷ "applicant,s" ∷ "couple,c,a,b,x,x,y,y" ∷ []

abbrev pub full : Market
full = record {
  programs = record { quota = 0; ranking = [] } ∷ record { quota = 0; ranking = [] } ∷ [];
  lists = [] ∷ [] ∷ [] ∷ [];
  couples = record { first = 1; second = 2; pairs = (Some 0, Some 0) ∷ (Some 1, Some 1) ∷ [] } ∷ [];
}
