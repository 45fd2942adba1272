-- Small markets that show what the definitions say. Each is given as its file has it, and then in numbers,
-- by order of registration.
use Rattle.std.specs.Prelude.{ℕ, zero, suc, List, [], ◌∷◌, Some, None}
use Rattle.mt_terms.specs.Market.{Market, Program, Pair, Partners}
use Rattle.mt_terms.specs.Matching.{Places}
use Rattle.mt_terms.specs.Rounds.{Work, round}

-- a program with one post and this ranking
abbrev pub one_post : List ℕ → Program
one_post ranking = record { quota = 1; ranking = ranking }

abbrev pub couple : ℕ → ℕ → List Pair → Partners
couple first second pairs = record { first = first; second = second; pairs = pairs }

abbrev pub market : List Program → List (List ℕ) → List Partners → Market
market programs lists couples = record { programs = programs; lists = lists; couples = couples }

abbrev pub both : ℕ → ℕ → Pair
both x y = (Some x, Some y)

-- Two applicants and two programs that want each other crosswise.
--     program,P1,1,a2,a1    program,P2,1,a1,a2    applicant,a1,P1,P2    applicant,a2,P2,P1
abbrev pub crossed : Market
crossed = market (one_post (1 ∷ 0 ∷ []) ∷ one_post (0 ∷ 1 ∷ []) ∷ []) ((0 ∷ 1 ∷ []) ∷ (1 ∷ 0 ∷ []) ∷ []) []

-- A third applicant, whom the first program wants in between.
--     program,P1,1,a2,a3,a1    program,P2,1,a1,a2    applicant,a1,P1,P2    applicant,a2,P2,P1    applicant,a3,P1
abbrev pub chain : Market
chain = market (one_post (1 ∷ 2 ∷ 0 ∷ []) ∷ one_post (0 ∷ 1 ∷ []) ∷ []) ((0 ∷ 1 ∷ []) ∷ (1 ∷ 0 ∷ []) ∷ (0 ∷ []) ∷ []) []

-- A program with no post.
--     program,Z,0,a1,a2    program,Y,1,a2    applicant,a1,Z    applicant,a2,Z,Y
abbrev pub closed : Market
closed = market (record { quota = 0; ranking = 0 ∷ 1 ∷ [] } ∷ one_post (1 ∷ []) ∷ []) ((0 ∷ []) ∷ (0 ∷ 1 ∷ []) ∷ []) []

-- Nobody lists who lists it.
--     program,P,1,a1    program,Q,1    applicant,a1,Q    applicant,a2,P
abbrev pub one_sided : Market
one_sided = market (one_post (0 ∷ []) ∷ one_post [] ∷ []) ((1 ∷ []) ∷ (0 ∷ []) ∷ []) []

-- Two posts for three applicants.
--     program,P,2,c,a,b    applicant,a,P    applicant,b,P    applicant,c,P
abbrev pub two_posts : Market
two_posts = market (record { quota = 2; ranking = 2 ∷ 0 ∷ 1 ∷ [] } ∷ []) ((0 ∷ []) ∷ (0 ∷ []) ∷ (0 ∷ []) ∷ []) []

-- A couple that wants one program for both members. The program wants a single in between.
--     program,x,2,a,s,b    applicant,s,x    couple,c,a,b,x,x
abbrev pub single_between : Market
single_between = market (record { quota = 2; ranking = 1 ∷ 0 ∷ 2 ∷ [] } ∷ []) ((0 ∷ []) ∷ [] ∷ [] ∷ []) (couple 1 2 (both 0 0 ∷ []) ∷ [])

-- The same, but the program wants the single least.
--     program,x,2,a,b,s    applicant,s,x    couple,c,a,b,x,x
abbrev pub single_last : Market
single_last = market (record { quota = 2; ranking = 1 ∷ 2 ∷ 0 ∷ [] } ∷ []) ((0 ∷ []) ∷ [] ∷ [] ∷ []) (couple 1 2 (both 0 0 ∷ []) ∷ [])

-- No match is stable.
--     program,x,1,a,s    program,y,1,s,b    applicant,s,x,y    couple,c,a,b,x,y
abbrev pub unstable : Market
unstable = market (one_post (1 ∷ 0 ∷ []) ∷ one_post (0 ∷ 2 ∷ []) ∷ []) ((0 ∷ 1 ∷ []) ∷ [] ∷ [] ∷ []) (couple 1 2 (both 0 1 ∷ []) ∷ [])

-- The same, but the single wants the other program more.
--     program,x,1,a,s    program,y,1,s,b    applicant,s,y,x    couple,c,a,b,x,y
abbrev pub single_elsewhere : Market
single_elsewhere = market (one_post (1 ∷ 0 ∷ []) ∷ one_post (0 ∷ 2 ∷ []) ∷ []) ((1 ∷ 0 ∷ []) ∷ [] ∷ [] ∷ []) (couple 1 2 (both 0 1 ∷ []) ∷ [])

-- The unstable market. The couple would also have its second member unplaced.
--     program,x,1,a,s    program,y,1,s,b    applicant,s,x,y    couple,c,a,b,x,y,x,-
abbrev pub half_pair : Market
half_pair = market (one_post (1 ∷ 0 ∷ []) ∷ one_post (0 ∷ 2 ∷ []) ∷ []) ((0 ∷ 1 ∷ []) ∷ [] ∷ [] ∷ []) (couple 1 2 (both 0 1 ∷ (Some 0, None) ∷ []) ∷ [])

-- Three couples. The third takes out the first, which opens a seat for the second.
--
--     program,p,1,d1,a1    program,q,1,a2    program,r,1,e1,d2    program,t,1,e2    program,u,1,a1    program,v,1,a2
--     couple,D,d1,d2,p,r    couple,A,a1,a2,p,q,u,v    couple,E,e1,e2,r,t
abbrev pub six_programs : List Program
six_programs =
    one_post (0 ∷ 2 ∷ []) ∷ one_post (3 ∷ []) ∷ one_post (4 ∷ 1 ∷ []) ∷ one_post (5 ∷ []) ∷ one_post (2 ∷ []) ∷ one_post (3 ∷ []) ∷ []

abbrev pub no_lists : ℕ → List (List ℕ)
no_lists zero = []
no_lists (suc n) = [] ∷ no_lists n

abbrev pub three_couples : Market
three_couples = market six_programs (no_lists 6) (couple 0 1 (both 0 2 ∷ []) ∷ couple 2 3 (both 0 1 ∷ both 4 5 ∷ []) ∷ couple 4 5 (both 2 3 ∷ []) ∷ [])

-- The same, but the second couple would have its second member unplaced.
--     couple,A,a1,a2,p,-,u,v
abbrev pub three_couples_half : Market
three_couples_half = market six_programs (no_lists 6) (couple 0 1 (both 0 2 ∷ []) ∷ couple 2 3 ((Some 0, None) ∷ both 4 5 ∷ []) ∷ couple 4 5 (both 2 3 ∷ []) ∷ [])

-- Two couples. One member is displaced, and its partner withdraws. The seat goes to a single.
--     program,x,2,c,e1,d,s    program,z,1,e2    applicant,s,x    couple,D,c,d,x,x    couple,E,e1,e2,x,z
abbrev pub partner_withdraws : Market
partner_withdraws =
    market (record { quota = 2; ranking = 1 ∷ 3 ∷ 2 ∷ 0 ∷ [] } ∷ one_post (4 ∷ []) ∷ []) ((0 ∷ []) ∷ [] ∷ [] ∷ [] ∷ [] ∷ [])
    (couple 1 2 (both 0 0 ∷ []) ∷ couple 3 4 (both 0 1 ∷ []) ∷ [])

-- A couple that finds the seat from which it drove a single open to its other member. No match is stable.
--     program,w,1,a    program,x,1,a,s,b    program,y,1,b    applicant,s,x    couple,c,a,b,w,x,x,y
abbrev pub own_seat : Market
own_seat =
    market (one_post (1 ∷ []) ∷ one_post (1 ∷ 0 ∷ 2 ∷ []) ∷ one_post (2 ∷ []) ∷ []) ((1 ∷ []) ∷ [] ∷ [] ∷ [])
    (couple 1 2 (both 0 1 ∷ both 1 2 ∷ []) ∷ [])

-- Three couples. The second takes out the first, and so opens a seat for the third, which hasn't entered yet.
--
--     program,r,1,a2,c1    program,w,1,c2    program,x,1,b1,a1    program,z,1,b2
--     couple,A,a1,a2,x,r    couple,B,b1,b2,x,z    couple,C,c1,c2,r,w
abbrev pub couple_outside : Market
couple_outside =
    market (one_post (1 ∷ 4 ∷ []) ∷ one_post (5 ∷ []) ∷ one_post (2 ∷ 0 ∷ []) ∷ one_post (3 ∷ []) ∷ []) (no_lists 6)
    (couple 0 1 (both 2 0 ∷ []) ∷ couple 2 3 (both 2 3 ∷ []) ∷ couple 4 5 (both 0 1 ∷ []) ∷ [])

-- nobody is placed
abbrev pub nobody : ℕ → Places
nobody zero = []
nobody (suc n) = None ∷ nobody n

-- the states after each of the first n rounds
abbrev pub rounds_of : Market → ℕ → ℕ → Work → List Work
rounds_of m k zero w = []
rounds_of m k (suc n) w = let next : Work = round m k w in next ∷ rounds_of m k n next
