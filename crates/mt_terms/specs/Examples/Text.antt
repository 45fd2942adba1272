-- What the program writes, byte for byte.
use Rattle.std.specs.Prelude.{◌≡◌, true, false, [], ◌∷◌, Some, None, codes}
use Rattle.mt_terms.specs.Examples.Markets
use Rattle.mt_terms.specs.Text.{published, refused, is_none_or_id}
use Rattle.mt_terms.specs.declared.codes.TheConstants.{NOT_REGISTERED}

-- the text of the best match of the crossed wishes
pub record CrossedText : Type 0 where
  pub text : published Markets.crossed (record { programs = codes "P1" ∷ codes "P2" ∷ []; applicants = codes "a1" ∷ codes "a2" ∷ []; couples = [] })
      (Some 0 ∷ Some 1 ∷ []) (1 ∷ 1 ∷ [])
      ≡ codes "match,1,published\napplicant,a1,P1\napplicant,a2,P2\nprogram,P1,1,1,1\nprogram,P2,1,1,1\ntotals,2,0,2,0\n"

-- a program with two posts, and an applicant with no place
pub record TwoPostsText : Type 0 where
  pub text : published Markets.two_posts (record { programs = codes "P" ∷ []; applicants = codes "a" ∷ codes "b" ∷ codes "c" ∷ []; couples = [] })
      (Some 0 ∷ None ∷ Some 0 ∷ []) (3 ∷ [])
      ≡ codes "match,1,published\napplicant,a,P\napplicant,b,-\napplicant,c,P\nprogram,P,2,2,3\ntotals,3,1,2,0\n"

-- a couple's members are among the applicants
pub record SingleBetweenText : Type 0 where
  pub text : published Markets.single_between (record { programs = codes "x" ∷ []; applicants = codes "s" ∷ codes "a" ∷ codes "b" ∷ []; couples = codes "c" ∷ [] })
      (Some 0 ∷ None ∷ None ∷ []) (1 ∷ [])
      ≡ codes "match,1,published\napplicant,s,x\napplicant,a,-\napplicant,b,-\nprogram,x,2,1,1\ntotals,3,2,2,1\n"

-- refusals with a record and an id, with a record alone, and with neither
pub record RefusalLines : Type 0 where
  pub with_id : refused 17 3 (codes "a") ≡ codes "match,1,refused,17,DuplicateId,3,a\n"
  pub with_record : refused 14 2 [] ≡ codes "match,1,refused,14,FieldCount,2,-\n"
  pub alone : refused 41 0 [] ≡ codes "match,1,refused,41,BudgetSpent,0,-\n"
  pub last_fault : refused NOT_REGISTERED 5 (codes "a") ≡ codes "match,1,refused,22,NotRegistered,5,a\n"
  pub last_record : refused 19 20002 (codes "p20001") ≡ codes "match,1,refused,19,TooMany,20002,p20001\n"

-- An id has neither a comma nor a line feed in it.
pub record BytesOfAnId : Type 0 where
  pub some : is_none_or_id (codes "a.1_b:2-C") ≡ true
  pub comma : is_none_or_id (codes "a,b") ≡ false
  pub line_feed : is_none_or_id (codes "a\nb") ≡ false
