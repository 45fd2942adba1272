-- Examples of files with faults. A fault is written as its record, its code, its field and its id.
use Rattle.std.specs.Prelude.{ℕ, List, [], ◌∷◌, codes}
use Prim.Native.String.{String}
use Rattle.mt_terms.specs.declared.codes.TheConstants.{UNKNOWN_KIND, FIELD_COUNT, BAD_ID, BAD_QUOTA, DUPLICATE_ID, DUPLICATE_ENTRY, UNKNOWN_APPLICANT, UNKNOWN_PROGRAM, NOT_REGISTERED}
use Rattle.mt_terms.specs.Registration.Passes.{numbered_from}
use Rattle.mt_terms.specs.Registration.Records.{Rules}
use Rattle.mt_terms.specs.Examples.RegistrationText.{file}
use Rattle.mt_fault_terms.specs.Faults.{FileFault}
use Rattle.mt_fault_terms.specs.OfFile.{faults_under}

abbrev pub found : (row code field : ℕ) → String → FileFault
found row code field id = (row, record { code = code; field = field; id = codes id })

-- the faults of these records after a first one, by rules
abbrev pub faults_within : Rules → List String → List FileFault
faults_within rules lines = faults_under rules (numbered_from 2 (file lines))

-- a record with a fault of each code but those of versions and limits, and the records that are beside them
abbrev pub each_code_file : List String
each_code_file =
    "post,x" ∷ "program,p" ∷ "program,q,1,a!" ∷ "program,r,x" ∷ "applicant,a,q" ∷ "" ∷ "applicant,a" ∷ "program,s,1,a,a" ∷ "program,t,1,z" ∷ "applicant,b,y"
    ∷ "withdraw,couple,c" ∷ []

abbrev pub each_code : List FileFault
each_code =
    found 2 UNKNOWN_KIND 1 "" ∷ found 3 FIELD_COUNT 0 "" ∷ found 4 BAD_ID 4 "" ∷ found 5 BAD_QUOTA 3 "r" ∷ found 8 DUPLICATE_ID 2 "a"
    ∷ found 9 DUPLICATE_ENTRY 5 "a" ∷ found 10 UNKNOWN_APPLICANT 4 "z" ∷ found 11 UNKNOWN_PROGRAM 3 "y" ∷ found 12 NOT_REGISTERED 3 "c" ∷ []

-- a couple with an odd number of fields, one member twice, a pair of two dashes, a pair twice, and programs that nobody registers
abbrev pub couple_at_fault : List String
couple_at_fault = "couple,c,a,a,-,-,x,y,x,y,z" ∷ []

abbrev pub faults_of_couple : List FileFault
faults_of_couple =
    found 2 FIELD_COUNT 0 "" ∷ found 2 BAD_ID 5 "" ∷ found 2 BAD_ID 6 "" ∷ found 2 DUPLICATE_ID 4 "a" ∷ found 2 DUPLICATE_ENTRY 9 "x"
    ∷ found 2 UNKNOWN_PROGRAM 7 "x" ∷ found 2 UNKNOWN_PROGRAM 8 "y" ∷ found 2 UNKNOWN_PROGRAM 9 "x" ∷ found 2 UNKNOWN_PROGRAM 10 "y" ∷ []

-- a program with an id and an entry that are no ids, a field that is no quota, and an entry twice that nobody registers
abbrev pub faults_of_program : List FileFault
faults_of_program =
    found 2 BAD_ID 2 "" ∷ found 2 BAD_ID 4 "" ∷ found 2 BAD_QUOTA 3 "" ∷ found 2 DUPLICATE_ENTRY 6 "b"
    ∷ found 2 UNKNOWN_APPLICANT 5 "b" ∷ found 2 UNKNOWN_APPLICANT 6 "b" ∷ []

-- a program without a quota and a couple without a last field, whose ids other records list
abbrev pub registered_at_fault_file : List String
registered_at_fault_file = "program,p,many,a,d" ∷ "applicant,a,p" ∷ "couple,c,d,e,p" ∷ "program,q,1,e,d" ∷ "withdraw,couple,c" ∷ []
