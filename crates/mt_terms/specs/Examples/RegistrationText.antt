-- Examples of files of records are written as a file is: a line for each record, its fields between commas.
use Rattle.std.specs.Prelude.{ℕ, ◌==◌, List, [], ◌∷◌, map, Result, Err, codes, if◌then◌else◌}
use Prim.Native.String.{String}
use Rattle.mt_terms.specs.Registration.Ids.{Bytes}
use Rattle.mt_terms.specs.Registration.Faults.{Fault}
use Rattle.mt_terms.specs.Market.{Market, Registered}

-- a byte put before the first of these fields
abbrev pub onto_first : ℕ → List Bytes → List Bytes
onto_first b [] = (b ∷ []) ∷ []
onto_first b (field ∷ fields) = (b ∷ field) ∷ fields

-- the fields between commas
abbrev pub between_commas : List ℕ → List Bytes
between_commas [] = [] ∷ []
between_commas (b ∷ bs) = if b == 44 then [] ∷ between_commas bs else onto_first b (between_commas bs)

-- a line without a byte has no field
abbrev pub fields_of : List ℕ → List Bytes
fields_of [] = []
fields_of (b ∷ bs) = between_commas (b ∷ bs)

-- the records of these lines, and of these lines after the one that names a version
abbrev pub file : List String → List (List Bytes)
file lines = map (λ line. fields_of (codes line)) lines

abbrev pub file_1 : List String → List (List Bytes)
file_1 lines = file ("match,1" ∷ lines)

abbrev pub file_2 : List String → List (List Bytes)
file_2 lines = file ("match,2" ∷ lines)

-- a market with the ids of its programs, of its applicants and of its couples
abbrev pub named : Market → String → String → String → Registered
named m programs applicants couples = record { market = m; names = record { programs = ids programs; applicants = ids applicants; couples = ids couples } }
  where
    ids : String → List Bytes
    ids line = fields_of (codes line)

-- refused with this code, at this record, with this id
abbrev pub refused : {X : Type 0} → ℕ → ℕ → String → Result X Fault
refused code row id = Err (record { code = code; row = row; id = codes id })
