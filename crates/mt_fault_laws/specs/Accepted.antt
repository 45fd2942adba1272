-- How all faults of a file go with what a match of the file gives: its market, or its first fault.
use Rattle.std.specs.Prelude.{◌≡◌, Bool, nat_lt, ◌==◌, List, [], ◌∷◌, find, Option, Some, None, Ok, Err, IsFalse}
use Rattle.mt_terms.specs.declared.codes.TheConstants.{DUPLICATE_ENTRY, UNKNOWN_APPLICANT}
use Rattle.mt_terms.specs.Lists.{head}
use Rattle.mt_terms.specs.Market.{Registered}
use Rattle.mt_terms.specs.Registration.{market_of}
use Rattle.mt_terms.specs.Registration.Ids.{Bytes}
use Rattle.mt_terms.specs.Registration.Faults.{Fault}
use Rattle.mt_terms.specs.Registration.Passes.{first_of}
use Rattle.mt_fault_terms.specs.Faults.{FileFault}
use Rattle.mt_fault_terms.specs.OfFile.{faults_of}

-- a file has no fault if and only if it is accepted
abbrev pub NoFaultMeansAccepted : Type 0
NoFaultMeansAccepted =
    (rows : List (List Bytes)) → (faults_of rows ≡ [] → (r : Registered) × (market_of rows ≡ Ok r)) × ((r : Registered) → market_of rows ≡ Ok r → faults_of rows ≡ [])

-- whether the first pass of a match finds a fault: each but that of an id that no record registers
abbrev pub is_of_first_pass : FileFault → Bool
is_of_first_pass fault = nat_lt fault.1.code UNKNOWN_APPLICANT

-- the fault that a match names, of all faults of a file: the first of those that its first pass finds, or else the first of all
abbrev pub fault_of_match : List FileFault → Option FileFault
fault_of_match faults = first_of (find is_of_first_pass faults ∷ head faults ∷ [])

-- A fault of all is the one that a match names: it has its record and its code. It has its id too, but for a repeated entry, of
-- which the match names the record's own id.
pub record IsNamed (named : Fault) (fault : FileFault) : Type 0 where
  pub row : fault.0 ≡ named.row
  pub code : fault.1.code ≡ named.code
  pub id : IsFalse (named.code == DUPLICATE_ENTRY) → fault.1.id ≡ named.id

-- the fault of a refused file is among all its faults, the first in the order of the match
abbrev pub NamedFaultIsAmong : Type 0
NamedFaultIsAmong =
    (rows : List (List Bytes)) (named : Fault) → market_of rows ≡ Err named
    → (fault : FileFault) × (fault_of_match (faults_of rows) ≡ Some fault) × IsNamed named fault
