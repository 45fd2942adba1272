-- What holds of every fault of a file.
use Rattle.std.specs.Prelude.{◌≡◌, List, Err, IsTrue}
use Rattle.mt_terms.specs.Registration.{market_of}
use Rattle.mt_terms.specs.Registration.Faults.{Fault}
use Rattle.mt_terms.specs.Registration.Ids.{Bytes}
use Rattle.mt_terms.specs.Text.{is_fault_code, is_none_or_id}

-- each fault of a file has one of the known codes from 12 to 22
abbrev pub FaultCodes : Type 0
FaultCodes = (rows : List (List Bytes)) (fault : Fault) → market_of rows ≡ Err fault → IsTrue (is_fault_code fault.code)

-- the id of each fault of a file is empty or an id
abbrev pub FaultIds : Type 0
FaultIds = (rows : List (List Bytes)) (fault : Fault) → market_of rows ≡ Err fault → IsTrue (is_none_or_id fault.id)
