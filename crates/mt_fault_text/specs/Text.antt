-- What a check of one file writes: a line for each fault, and their number; or a line for an accepted market. This project's
-- own format.
use Rattle.std.specs.Prelude.{ℕ, List, [], ◌∷◌, ◌++◌, length, codes, decimal}
use Rattle.std.specs.List.{flat_map}
use Rattle.mt_terms.specs.Market.{Registered, applicants}
use Rattle.mt_terms.specs.Registration.Accepted.{list_entries}
use Rattle.mt_terms.specs.Registration.Ids.{Bytes}
use Rattle.mt_terms.specs.Text.{id_text, line, name_among, refusals}
use Rattle.mt_line_numbers.specs.Records.{line_of_record}
use Rattle.mt_fault_terms.specs.Faults.{FileFault}
use Rattle.mt_fault_text.specs.Mutual.{mutual_entries}

-- The line of a fault of a record that begins on this line. It has the code and its name, the numbers of the record, the line and
-- the field, and the id at fault.
abbrev pub fault_line_at : ℕ → FileFault → Bytes
fault_line_at begins_on fault =
    line (
    codes "check" ∷ codes "1" ∷ codes "fault" ∷ decimal fault.1.code ∷ name_among refusals fault.1.code ∷ decimal fault.0 ∷ decimal begins_on
    ∷ decimal fault.1.field ∷ id_text fault.1.id ∷ []
    )

-- the line of a fault in a text
abbrev pub fault_line : Bytes → FileFault → Bytes
fault_line text fault = fault_line_at (line_of_record text fault.0) fault

-- the lines of faults in a text
abbrev pub fault_lines : Bytes → List FileFault → Bytes
fault_lines text faults = flat_map (fault_line text) faults

-- the line of how many faults there are
abbrev pub count_line : ℕ → Bytes
count_line n = line (codes "check" ∷ codes "1" ∷ codes "faults" ∷ decimal n ∷ [])

-- the lines of all faults, and that of their number
abbrev pub all_lines : Bytes → List FileFault → Bytes
all_lines text faults = fault_lines text faults ++ count_line (length faults)

-- The line of an accepted market: how many applicants, programs, couples and list entries it has, and how many of these are mutual.
abbrev pub accepted_line : Registered → Bytes
accepted_line r =
    line (
    codes "check" ∷ codes "1" ∷ codes "accepted" ∷ decimal (applicants r.market) ∷ decimal (length r.market.programs)
    ∷ decimal (length r.market.couples) ∷ decimal (list_entries r.market) ∷ decimal (mutual_entries r.market) ∷ []
    )
