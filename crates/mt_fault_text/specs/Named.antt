-- The code of the fault that a match of a file names, by the codes of all its faults in their order.
use Rattle.std.specs.Prelude.{ℕ, Bool, ◌||◌, not, nat_lt, List, [], ◌∷◌, Option, Some, None, if◌then◌else◌}
use Rattle.mt_terms.specs.declared.codes.TheConstants.{UNKNOWN_APPLICANT}
use Rattle.mt_fault_terms.specs.Faults.{FileFault}

-- whether the first pass of a match finds faults with this code
abbrev pub is_early : ℕ → Bool
is_early code = nat_lt code UNKNOWN_APPLICANT

-- The code that a match names of some faults and one more. The first of the first pass comes before all others.
abbrev pub named_with : Option ℕ → ℕ → ℕ
named_with None code = code
named_with (Some named) code = if is_early named || not (is_early code) then named else code

-- the code that a match names of some faults and of these
abbrev pub named_after : Option ℕ → List FileFault → Option ℕ
named_after named [] = named
named_after named (fault ∷ faults) = named_after (Some (named_with named fault.1.code)) faults
