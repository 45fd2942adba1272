-- What is kept of the front of a fault's line.
use Rattle.std.specs.Prelude.{◌≡◌, ℕ, ◌≤◌, length}
use Rattle.mt_terms.specs.Registration.Ids.{Bytes}
use Rattle.mt_fault_text.specs.Pieces.{code_front, fault_front}

-- These are the front of the lines of faults with a code, and that of the lines of such faults in a record that begins on a line.
pub record AreFronts (of_code whole : Bytes) (code number begins_on : ℕ) : Type 0 where
  pub of_code_is : of_code ≡ code_front code
  pub whole_is : whole ≡ fault_front code number begins_on
  pub few : length of_code ≤ 128
  pub short : length whole ≤ 258
