use Rattle.std.proofs.Common.{◌≡◌, ◌≤◌, ◌<◌, ℕ, [], get_or, length, true}
use Rattle.csv.specs.Records.{fields_of}
use Rattle.mt_lists.specs.Records.{is_empty_field}
use Rattle.mt_lists.proofs.read_row.kept_fields.Given as goal

-- each field from there on is empty
abbrev pub invariant-loop-kept : goal.invariant-loop-kept
invariant-loop-kept l =
    (l.kept ≤ length (fields_of l.raw)) × ((k : ℕ) → l.kept ≤ k → k < length (fields_of l.raw) → is_empty_field (get_or (fields_of l.raw) k []) ≡ true)

abbrev pub decreases-loop-kept : goal.decreases-loop-kept
decreases-loop-kept l = l.kept
