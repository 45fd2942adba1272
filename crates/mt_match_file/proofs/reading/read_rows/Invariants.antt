use Rattle.std.proofs.Common.{◌≡◌, ◌+◌, length}
use Rattle.mt_lists.specs.Rows.{rows_left}
use Rattle.mt_terms.specs.Market.{applicants}
use Rattle.mt_terms.specs.Registration.Passes.{numbered_from}
use Rattle.mt_match_file.specs.Reading.{HasRoomFor}
use Rattle.mt_match_file.specs.Submitted.{all_read, nothing_read}
use Rattle.mt_match_file.specs.View.{market_of, read_so_far}
use Rattle.mt_match_file.proofs.reading.read_rows.Given as goal

-- the number is that of the next row, and the rest decides
abbrev pub invariant-loop-row : goal.invariant-loop-row
invariant-loop-row l = record {
  room : HasRoomFor (market_of l.ids).market l.so_far;
  number : l.number + length (rows_left l.row-iterator) ≡ 1 + length (rows_left l.fn.rows);
  goes_on : all_read (market_of l.ids).names (read_so_far l.so_far) (numbered_from l.number (rows_left l.row-iterator))
      ≡ all_read (market_of l.ids).names (nothing_read (applicants (market_of l.ids).market)) (numbered_from 1 (rows_left l.fn.rows));
}
