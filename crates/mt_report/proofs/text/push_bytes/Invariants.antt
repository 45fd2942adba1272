use Rattle.std.proofs.Common.{◌≡◌, ◌+◌, ◌≤◌, ◌++◌, length, take, vec_len, vec_capacity}
use Rattle.mt_report.proofs.text.push_bytes.Given as goal

abbrev pub invariant-loop-byte : goal.invariant-loop-byte
invariant-loop-byte l = record {
  items : l.text.items ≡ l.fn.text.items ++ take l.byte-index l.bytes;
  room : vec_len l.text + length l.bytes ≤ vec_capacity l.text + l.byte-index;
}
