use Rattle.std.proofs.Common.{◌≡◌, ◌-◌, ◌≤◌, ◌+◌, ◌++◌, length, take, vec_len, vec_capacity}
use Rattle.layout_outside.proofs.sure_sink.SureSink.put_all_sure.Given as goal

abbrev pub invariant-loop-at : goal.invariant-loop-at
invariant-loop-at l = record {
  within : l.at ≤ length l.text;
  items : l.self.bytes.items ≡ l.initial.self.bytes.items ++ take l.at l.text;
  len : vec_len l.self.bytes ≡ vec_len l.initial.self.bytes + l.at;
  capacity : vec_capacity l.self.bytes ≡ vec_capacity l.initial.self.bytes;
  piece : l.self.piece ≡ l.initial.self.piece;
}

abbrev pub decreases-loop-at : goal.decreases-loop-at
decreases-loop-at l = length l.text - l.at
