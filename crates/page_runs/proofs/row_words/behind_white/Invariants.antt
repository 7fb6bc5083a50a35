use Rattle.std.proofs.Common.{◌≡◌, ◌≤◌, ◌<◌, ◌+◌, ◌*◌, ◌-◌, ℕ, length}
use Rattle.packed_rows.specs.Page.{pixel}
use Rattle.page_runs.proofs.row_words.behind_white.Given as goal

abbrev pub invariant-loop-byte : goal.invariant-loop-byte
invariant-loop-byte l = record {
  not_before : l.fn.from ≤ l.byte;
  bound : l.byte < length l.bits + 8;
  white : (k : ℕ) → l.fn.from * 8 ≤ k → k < l.byte * 8 → pixel l.bits k ≡ 0;
}

abbrev pub decreases-loop-byte : goal.decreases-loop-byte
decreases-loop-byte l = length l.bits + 8 - l.byte
