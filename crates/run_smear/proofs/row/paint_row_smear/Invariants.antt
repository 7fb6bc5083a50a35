use Rattle.std.proofs.Common.{◌≡◌, length}
use Rattle.run_smear.specs.Painted.{GotBlack, IsInClosed}
use Rattle.run_smear.proofs.row.paint_row_smear.Given as goal

-- What the runs so far have, up to their closed ends, is black, and nothing else.
abbrev pub invariant-loop-place : goal.invariant-loop-place
invariant-loop-place l = record {
  len : length l.bits ≡ length l.fn.bits;
  got : GotBlack (IsInClosed l.runs l.most l.place) l.initial.bits l.bits;
}
