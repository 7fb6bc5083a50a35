use Rattle.std.proofs.Common.{◌≡◌, ◌≤◌, ◌*◌}
use Rattle.run_smear.specs.Painted.{GotBlack, IsBetween}
use Rattle.run_smear.proofs.painting.blacken_bytes.Given as goal

-- The bytes from the first one up to this one are black, and the others are as they were.
abbrev pub invariant-loop-byte : goal.invariant-loop-byte
invariant-loop-byte l = record {
  got : GotBlack (IsBetween (8 * l.from) (8 * l.byte)) l.fn.bits l.bits;
  none : l.to ≤ l.from → l.byte ≡ l.from;
}
