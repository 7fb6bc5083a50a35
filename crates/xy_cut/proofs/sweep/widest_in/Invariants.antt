use Rattle.std.proofs.Common.{take}
use Rattle.xy_cut.specs.Widest.{IsWidestAlong}
use Rattle.xy_cut.proofs.Bands.{IsFarthest}
use Rattle.xy_cut.proofs.sweep.widest_in.Given as goal

abbrev pub invariant-loop-place : goal.invariant-loop-place
invariant-loop-place l = record {
  farthest : IsFarthest l.axis (take l.place l.line) l.end;
  widest : IsWidestAlong l.axis (take l.place l.line) l.least l.widest;
}
