use Rattle.std.proofs.Common.{◌≡◌, take}
use Rattle.line_counts.specs.Blocks.{AreBetween}
use Rattle.line_counts.proofs.span.span_of.Given as goal

abbrev pub invariant-loop-member : goal.invariant-loop-member
invariant-loop-member l = record {
  slope : l.span.slope ≡ l.slope;
  between : AreBetween l.boxes l.span (take l.member-index l.members);
}
