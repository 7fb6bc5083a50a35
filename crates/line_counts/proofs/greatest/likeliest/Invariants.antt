use Rattle.std.proofs.Common.{◌<◌}
use Rattle.line_counts.proofs.greatest.likeliest.Given as goal

abbrev pub invariant-loop-more : goal.invariant-loop-more
invariant-loop-more l = l.place < l.offsets
