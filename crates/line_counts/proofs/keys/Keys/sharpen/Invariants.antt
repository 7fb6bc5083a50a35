use Rattle.std.proofs.Common.{◌≡◌}
use Rattle.line_counts.proofs.keys.Keys.sharpen.Given as goal

abbrev pub invariant-loop : goal.invariant-loop
invariant-loop l = l.self ≡ l.fn.self
