use Rattle.std.proofs.Common.{◌≡◌, ◌+◌, ℕ, get_or, arith, ap}
use Rattle.line_counts.proofs.parts.bell.Goals as goal

same_place : (place : ℕ) → place + 0 ≡ place
same_place place = omega arith

pub returns : goal.returns
returns c = omega (arith, ap (λ (n : ℕ). get_or c.args.counts.now n 0) (same_place c.args.place))
