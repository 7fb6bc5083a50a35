use Rattle.std.proofs.Common.{◌≡◌, ◌-◌, ℕ, List, ◌∷◌}
use Rattle.reading_order.specs.Tables.{Marks}
use Rattle.reading_order.proofs.Trails.{IsTrail}
use Rattle.reading_order.proofs.cycle.cycle_through.Given as goal

abbrev pub invariant-loop-passed : goal.invariant-loop-passed
invariant-loop-passed l = (path : List ℕ) × (l.cycle ≡ l.start ∷ path) × IsTrail (Marks l.before) l.before.side l.start l.steps l.whole path l.last (l.whole - l.passed)
