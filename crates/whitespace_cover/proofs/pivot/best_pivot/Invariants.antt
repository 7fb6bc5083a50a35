use Rattle.std.proofs.Common.{ℕ, ◌<◌, MatchOption, Contains, get_or}
use Rattle.layout_geom.specs.declared.rect.Rect.{Rect}
use Rattle.layout_geom.specs.Rectangles.{Overlaps}
use Rattle.whitespace_cover.proofs.pivot.best_pivot.Given as goal

abbrev pub invariant-loop-obstacle : goal.invariant-loop-obstacle
invariant-loop-obstacle l = MatchOption l.best
    ((k : ℕ) → k < l.obstacle-index → (d : Rect) → Overlaps l.rect (get_or l.obstacles k d) → ⊥)
    (λ pivot. Contains l.obstacles pivot × Overlaps l.rect pivot)
