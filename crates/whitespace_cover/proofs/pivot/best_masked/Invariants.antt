use Rattle.std.proofs.Common.{MatchOption, Contains}
use Rattle.layout_geom.specs.Rectangles.{Overlaps}
use Rattle.whitespace_cover.specs.Masks.{IsMask}
use Rattle.whitespace_cover.proofs.pivot.best_masked.Given as goal

-- what is left of the mask leaves out what was looked at, as long as nothing was overlapped
abbrev pub invariant-loop-rest : goal.invariant-loop-rest
invariant-loop-rest l = record {
  best : MatchOption l.pivot (IsMask l.obstacles l.region.rect l.rest) (λ pivot. Contains l.obstacles pivot × Overlaps l.region.rect pivot);
  mask : IsMask l.obstacles l.region.rect l.mask;
}

abbrev pub decreases-loop-rest : goal.decreases-loop-rest
decreases-loop-rest l = l.rest
