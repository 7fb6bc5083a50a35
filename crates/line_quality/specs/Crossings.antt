-- The gutters that a line crosses.
use Rattle.std.specs.Prelude.{ℕ, ℤ, List, map}
use Rattle.std.specs.List.{filter}
use Rattle.layout_geom.specs.declared.Rect.{Rect}
use Rattle.line_quality.specs.Points.{middle_of, is_crossed}

-- the middles of the crossed gutters
abbrev pub crossed_middles : ℤ → ℤ → List Rect → List ℕ
crossed_middles slope offset gutters = map middle_of (filter (is_crossed slope offset) gutters)
