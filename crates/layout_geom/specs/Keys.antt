-- The key of a rectangle.
use Rattle.std.specs.Prelude.{◌≡◌, ℕ, ◌+◌, ◌-◌, ◌*◌, ◌^◌, ◌<◌, ◌⊎◌}
use Rattle.layout_limits.specs.declared.TheConstants.{MAX_SIDE}
use Rattle.layout_geom.specs.declared.rect.Rect.{Rect}
use Rattle.layout_geom.specs.Rectangles.{width_of, area_of}

-- four digits: the area, then the distances of y0, of x0 and of the width from their greatest values
unfoldable pub rect_key : Rect → ℕ
rect_key r = (area_of r - 1) * 2 ^ 39 + (MAX_SIDE - 1 - r.y0) * 2 ^ 26 + (MAX_SIDE - 1 - r.x0) * 2 ^ 13 + (MAX_SIDE - width_of r)

-- the first has the greater area, or else the lesser y0, or else the lesser x0, or else the lesser width
abbrev pub Outranks : Rect → Rect → Type 0
Outranks r s =
    (area_of s < area_of r)
    ⊎ ((area_of r ≡ area_of s) × (r.y0 < s.y0))
    ⊎ ((area_of r ≡ area_of s) × (r.y0 ≡ s.y0) × (r.x0 < s.x0))
    ⊎ ((area_of r ≡ area_of s) × (r.y0 ≡ s.y0) × (r.x0 ≡ s.x0) × (width_of r < width_of s))
