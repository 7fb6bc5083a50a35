-- White bands between boxes, and the sides of a cut.
use Rattle.std.specs.Prelude.{◌≡◌, ℕ, ◌+◌, ◌-◌, ◌<◌, ◌≤◌, ◌⊎◌, Bool, nat_le, nat_lt, List, All, Any, filter}
use Rattle.layout_geom.specs.declared.rect.Rect.{Rect}
use Rattle.xy_cut.specs.declared.axis.Axis.{Axis}
use Rattle.xy_cut.specs.declared.axis.Axis.TheVariants.{Across, Down}
use Rattle.xy_cut.specs.declared.band.Band.{Band}
use Rattle.xy_cut.specs.declared.cell.Side.{Side}
use Rattle.xy_cut.specs.declared.cell.Side.TheVariants.{Before, After}

-- where a box begins along an axis
abbrev pub start_of : Axis → Rect → ℕ
start_of Across r = r.x0
start_of Down r = r.y0

-- and where it ends
abbrev pub end_of : Axis → Rect → ℕ
end_of Across r = r.x1
end_of Down r = r.y1

-- A white band through boxes, from low to high along an axis: it is at least so wide, no box reaches into it, and it goes from the
-- end of a box to the beginning of another.
pub record IsBandAlong (axis : Axis) (boxes : List Rect) (least low high : ℕ) : Type 0 where
  pub wide : low + least ≤ high
  pub apart : All (λ box. (end_of axis box ≤ low) ⊎ (high ≤ start_of axis box)) boxes
  pub ends : Any (λ box. end_of axis box ≡ low) boxes
  pub begins : Any (λ box. start_of axis box ≡ high) boxes

abbrev pub IsBand : List Rect → ℕ → Band → Type 0
IsBand boxes least band = IsBandAlong band.axis boxes least band.low band.high

abbrev pub width_of : Band → ℕ
width_of band = band.high - band.low

-- The first band is better: it is wider; or it is as wide and parts above from below, and the other one left from right; or they part
-- alike and are as wide, and it comes first.
abbrev pub IsBetter : Band → Band → Type 0
IsBetter band other =
    (width_of other < width_of band)
    ⊎ ((width_of band ≡ width_of other) × (band.axis ≡ Down) × (other.axis ≡ Across))
    ⊎ ((width_of band ≡ width_of other) × (band.axis ≡ other.axis) × (band.low < other.low))

-- the best of the bands through boxes
pub record IsBestBand (boxes : List Rect) (least : ℕ) (band : Band) : Type 0 where
  pub is_band : IsBand boxes least band
  pub best : (other : Band) → IsBand boxes least other → IsBetter other band → ⊥

-- a box that ends at a band or before it is on its one side, and any other on its other side
abbrev pub is_on : Band → Side → Rect → Bool
is_on band Before box = nat_le (end_of band.axis box) band.low
is_on band After box = nat_lt band.low (end_of band.axis box)

-- the boxes on a side of a band, in their order
abbrev pub part_of : Band → Side → List Rect → List Rect
part_of band side boxes = filter (is_on band side) boxes
