-- What the code knows of the bands along one axis.
use Rattle.std.specs.Prelude.{◌≡◌, ℕ, ◌-◌, ◌<◌, ◌≤◌, ◌⊎◌, List, Option, Some, None}
use Rattle.std.specs.List.Sorted.{IsPermutation, IsNonDecreasingBy}
use Rattle.layout_geom.specs.declared.rect.Rect.{Rect}
use Rattle.xy_cut.specs.declared.axis.Axis.{Axis}
use Rattle.xy_cut.specs.declared.band.Band.{Band}
use Rattle.xy_cut.specs.Bands.{start_of, IsBandAlong, IsBand, width_of, IsBestBand}

-- the same boxes, by where they begin
pub record IsInOrder (axis : Axis) (boxes line : List Rect) : Type 0 where
  pub rearranged : IsPermutation boxes line
  pub sorted : IsNonDecreasingBy (start_of axis) line

-- of the widest band so far and one more, the wider one, and the former of two as wide
abbrev pub IsWider : Option Band → Band → Band → Type 0
IsWider (Some widest) band winner =
    ((winner ≡ widest) × (width_of band ≤ width_of widest)) ⊎ ((winner ≡ band) × (width_of widest < width_of band))
IsWider None band winner = winner ≡ band

-- a band is at least as wide as the one from low to high, and no later where they are as wide
pub record Leads (band : Band) (low high : ℕ) : Type 0 where
  pub wide : high - low ≤ width_of band
  pub early : high - low ≡ width_of band → band.low ≤ low

-- a band along the axis that leads all of them, or none exactly where there is none
abbrev pub IsWidestAlong : Axis → List Rect → ℕ → Option Band → Type 0
IsWidestAlong axis boxes least (Some band) =
    (band.axis ≡ axis) × IsBandAlong axis boxes least band.low band.high
    × ((low high : ℕ) → IsBandAlong axis boxes least low high → Leads band low high)
IsWidestAlong axis boxes least None = (low high : ℕ) → IsBandAlong axis boxes least low high → ⊥

-- the best band, or none exactly where there is no band
abbrev pub IsBestOf : List Rect → ℕ → Option Band → Type 0
IsBestOf boxes least (Some band) = IsBestBand boxes least band
IsBestOf boxes least None = (band : Band) → IsBand boxes least band → ⊥
