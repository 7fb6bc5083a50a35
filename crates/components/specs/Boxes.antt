-- The boxes of the components of a page.
use Rattle.std.specs.Prelude.{◌<◌, ◌⊎◌, List, Any}
use Rattle.std.specs.List.{AllZip, AllPairs}
use Rattle.page_runs.specs.Page.{Page}
use Rattle.layout_geom.specs.declared.rect.Rect.{Rect}
use Rattle.layout_geom.specs.Rectangles.{width_of, height_of, HasPixel, IsLeastRect}
use Rattle.components.specs.declared.place.Place.{Place}
use Rattle.components.specs.declared.scan.TheConstants.{MAX_NOISE}
use Rattle.components.specs.Connected.{IsBlack, IsConnected}

-- the rectangle has every place connected with this one
abbrev pub HasComponent : Page → Place → Rect → Type 0
HasComponent page p box = (q : Place) → IsConnected page p q → HasPixel box q.x q.y

-- the least rectangle round the component of this place
abbrev pub IsBoxOf : Page → Place → Rect → Type 0
IsBoxOf page p box = IsLeastRect (HasComponent page p) box

-- wider or higher than noise
abbrev pub IsLarge : Rect → Type 0
IsLarge box = (MAX_NOISE < width_of box) ⊎ (MAX_NOISE < height_of box)

-- the place is of a component with this box, which is kept
pub record IsKept (page : Page) (p : Place) (box : Rect) : Type 0 where
  pub black : IsBlack page p
  pub is_box : IsBoxOf page p box
  pub large : IsLarge box

-- one place of each kept component, and the boxes of these components in the same order
pub record AreKept (page : Page) (places : List Place) (boxes : List Rect) : Type 0 where
  pub kept : AllZip (IsKept page) places boxes
  pub apart : AllPairs (λ p q. IsConnected page p q → ⊥) places
  pub every : (p : Place) (box : Rect) → IsKept page p box → Any (IsConnected page p) places
