-- Lists of obstacles that leave the same white space.
use Rattle.std.specs.Prelude.{ℕ, ◌⊎◌, List}
use Rattle.layout_geom.specs.declared.rect.Rect.{Rect}
use Rattle.layout_geom.specs.Rectangles.{Overlaps, IsClear, HasSides}
use Rattle.whitespace_cover.specs.Admissible.{IsRoomy}

module _ (least : ℕ) where
  -- a rectangle of the least size that overlaps the joint overlaps one of the two
  abbrev pub IsJoint : Rect → Rect → Rect → Type 0
  IsJoint a b joint = (r : Rect) → IsRoomy least r → Overlaps r joint → Overlaps r a ⊎ Overlaps r b

  -- a rectangle of the least size that is clear of the first list is clear of the second
  abbrev pub Blocks : List Rect → List Rect → Type 0
  Blocks xs ys = (r : Rect) → IsRoomy least r → IsClear r xs → IsClear r ys

  -- and the other way round
  pub record LeaveSame (xs ys : List Rect) : Type 0 where
    pub there : Blocks xs ys
    pub back : Blocks ys xs

-- the columns of the one are the rows of the other
abbrev pub IsTurned : Rect → Rect → Type 0
IsTurned r turned = HasSides turned r.y0 r.x0 r.y1 r.x1
