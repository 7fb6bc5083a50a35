-- The boxes of the members of a line, in order.
use Rattle.std.specs.Prelude.{◌≡◌, ℕ, List, Some, IfSome, slice_get, map, All}
use Rattle.std.specs.Ordering.{nat_cmp, ordering_then}
use Rattle.std.specs.declared.cmp.Ordering.{Ordering}
use Rattle.std.specs.List.Sorted.{IsPermutation, IsSorted}
use Rattle.layout_geom.specs.declared.rect.Rect.{Rect}
use Rattle.layout_geom.specs.Rectangles.{Encloses}

-- by the left side, then the upper, the right and the lower one
abbrev pub compare_sides : Rect → Rect → Ordering
compare_sides r s =
    ordering_then (ordering_then (ordering_then (nat_cmp r.x0 s.x0) (nat_cmp r.y0 s.y0)) (nat_cmp r.x1 s.x1)) (nat_cmp r.y1 s.y1)

-- the boxes at the members' positions, each once for each member
abbrev pub AreMembers : List Rect → List ℕ → List Rect → Type 0
AreMembers boxes members given = map (slice_get boxes) members ≡ map (λ r. Some r) given

-- the same boxes from left to right
pub record IsLine (boxes : List Rect) (members : List ℕ) (line : List Rect) : Type 0 where
  pub given : List Rect
  pub are_members : AreMembers boxes members given
  pub rearranged : IsPermutation given line
  pub sorted : IsSorted compare_sides line

-- a rectangle is round the boxes of the members
abbrev pub IsRound : List Rect → List ℕ → Rect → Type 0
IsRound boxes members outer = All (λ position. IfSome (slice_get boxes position) (λ box. Encloses outer box)) members
