-- What holds of all problems: their numbers decide them, and the bound of a node that fits bounds its keys.
use Rattle.std.proofs.Common.{◌≡◌, ℕ, ◌<◌, ◌≤◌, List, arith, subst, refl}
use Rattle.std.specs.Prelude.{ℤ}
use Rattle.std.proofs.lemmas.Int.{ints}
use Rattle.layout_geom.specs.declared.rect.Rect.{Rect}
use Rattle.layout_geom.specs.Rectangles.{Encloses}
use Rattle.layout_geom.specs.KeyLaws.{positive_key, no_greater_key}
use Rattle.layout_geom.specs.BoxNumbers.{same_box, all_boxes}
use Rattle.layout_geom.specs.NumberLists.{same_first}
use Rattle.box_search.specs.declared.space.Shape.{Shape}
use Rattle.box_search.specs.declared.space.Node.{Node}
use Rattle.whitespace_cover.specs.declared.region.Region.{Region}
use Rattle.whitespace_cover.specs.Problem.{WhiteProblem, white_numbers, IsWhiteKey}
use Rattle.whitespace_cover.specs.Regions.{shape_of, IsRectWithin, RectLiesIn, FitsWhite}

same_parts : (p q : WhiteProblem) → p.page ≡ q.page → p.obstacles ≡ q.obstacles → p.least ≡ q.least → p ≡ q
same_parts p q page obstacles least =
    subst (λ (r : Rect). p ≡ record { page = r; obstacles = q.obstacles; least = q.least }) page
    (subst (λ (xs : List Rect). p ≡ record { page = p.page; obstacles = xs; least = q.least }) obstacles
    (subst (λ (n : ℕ). p ≡ record { page = p.page; obstacles = p.obstacles; least = n }) least refl))

-- the numbers decide the problem
pub same_white_problem : (p q : WhiteProblem) → white_numbers p ≡ white_numbers q → p ≡ q
unfolding white_numbers
same_white_problem p q e =
    let first = same_box p.page q.page _ _ e in
    let second = same_first _ _ _ _ first.1 in
    same_parts p q first.0 (all_boxes p.obstacles q.obstacles second.1) second.0

pub white_positive : (numbers : List ℤ) (key : ℕ) → IsWhiteKey numbers key → 0 < key
white_positive numbers key admitted = omega (arith, admitted.holds.has_key, positive_key admitted.holds.rect)

-- what lies in the shape of a rectangle lies in the rectangle
pub enclosed : (q r : Rect) → IsRectWithin (shape_of q) r → Encloses q r
enclosed q r within = record {
  left = omega (arith, ints, within.left);
  top = omega (arith, ints, within.top);
  right = omega (arith, ints, within.right);
  bottom = omega (arith, ints, within.bottom);
}

-- and the other way round
pub within_shape : (q r : Rect) → Encloses q r → IsRectWithin (shape_of q) r
within_shape q r inside = record {
  left = omega (arith, ints, inside.left);
  top = omega (arith, ints, inside.top);
  right = omega (arith, ints, inside.right);
  bottom = omega (arith, ints, inside.bottom);
}

pub white_bounded : (numbers : List ℤ) (node : Node Region) (key : ℕ) → FitsWhite numbers node → IsWhiteKey numbers key
    → RectLiesIn key node.shape → key ≤ node.bound
white_bounded numbers node key fits admitted lies =
    let rect : Rect = node.work.rect in
    let within : Encloses rect lies.rect = enclosed rect lies.rect
    (subst (λ (s : Shape). IsRectWithin s lies.rect) fits.holds.outline.shape lies.within) in
    omega (arith, fits.holds.outline.bound, lies.has_key, no_greater_key rect lies.rect within)
