-- The least rectangle round connected places.
use Rattle.std.proofs.Common.{◌<◌, ◌≤◌, ℕ, ◌*◌, ◌-◌, inl, inr, refl, arith}
use Rattle.std.proofs.lemmas.Bool.{cases_lt}
use Rattle.std.proofs.Math.Nat.{mul-le-mul_right, mul-le-mul_left}
use Rattle.layout_limits.specs.declared.TheConstants.{MAX_PIXELS}
use Rattle.page_runs.specs.Page.{Page, IsPageSize}
use Rattle.layout_geom.specs.declared.rect.Rect.{Rect}
use Rattle.layout_geom.specs.Sides.{AreSides}
use Rattle.layout_geom.specs.Rectangles.{HasSides}
use Rattle.components.specs.declared.place.Place.{Place}
use Rattle.components.specs.declared.bounds.Bounds.{Bounds}
use Rattle.components.specs.declared.placed_run.PlacedRun.{PlacedRun}
use Rattle.components.specs.Connected.{IsConnected}
use Rattle.components.specs.Around.{around, bounds_of}
use Rattle.components.specs.Runs.{IsInRun, first_of, last_of}
use Rattle.components.specs.Groups.{HasPlace, IsTouched}
use Rattle.components.specs.Boxes.{IsBoxOf}
use Rattle.components.proofs.Paths.{end_is_black}

pub within_first : (b c : Bounds) (p : Place) → HasPlace b p → HasPlace (around b c) p
within_first b c p has = record { from_left = omega (arith, has.from_left); to_right = omega (arith, has.to_right); from_top = omega (arith, has.from_top); to_bottom = omega (arith, has.to_bottom) }

pub within_second : (b c : Bounds) (p : Place) → HasPlace c p → HasPlace (around b c) p
within_second b c p has = record { from_left = omega (arith, has.from_left); to_right = omega (arith, has.to_right); from_top = omega (arith, has.from_top); to_bottom = omega (arith, has.to_bottom) }

pub run_within : (run : PlacedRun) (p : Place) → IsInRun run p → HasPlace (bounds_of run) p
run_within run p p_in = record { from_left = omega (arith, p_in.left); to_right = omega (arith, p_in.right); from_top = omega (arith, p_in.level); to_bottom = omega (arith, p_in.level) }

pub run_touched : (S : Place → Type 0) (run : PlacedRun) → run.x0 < run.x1 → S (first_of run) → S (last_of run) → IsTouched S (bounds_of run)
run_touched S run some first last = record {
  left = (first_of run, first, refl);
  right = (last_of run, last, omega (arith, some));
  top = (first_of run, first, refl);
  bottom = (first_of run, first, refl);
}

-- what touches the sides of two touches those round both
pub around_touched : (S : Place → Type 0) (b c : Bounds) → IsTouched S b → IsTouched S c → IsTouched S (around b c)
around_touched S b c first second = record {
  left = elim (cases_lt c.x0 b.x0) [ inl less ↦ ((second.left).0, (second.left).1, omega (arith, (second.left).2, less)) | inr not_less ↦ ((first.left).0, (first.left).1, omega (arith, (first.left).2, not_less)) ];
  right = elim (cases_lt b.x1 c.x1) [ inl more ↦ ((second.right).0, (second.right).1, omega (arith, (second.right).2, more)) | inr not_more ↦ ((first.right).0, (first.right).1, omega (arith, (first.right).2, not_more)) ];
  top = elim (cases_lt c.y0 b.y0) [ inl less ↦ ((second.top).0, (second.top).1, omega (arith, (second.top).2, less)) | inr not_less ↦ ((first.top).0, (first.top).1, omega (arith, (first.top).2, not_less)) ];
  bottom = elim (cases_lt b.y1 c.y1) [ inl more ↦ ((second.bottom).0, (second.bottom).1, omega (arith, (second.bottom).2, more)) | inr not_more ↦ ((first.bottom).0, (first.bottom).1, omega (arith, (first.bottom).2, not_more)) ];
}

pub touched_weaker : (S T : Place → Type 0) (b : Bounds) → ((p : Place) → S p → T p) → IsTouched S b → IsTouched T b
touched_weaker S T b weaker touched = record {
  left = ((touched.left).0, weaker (touched.left).0 (touched.left).1, (touched.left).2);
  right = ((touched.right).0, weaker (touched.right).0 (touched.right).1, (touched.right).2);
  top = ((touched.top).0, weaker (touched.top).0 (touched.top).1, (touched.top).2);
  bottom = ((touched.bottom).0, weaker (touched.bottom).0 (touched.bottom).1, (touched.bottom).2);
}

-- the rectangle of the sides
pub is_box : (page : Page) (start : Place) (bounds : Bounds) (box : Rect)
    → IsTouched (IsConnected page start) bounds → ((p : Place) → IsConnected page start p → HasPlace bounds p)
    → HasSides box bounds.x0 bounds.y0 bounds.x1 bounds.y1 → IsBoxOf page start box
is_box page start bounds box touched has sides = record {
  round = λ q c. let h = has q c in record { from_left = omega (arith, h.from_left, sides.left); to_right = omega (arith, h.to_right, sides.right); from_top = omega (arith, h.from_top, sides.top); to_bottom = omega (arith, h.to_bottom, sides.bottom) };
  least = λ other holds.
      let left = holds (touched.left).0 (touched.left).1 in
      let right = holds (touched.right).0 (touched.right).1 in
      let top = holds (touched.top).0 (touched.top).1 in
      let bottom = holds (touched.bottom).0 (touched.bottom).1 in
      record {
        left = omega (arith, left.from_left, (touched.left).2, sides.left);
        top = omega (arith, top.from_top, (touched.top).2, sides.top);
        right = omega (arith, right.to_right, (touched.right).2, sides.right);
        bottom = omega (arith, bottom.to_bottom, (touched.bottom).2, sides.bottom);
      };
}

smaller : (w h width height : ℕ) → w ≤ width → h ≤ height → width * height ≤ MAX_PIXELS → w * h ≤ MAX_PIXELS
smaller w h width height narrow low small = omega (arith, mul-le-mul_right h narrow, mul-le-mul_left width low)

pub are_sides : (page : Page) (start : Place) (bounds : Bounds) → IsTouched (IsConnected page start) bounds → ((p : Place) → IsConnected page start p → HasPlace bounds p)
    → IsPageSize page.width page.height → AreSides bounds.x0 bounds.y0 bounds.x1 bounds.y1
are_sides page start bounds touched has sizes =
    let corner = has (touched.left).0 (touched.left).1 in
    let right = (end_is_black page start (touched.right).0 (touched.right).1).in_row in
    let bottom = (end_is_black page start (touched.bottom).0 (touched.bottom).1).in_column in
    let wide : bounds.x1 ≤ page.width = omega (arith, right, (touched.right).2) in
    let high : bounds.y1 ≤ page.height = omega (arith, bottom, (touched.bottom).2) in
    record {
      wide = omega (arith, corner.from_left, corner.to_right);
      high = omega (arith, corner.from_top, corner.to_bottom);
      right = omega (arith, wide, sizes.width_bound);
      bottom = omega (arith, high, sizes.height_bound);
      small = smaller (bounds.x1 - bounds.x0) (bounds.y1 - bounds.y0) page.width page.height (omega arith) (omega arith) sizes.area_bound;
    }
