-- What the sides of all rectangles say of their pixels.
use Rattle.std.proofs.Common.{Bool, IsTrue, ◌↔◌, ◌-◌, ◌≤◌, max, min, arith}
use Rattle.std.proofs.lemmas.Nat.{mul-le}
use Rattle.layout_limits.specs.declared.TheConstants.{MAX_PIXELS}
use Rattle.layout_geom.specs.declared.rect.Rect.{Rect}
use Rattle.layout_geom.specs.Rectangles.{HasPixel, Overlaps, SharesPixel, Encloses, HasPixelsOf, hull_area}

pub shares_pixel : (r s : Rect) → Overlaps r s → SharesPixel r s
shares_pixel r s o = record {
  x = max r.x0 s.x0;
  y = max r.y0 s.y0;
  in_first = record {
    from_left = omega arith;
    to_right = omega (arith, o.right, r.sides.wide);
    from_top = omega arith;
    to_bottom = omega (arith, o.bottom, r.sides.high);
  };
  in_second = record {
    from_left = omega arith;
    to_right = omega (arith, o.left, s.sides.wide);
    from_top = omega arith;
    to_bottom = omega (arith, o.top, s.sides.high);
  };
}

pub overlaps : (r s : Rect) → SharesPixel r s → Overlaps r s
overlaps r s p = record {
  left = omega (arith, p.in_first.from_left, p.in_second.to_right);
  right = omega (arith, p.in_second.from_left, p.in_first.to_right);
  top = omega (arith, p.in_first.from_top, p.in_second.to_bottom);
  bottom = omega (arith, p.in_second.from_top, p.in_first.to_bottom);
}

pub has_pixels_of : (r s : Rect) → Encloses r s → HasPixelsOf r s
has_pixels_of r s e = λ x y has. record {
  from_left = omega (arith, e.left, has.from_left);
  to_right = omega (arith, e.right, has.to_right);
  from_top = omega (arith, e.top, has.from_top);
  to_bottom = omega (arith, e.bottom, has.to_bottom);
}

-- the corners are enough
pub encloses : (r s : Rect) → HasPixelsOf r s → Encloses r s
encloses r s has =
    let first : HasPixel r s.x0 s.y0 = has s.x0 s.y0 (record {
      from_left = omega arith;
      to_right = s.sides.wide;
      from_top = omega arith;
      to_bottom = s.sides.high;
    }) in
    let last : HasPixel r (s.x1 - 1) (s.y1 - 1) = has (s.x1 - 1) (s.y1 - 1) (record {
      from_left = omega (arith, s.sides.wide);
      to_right = omega (arith, s.sides.wide);
      from_top = omega (arith, s.sides.high);
      to_bottom = omega (arith, s.sides.high);
    }) in
    record {
      left = first.from_left;
      top = first.from_top;
      right = omega (arith, last.to_right, s.sides.wide);
      bottom = omega (arith, last.to_bottom, s.sides.high);
    }

-- a test of the sides is one of the pixels
pub overlap_test : (test : Bool) (r s : Rect) → (IsTrue test ↔ Overlaps r s) → (IsTrue test ↔ SharesPixel r s)
overlap_test test r s sides = (λ is. shares_pixel r s (sides.0 is), λ p. sides.1 (overlaps r s p))

-- two rectangles inside one have a hull
pub hull_small : (outer r s : Rect) → Encloses outer r → Encloses outer s → hull_area r s ≤ MAX_PIXELS
hull_small outer r s first second =
    let wide : max r.x1 s.x1 - min r.x0 s.x0 ≤ outer.x1 - outer.x0 = omega (arith, first.left, first.right, second.left, second.right) in
    let high : max r.y1 s.y1 - min r.y0 s.y0 ≤ outer.y1 - outer.y0 = omega (arith, first.top, first.bottom, second.top, second.bottom) in
    let few = mul-le (max r.x1 s.x1 - min r.x0 s.x0) (max r.y1 s.y1 - min r.y0 s.y0)
    (outer.x1 - outer.x0) (outer.y1 - outer.y0) wide high in
    omega (arith, few, outer.sides.small)
