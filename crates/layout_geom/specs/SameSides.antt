-- A rectangle is its sides, so that there is one least rectangle.
use Rattle.std.proofs.Common.{◌≡◌, ℕ, ap, subst, sym, arith}
use Rattle.std.proofs.Props.{props}
use Rattle.layout_geom.specs.declared.rect.Rect.{Rect}
use Rattle.layout_geom.specs.Sides.{AreSides}
use Rattle.layout_geom.specs.Rectangles.{HasSides, Encloses, IsLeastRect}

sides_prop : (x0 y0 x1 y1 : ℕ) → IsProp (AreSides x0 y0 x1 y1)
sides_prop x0 y0 x1 y1 = hlevel props

abbrev made_rect : (x0 y0 x1 y1 : ℕ) → AreSides x0 y0 x1 y1 → Rect
made_rect x0 y0 x1 y1 p = record { x0 = x0; y0 = y0; x1 = x1; y1 = y1; sides = p }

IsMadeRect : Rect → ℕ → ℕ → ℕ → ℕ → Type 0
IsMadeRect s x0 y0 x1 y1 = (p : AreSides x0 y0 x1 y1) → made_rect x0 y0 x1 y1 p ≡ s

pub same_sides : (r s : Rect) → HasSides r s.x0 s.y0 s.x1 s.y1 → r ≡ s
unfolding IsMadeRect
same_sides r s is =
    let here : IsMadeRect s s.x0 s.y0 s.x1 s.y1 = λ p. ap (made_rect s.x0 s.y0 s.x1 s.y1) (sides_prop s.x0 s.y0 s.x1 s.y1 p s.sides) in
    subst (λ y1. IsMadeRect s r.x0 r.y0 r.x1 y1) (sym is.bottom)
    (subst (λ x1. IsMadeRect s r.x0 r.y0 x1 s.y1) (sym is.right)
    (subst (λ y0. IsMadeRect s r.x0 y0 s.x1 s.y1) (sym is.top)
    (subst (λ x0. IsMadeRect s x0 s.y0 s.x1 s.y1) (sym is.left) here))) r.sides

-- two rectangles that enclose each other
pub same_rect : (r s : Rect) → Encloses r s → Encloses s r → r ≡ s
same_rect r s outer inner =
    same_sides r s (record {
      left = omega (arith, outer.left, inner.left);
      top = omega (arith, outer.top, inner.top);
      right = omega (arith, outer.right, inner.right);
      bottom = omega (arith, outer.bottom, inner.bottom);
    })

-- the least rectangle round something is one
pub one_least : (Round : Rect → Type 0) (r s : Rect) → IsLeastRect Round r → IsLeastRect Round s → r ≡ s
one_least Round r s first second = same_rect r s (second.least r first.round) (first.least s second.round)
