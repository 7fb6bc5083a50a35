-- What a cut round a pivot leaves.
use Rattle.std.proofs.Common.{ℕ, ◌≤◌, [], ◌∷◌, Option, Some, None, Any, arith, refl, rules, ⊎_elim}
use Rattle.std.proofs.lemmas.Bool.{cases_lt}
use Rattle.layout_geom.specs.declared.rect.Rect.{Rect}
use Rattle.layout_geom.specs.Rectangles.{Overlaps, Encloses, IsPart, IsCut, HoldsIn}

inside_part : (x0 y0 x1 y1 : ℕ) (part : Option Rect) → IsPart x0 y0 x1 y1 part → (inner : Rect) → x0 ≤ inner.x0 → y0 ≤ inner.y0 → inner.x1 ≤ x1 → inner.y1 ≤ y1 → HoldsIn inner part
inside_part x0 y0 x1 y1 (Some part) is inner left top right bottom = (
  search rules,
  record {
    left = omega (arith, is.left);
    top = omega (arith, is.top);
    right = omega (arith, is.right);
    bottom = omega (arith, is.bottom);
  },
)
inside_part x0 y0 x1 y1 None empty inner left top right bottom = absurd (empty (omega (arith, inner.sides.wide)) (omega (arith, inner.sides.high)))

pub cut_covers : (r pivot : Rect) (left right above below : Option Rect) → IsCut r pivot (left ∷ right ∷ above ∷ below ∷ []) → (inner : Rect) → Encloses r inner → (Overlaps inner pivot → ⊥) → Any (HoldsIn inner) (left ∷ right ∷ above ∷ below ∷ [])
cut_covers r pivot left right above below cut inner within apart =
    ⊎_elim
    (λ a. ⊎_elim
    (λ b. ⊎_elim
    (λ d. ⊎_elim
    (λ e. absurd (apart (record { left = b; right = a; top = e; bottom = d })))
    (λ e. (3, below, omega arith, refl, inside_part _ _ _ _ below cut.3 inner within.left e within.right within.bottom))
    (cases_lt inner.y0 pivot.y1))
    (λ d. (2, above, omega arith, refl, inside_part _ _ _ _ above cut.2 inner within.left within.top within.right d))
    (cases_lt pivot.y0 inner.y1))
    (λ b. (1, right, omega arith, refl, inside_part _ _ _ _ right cut.1 inner b within.top within.right within.bottom))
    (cases_lt inner.x0 pivot.x1))
    (λ a. (0, left, omega arith, refl, inside_part _ _ _ _ left cut.0 inner within.left within.top a within.bottom))
    (cases_lt pivot.x0 inner.x1)
