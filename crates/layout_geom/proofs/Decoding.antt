-- The rectangle that is made of the digits of a key.
use Rattle.std.proofs.Common.{◌≡◌, ℕ, ◌+◌, ◌*◌, ◌/◌, ◌%◌, arith, ap, sym, ◌∙◌, true, false, Option, Some, None, IsSome, IfSome, IfNone}
use Rattle.std.proofs.Math.Nat.{mul-mod_right, div-add-mod}
use Rattle.layout_geom.specs.declared.rect.Rect.{Rect}
use Rattle.layout_geom.specs.Sides.{AreSides}
use Rattle.layout_geom.specs.Rectangles.{width_of, height_of, area_of, HasSides}
use Rattle.layout_geom.specs.Keys.{rect_key}
use Rattle.layout_geom.specs.KeyLaws.{key_digits, width_in, left_in, top_in, area_in, IsDecoded, decoded, height_decoded, same_key}

pub width_divides : (r : Rect) (key : ℕ) → IsDecoded key r → area_in key % width_in key ≡ 0
width_divides r key d = rw (← d.area, ← d.width) (mul-mod_right (width_of r) (height_of r))

sides_decoded : (r : Rect) (key : ℕ) → IsDecoded key r → AreSides (left_in key) (top_in key) (left_in key + width_in key) (top_in key + area_in key / width_in key)
sides_decoded r key d =
    let right : left_in key + width_in key ≡ r.x1 = omega (arith, d.left, d.width, r.sides.wide) in
    let bottom : top_in key + area_in key / width_in key ≡ r.y1 = omega (arith, d.top, height_decoded r key d, r.sides.high) in
    rw (right, bottom, ← d.left, ← d.top) r.sides

-- the rectangle of these sides has the key
encoded : (r : Rect) (key : ℕ) → HasSides r (left_in key) (top_in key) (left_in key + width_in key) (top_in key + area_in key / width_in key) → area_in key % width_in key ≡ 0 → rect_key r ≡ key
unfolding rect_key
encoded r key is divides =
    let width : width_of r ≡ width_in key = omega (arith, is.left, is.right) in
    let height : height_of r ≡ area_in key / width_in key = omega (arith, is.top, is.bottom) in
    let product : width_in key * (area_in key / width_in key) ≡ area_in key = omega (arith, div-add-mod (area_in key) (width_in key), divides) in
    let area : area_of r ≡ area_in key = rw (width, height) product in
    omega (arith, area, width, is.left, is.top, key_digits key)

-- what is made of the sides has the key
pub made : (key : ℕ) (result : Option Rect) → IfSome result (λ r. HasSides r (left_in key) (top_in key) (left_in key + width_in key) (top_in key + area_in key / width_in key)) → area_in key % width_in key ≡ 0 → IfSome result (λ r. rect_key r ≡ key)
made key (Some r) is divides = encoded r key is divides
made key None is divides = tt

-- where nothing is made of the sides, no rectangle has the key
pub not_made : (key : ℕ) (result : Option Rect) → (AreSides (left_in key) (top_in key) (left_in key + width_in key) (top_in key + area_in key / width_in key) → IsSome result) → IfNone result ((r : Rect) → rect_key r ≡ key → ⊥)
not_made key (Some r) h = tt
not_made key None h = λ r is. let no : false ≡ true = h (sides_decoded r key (decoded r key is)) in cc

-- so the rectangle that has the key is the one that is made
pub made_back : (key : ℕ) (result : Option Rect) → IfSome result (λ r. rect_key r ≡ key) → IfNone result ((r : Rect) → rect_key r ≡ key → ⊥) → (r : Rect) → rect_key r ≡ key → result ≡ Some r
made_back key (Some made) some none r is = ap (λ (r : Rect). Some r) (same_key made r (some ∙ sym is))
made_back key None some none r is = absurd (none r is)
