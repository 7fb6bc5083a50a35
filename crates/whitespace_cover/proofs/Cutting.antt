-- The parts of a rectangle round a pivot, and the nodes of those that have the least size.
use Rattle.std.proofs.Common.{◌≡◌, ℕ, ◌+◌, ◌-◌, ◌<◌, ◌≤◌, List, [], ◌∷◌, ◌++◌, length, get_or, take, refl, Option, Some, None, IfSome, All, Any, Bool, true, false, cond, nat_le, ◌&&◌, zero, suc, arith, ap, sym, ◌∙◌, subst}
use Rattle.std.specs.List.{cons_option}
use Rattle.std.proofs.lemmas.List.{take_more}
use Rattle.std.proofs.lemmas.List.Elements.{All-nil, All-cons, All-head, All-tail, All-get_or, filter_map-append}
use Rattle.std.proofs.lemmas.Bool.{leb-true, le-leb}
use Rattle.layout_geom.specs.declared.rect.Rect.{Rect}
use Rattle.layout_geom.specs.Rectangles.{width_of, height_of, area_of, Encloses, Overlaps, IsCut, IsPart, HoldsIn}
use Rattle.std.proofs.Math.Nat.{mul-lt-mul_of_pos_left, mul-lt-mul_of_pos_right}
use Rattle.whitespace_cover.specs.Admissible.{IsRoomy}
use Rattle.whitespace_cover.specs.Regions.{roomy_part, roomy_parts}

-- a part is a smaller rectangle inside
pub record IsSmaller (r q : Rect) : Type 0 where
  pub inside : Encloses r q
  pub smaller : area_of q < area_of r

narrow_part : (r : Rect) (x0 x1 : ℕ) (part : Option Rect) → IsPart x0 r.y0 x1 r.y1 part → r.x0 ≤ x0 → x1 ≤ r.x1 → x1 - x0 < width_of r → IfSome part (IsSmaller r)
narrow_part r x0 x1 (Some q) is left right narrow = record {
  inside = record { left = omega (arith, is.left); top = omega (arith, is.top); right = omega (arith, is.right); bottom = omega (arith, is.bottom) };
  smaller =
      let width : width_of q < width_of r = omega (arith, is.left, is.right) in
      let height : height_of q ≡ height_of r = omega (arith, is.top, is.bottom) in
      rw height (mul-lt-mul_of_pos_right width (omega (arith, r.sides.high)));
}
narrow_part r x0 x1 None is left right narrow = tt

low_part : (r : Rect) (y0 y1 : ℕ) (part : Option Rect) → IsPart r.x0 y0 r.x1 y1 part → r.y0 ≤ y0 → y1 ≤ r.y1 → y1 - y0 < height_of r → IfSome part (IsSmaller r)
low_part r y0 y1 (Some q) is top bottom low = record {
  inside = record { left = omega (arith, is.left); top = omega (arith, is.top); right = omega (arith, is.right); bottom = omega (arith, is.bottom) };
  smaller =
      let width : width_of q ≡ width_of r = omega (arith, is.left, is.right) in
      let height : height_of q < height_of r = omega (arith, is.top, is.bottom) in
      rw width (mul-lt-mul_of_pos_left height (omega (arith, r.sides.wide)));
}
low_part r y0 y1 None is top bottom low = tt

-- each part of a cut is smaller, and there are four
pub record IsFourSmaller (r : Rect) (parts : List (Option Rect)) : Type 0 where
  pub four : length parts ≡ 4
  pub smaller : All (λ part. IfSome part (IsSmaller r)) parts

pub cut_smaller : (r pivot : Rect) → Overlaps r pivot → (parts : List (Option Rect)) → IsCut r pivot parts → IsFourSmaller r parts
cut_smaller r pivot meets (left ∷ right ∷ above ∷ below ∷ []) cut =
    let P : Option Rect → Type 0 = λ part. IfSome part (IsSmaller r) in
    record {
      four = refl;
      smaller =
          All-cons P left (right ∷ above ∷ below ∷ []) (narrow_part r r.x0 pivot.x0 left cut.0 (omega arith) (omega (arith, meets.right)) (omega (arith, meets.right, r.sides.wide)))
          (All-cons P right (above ∷ below ∷ []) (narrow_part r pivot.x1 r.x1 right cut.1 (omega (arith, meets.left)) (omega arith) (omega (arith, meets.left, r.sides.wide)))
          (All-cons P above (below ∷ []) (low_part r r.y0 pivot.y0 above cut.2 (omega arith) (omega (arith, meets.bottom)) (omega (arith, meets.bottom, r.sides.high)))
          (All-cons P below [] (low_part r pivot.y1 r.y1 below cut.3 (omega (arith, meets.top)) (omega arith) (omega (arith, meets.top, r.sides.high))) (All-nil P))));
    }
cut_smaller r pivot meets [] cut = absurd cut
cut_smaller r pivot meets (a ∷ []) cut = absurd cut
cut_smaller r pivot meets (a ∷ b ∷ []) cut = absurd cut
cut_smaller r pivot meets (a ∷ b ∷ d ∷ []) cut = absurd cut
cut_smaller r pivot meets (a ∷ b ∷ d ∷ e ∷ f ∷ others) cut = absurd cut

-- the part at a place lies inside
pub part_inside : (r pivot : Rect) → Overlaps r pivot → (parts : List (Option Rect)) → IsCut r pivot parts → (i : ℕ) (part : Option Rect) (q : Rect) → i < 4 → get_or parts i part ≡ Some q → Encloses r q
part_inside r pivot meets parts cut i part q below some =
    let P : Option Rect → Type 0 = λ p. IfSome p (IsSmaller r) in
    let four : IsFourSmaller r parts = cut_smaller r pivot meets parts cut in
    let here : P (get_or parts i part) = All-get_or P parts i part (omega (arith, four.four)) four.smaller in
    let inner : IsSmaller r q = subst P some here in
    inner.inside

module _ (least : ℕ) where
  -- one more part, where it is kept and where it is not
  pub one_more : (parts : List (Option Rect)) (i : ℕ) (part : Option Rect) (kept : Option Rect) (rects : List Rect) → i < length parts → roomy_part least (get_or parts i part) ≡ kept → rects ≡ roomy_parts least (take i parts) → rects ++ cons_option kept [] ≡ roomy_parts least (take (i + 1) parts)
  one_more parts i part kept rects within same so_far =
      rw (take_more parts i part within, filter_map-append, same, so_far) refl

  pub roomy_is : (part : Option Rect) (q : Rect) (roomy : Bool) → part ≡ Some q → roomy ≡ (nat_le least (width_of q) && nat_le least (height_of q)) → roomy_part least part ≡ cond roomy (Some q) None
  roomy_is part q roomy some is = ap (roomy_part least) some ∙ ap (λ (b : Bool). cond b (Some q) None) (sym is)

  kept_one : (P : Rect → Type 0) (q : Rect) (others : List Rect) (a b : Bool) → (a ≡ true → b ≡ true → P q) → All P others → All P (cons_option (cond (a && b) (Some q) None) others)
  kept_one P q others true true holds all = All-cons P q others (holds refl refl) all
  kept_one P q others true false holds all = all
  kept_one P q others false b holds all = all

  -- what holds of all roomy parts holds of those that are kept
  pub kept_all : (P Q : Rect → Type 0) → ((q : Rect) → Q q → IsRoomy least q → P q) → (parts : List (Option Rect)) → All (λ part. IfSome part Q) parts → All P (roomy_parts least parts)
  kept_all P Q holds [] all = All-nil P
  kept_all P Q holds (None ∷ parts) all = kept_all P Q holds parts (All-tail (λ part. IfSome part Q) None parts all)
  kept_all P Q holds (Some q ∷ parts) all =
      let here : Q q = All-head (λ part. IfSome part Q) (Some q) parts all in
      let others : All P (roomy_parts least parts) = kept_all P Q holds parts (All-tail (λ part. IfSome part Q) (Some q) parts all) in
      kept_one P q (roomy_parts least parts) (nat_le least (width_of q)) (nat_le least (height_of q)) (λ wide high. holds q here (record { wide = leb-true least (width_of q) wide; high = leb-true least (height_of q) high })) others

  one_longer : (o : Option Rect) (others : List Rect) → length (cons_option o others) ≤ suc (length others)
  one_longer (Some q) others = omega arith
  one_longer None others = omega arith

  pub few_kept : (parts : List (Option Rect)) → length (roomy_parts least parts) ≤ length parts
  few_kept [] = omega arith
  few_kept (part ∷ parts) = omega (arith, few_kept parts, one_longer (roomy_part least part) (roomy_parts least parts))

  any_skip : (P : Rect → Type 0) (o : Option Rect) (others : List Rect) → Any P others → Any P (cons_option o others)
  any_skip P (Some q) others (k, x, within, at, holds) = (suc k, x, omega arith, at, holds)
  any_skip P None others any = any

  never : false ≡ true → ⊥
  never h = cc

  any_here : (P : Rect → Type 0) (q : Rect) (others : List Rect) (a b : Bool) → a ≡ true → b ≡ true → P q → Any P (cons_option (cond (a && b) (Some q) None) others)
  any_here P q others true true wide high holds = (0, q, omega arith, refl, holds)
  any_here P q others true false wide high holds = absurd (never high)
  any_here P q others false b wide high holds = absurd (never wide)

  in_first : (inner : Rect) → IsRoomy least inner → (part : Option Rect) (parts : List (Option Rect)) → HoldsIn inner part → Any (λ q. Encloses q inner) (roomy_parts least (part ∷ parts))
  in_first inner roomy None parts holds = absurd (never holds.0)
  in_first inner roomy (Some q) parts holds =
      let round : Encloses q inner = holds.1 in
      any_here (λ r. Encloses r inner) q (roomy_parts least parts) (nat_le least (width_of q)) (nat_le least (height_of q))
      (le-leb least (width_of q) (omega (arith, roomy.wide, round.left, round.right)))
      (le-leb least (height_of q) (omega (arith, roomy.high, round.top, round.bottom)))
      round

  -- a roomy rectangle in a part lies in a part that is kept
  pub kept_any : (inner : Rect) → IsRoomy least inner → (parts : List (Option Rect)) → Any (HoldsIn inner) parts → Any (λ q. Encloses q inner) (roomy_parts least parts)
  kept_any inner roomy [] (k, part, within, at, holds) = absurd (omega arith)
  kept_any inner roomy (p ∷ parts) (zero, part, within, at, holds) =
      in_first inner roomy p parts (subst (λ (x : Option Rect). HoldsIn inner x) (sym at) holds)
  kept_any inner roomy (p ∷ parts) (suc k, part, within, at, holds) =
      any_skip (λ q. Encloses q inner) (roomy_part least p) (roomy_parts least parts) (kept_any inner roomy parts (k, part, omega arith, at, holds))
