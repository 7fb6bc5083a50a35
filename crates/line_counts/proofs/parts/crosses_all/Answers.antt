use Rattle.std.proofs.Common.{◌≡◌, ◌<◌, ◌+ℤ◌, ◌≤ℤ◌, ◌<ℤ◌, pos, negsuc, ℕ, ℤ, to_z, of_z, w8, w16, arith, ap, ◌∙◌, subst}
use Rattle.std.proofs.lemmas.Int.{ints}
use Rattle.layout_geom.specs.declared.rect.Rect.{Rect}
use Rattle.line_quality.specs.Points.{Crosses, rise, middle_of}
use Rattle.line_counts.proofs.Places.{held_slope, held_behind}
use Rattle.line_counts.proofs.parts.crosses_all.Goals as goal

lower : (y more : ℕ) (from r : ℤ) → pos y <ℤ (from +ℤ r) → pos y <ℤ ((from +ℤ pos more) +ℤ r)
lower y more from r below = omega (arith, ints)

higher : (y more count : ℕ) (from r : ℤ) → more < count → ((from +ℤ pos count) +ℤ r) ≤ℤ pos y → ((from +ℤ pos more) +ℤ r) ≤ℤ pos y
higher y more count from r less above = omega (arith, ints)

between : (slope from : ℤ) (more count : ℕ) (g : Rect) → more < count → Crosses slope from g → Crosses slope (from +ℤ pos count) g → Crosses slope (from +ℤ pos more) g
between slope from more count g less first last = record {
  below_top = lower g.y0 more from (rise slope (middle_of g)) first.below_top;
  above_foot = higher g.y1 more count from (rise slope (middle_of g)) less last.above_foot;
}

held_from : (from : ℤ) (count : ℕ) → negsuc 299 ≤ℤ from → (from +ℤ pos count) ≤ℤ pos 8493 → to_z w16 (of_z w16 from) ≡ from
held_from from count low high = omega (arith, ints)

far : (from : ℤ) (count : ℕ) → (from +ℤ pos count) ≤ℤ pos 8493 → (from +ℤ pos count) ≤ℤ pos 8555
far from count high = omega (arith, ints)

pub returns-then-crosses : goal.returns-then-crosses
returns-then-crosses c =
    let stretch = c.args.stretch.now in
    let g : Rect = c.args.gutter.now in
    let slope_is : to_z w8 (of_z w8 stretch.slope) ≡ stretch.slope = held_slope stretch.slope c.requires.slope in
    let from_is : to_z w16 (of_z w16 stretch.from) ≡ stretch.from = held_from stretch.from stretch.offsets c.requires.low c.requires.high in
    let behind : c.offset_behind.result ≡ stretch.from +ℤ pos stretch.offsets = c.offset_behind.ensures ∙ ap (λ (o : ℤ). o +ℤ pos stretch.offsets) from_is in
    let last_is : to_z w16 (of_z w16 c.offset_behind.result) ≡ stretch.from +ℤ pos stretch.offsets =
    held_behind c.offset_behind.result stretch.from stretch.offsets behind c.requires.low (far stretch.from stretch.offsets c.requires.high) ∙ behind in
    λ both more less.
    between stretch.slope stretch.from more stretch.offsets g less
    (subst (λ (o : ℤ). Crosses stretch.slope o g) from_is
    (subst (λ (s : ℤ). Crosses s (to_z w16 (of_z w16 stretch.from)) g) slope_is (c.crosses.ensures.crossing.0 c.if-crosses.true)))
    (subst (λ (o : ℤ). Crosses stretch.slope o g) last_is
    (subst (λ (s : ℤ). Crosses s (to_z w16 (of_z w16 c.offset_behind.result)) g) slope_is (c.crosses-then-crosses.ensures.crossing.0 both)))
