use Rattle.std.proofs.Common.{◌≡◌, ◌^◌, ◌<◌, ℕ, ℤ, pos, negsuc, ◌+ℤ◌, ◌-ℤ◌, ◌≤ℤ◌, to_z, of_z, w8, w32, unsigned_abs, arith, ap, ◌∙◌}
use Rattle.std.proofs.lemmas.Int.{ints, to_z-of_z}
use Rattle.line_quality.specs.Points.{rise, middle_of}
use Rattle.line_counts.proofs.Places.{rises_little, middle_small, place_within}
use Rattle.line_counts.proofs.fit.place.Goals as goal

none_more : (h : ℤ) → pos 0 +ℤ h ≡ h
none_more h = omega (arith, ints)

wide_is : (y foot : ℕ) (h held : ℤ) → foot ≡ y → y < 2 ^ 16 → held ≡ h → negsuc 262 ≤ℤ h → h ≤ℤ pos 262
    → to_z w32 (of_z w32 (to_z w32 (of_z w32 (to_z w32 foot -ℤ to_z w32 (of_z w32 held))) +ℤ pos 304)) ≡ (pos y -ℤ h) +ℤ pos 304
wide_is y foot h held same small is low high = omega (arith, ints)

pub returns-clause-value : goal.returns-clause-value
returns-clause-value c =
    let r = c.args.rect.now in
    let x : ℕ = middle_of r in
    let h : ℤ = rise c.args.slope x in
    let held : c.height_at.result ≡ h = (rw (to_z-of_z w8 c.args.slope c.ranges.slope, c.middle.ensures.value) at c.height_at.ensures.value) ∙ none_more h in
    let little = rises_little c.args.slope x c.requires (middle_small r) in
    c.unsigned_abs.ensures.value ∙ ap unsigned_abs (wide_is r.y1 c.y1.result h c.height_at.result c.y1.ensures.value (omega arith) held little.0 little.1)

pub returns-clause-within : goal.returns-clause-within
returns-clause-within c =
    omega (arith, returns-clause-value c, place_within c.args.slope c.args.rect.now c.requires)
